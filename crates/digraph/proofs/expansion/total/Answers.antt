use Rattle.std.proofs.Common.{get_or}
use Rattle.digraph.proofs.Members.{among_place}
use Rattle.digraph.proofs.expansion.total.Goals as goal

pub known_size-requires : goal.known_size-requires
known_size-requires c = c.requires (get_or c.args.calls.now c.loop-callee.callee-index 0) (among_place c.args.calls.now c.loop-callee.callee-index 0 c.loop-callee-test.true)
