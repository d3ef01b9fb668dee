use Rattle.std.proofs.Common.{map, arith}
use Rattle.p414_syntax.specs.References.{referred}
use Rattle.p414_preserved_check.proofs.Loops.{named_whole}
use Rattle.p414_preserved_check.proofs.named.add_arguments.Goals as goal

pub returns : goal.returns
returns c =
    named_whole c.args.wanted c.args.places.now c.args.arguments.now c.loop-k.k (map referred c.loop-k.found.items) _ (omega (arith, c.loop-k-test.false, c.min-k-end.ensures)) c.loop-k.invariant
