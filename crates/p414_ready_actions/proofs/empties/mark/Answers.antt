use Rattle.std.proofs.Common.{rules}
use Rattle.p414_ready_actions.proofs.Emptying.{mark_now}
use Rattle.p414_ready_actions.proofs.empties.mark.Goals as goal

pub returns-then-is_empty_body : goal.returns-then-is_empty_body
returns-then-is_empty_body c =
    mark_now c.args.names.now c.args.calls.now c.args.marks.now.items c.deref.result.now c.args.action c.in-Some.found.now c.as_slice.result.now c.is_empty_body.result
    c.requires (search rules) (search rules) (search rules) (search rules) c.if-is_empty_body.true
