use Rattle.std.proofs.Common.{◌∙◌, ap}
use Rattle.lower_names.specs.Picked.{with_all}
use Rattle.lower_marks.specs.Preserving.{lists_by}
use Rattle.lower_marks.proofs.Listing.{joined_turn}
use Rattle.lower_marks.proofs.listed.listed_by.Goals as goal

pub loop-action-preserved : goal.loop-action-preserved
loop-action-preserved c =
    joined_turn lists_by c.args.actions.now c.loop-action.action-index c.action-item.result c.loop-action.known c.add_calls.new.known _ c.loop-action-test.true
    (c.in_ok-add_calls.ensures ∙ ap (λ a. with_all c.loop-action.known (lists_by a)) (c.as_slice.ensures ∙ c.action-item.is)) c.loop-action.invariant
