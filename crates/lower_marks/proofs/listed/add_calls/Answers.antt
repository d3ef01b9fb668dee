use Rattle.std.proofs.Common.{◌∙◌, ap}
use Rattle.lower_names.specs.Picked.{with_all}
use Rattle.lower_marks.specs.Preserving.{lists_in}
use Rattle.lower_marks.proofs.Listing.{joined_turn}
use Rattle.lower_marks.proofs.listed.add_calls.Goals as goal

pub loop-call-preserved : goal.loop-call-preserved
loop-call-preserved c =
    joined_turn lists_in c.args.calls.now c.loop-call.call-index c.call-item.result c.loop-call.known c.add_call.new.known _ c.loop-call-test.true
    (c.in_ok-add_call.ensures ∙ ap (λ i. with_all c.loop-call.known (lists_in i)) c.call-item.is) c.loop-call.invariant
