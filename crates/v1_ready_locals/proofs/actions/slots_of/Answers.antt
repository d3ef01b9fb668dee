use Rattle.std.proofs.Common.{sym, subst, ap, ◌∙◌, All}
use Rattle.std.proofs.lemmas.List.Elements.{All-push}
use Rattle.v1_ready_blocks.specs.Nodes.{IsSlot}
use Rattle.v1_ready_statements.specs.Around.{slot_of_seat}
use Rattle.v1_ready_locals.proofs.Acting.{slots_on}
use Rattle.v1_ready_locals.proofs.actions.slots_of.Goals as goal

pub loop-parameter-preserved : goal.loop-parameter-preserved
loop-parameter-preserved g c = record {
  slots =
      slots_on (g.S.Singles.block c.args.singles.now) c.args.parameters.now c.loop-parameter._parameter-index c.loop-parameter.number c.in_ok-number.number c.loop-parameter-test.true c.loop-parameter.slots _ c.in-Some.slot _ c.in_ok-push.ensures.ok c.in_ok-number.ensures
      (sym c.in-Some.is ∙ (c.slot_of.ensures ∙ ap slot_of_seat c.in_ok-variable.ensures)) c.loop-parameter.invariant.slots;
  within = subst (All (IsSlot c.args.layout.now)) (sym c.in_ok-push.ensures.ok) (All-push (IsSlot c.args.layout.now) c.loop-parameter.slots c.in-Some.slot c.loop-parameter.invariant.within (c.is_slot.ensures c.if-not-is_slot.false));
}
