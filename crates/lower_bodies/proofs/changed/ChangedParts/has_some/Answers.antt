use Rattle.std.proofs.Common.{◌∙◌, sym, ap, ap₂}
use Rattle.std.specs.List.{list_any}
use Rattle.std.proofs.lemmas.List.{take_all}
use Rattle.std.specs.Prelude.{◌||◌}
use Rattle.std.proofs.lemmas.List.Folds.{list_any_at, list_any_more}
use Rattle.lower_bodies.specs.Changed.{is_kept}
use Rattle.lower_bodies.specs.Apart.{number_in}
use Rattle.lower_bodies.proofs.Sets.{some_number}
use Rattle.lower_bodies.proofs.changed.ChangedParts.has_some.Goals as goal

pub returns-then-has_slot : goal.returns-then-has_slot
returns-then-has_slot c =
    sym (some_number c.args.self.now c.args.slots.now
    ∙ list_any_at (λ slot. is_kept c.args.self.now (number_in slot)) c.args.slots.now c.loop-slot.slot-index _ c.loop-slot-test.true (sym c.has_slot.ensures ∙ c.if-has_slot.true))

pub returns : goal.returns
returns c =
    sym (some_number c.args.self.now c.args.slots.now
    ∙ ap (list_any (λ slot. is_kept c.args.self.now (number_in slot))) (sym (take_all c.loop-slot.slot-index c.args.slots.now c.loop-slot-test.false))
    ∙ c.loop-slot.invariant)

pub loop-slot-preserved : goal.loop-slot-preserved
loop-slot-preserved c =
    list_any_more (λ slot. is_kept c.args.self.now (number_in slot)) c.args.slots.now c.loop-slot.slot-index _ c.loop-slot-test.true
    ∙ ap₂ (λ a b. a || b) c.loop-slot.invariant (sym c.has_slot.ensures ∙ c.if-has_slot.false)
