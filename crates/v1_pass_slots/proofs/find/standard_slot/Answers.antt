use Rattle.std.proofs.Common.{sym, ap, ◌∙◌, option_map}
use Rattle.std.proofs.lemmas.Result.{IfOk-weaker}
use Rattle.v1_seats.specs.Seen.{seen_start, seen_seat}
use Rattle.v1_pass_slots.proofs.Found.{field_found}
use Rattle.v1_pass_slots.proofs.find.standard_slot.Goals as goal

pub returns-in-Some : goal.returns-in-Some
returns-in-Some c =
    IfOk-weaker c.lone_slot.result _ _ (λ slot lone.
    field_found c.args.types.now c.args.layout.now (seen_seat c.in_ok-standard.standard) (seen_seat c.in-Some.field) (seen_start c.args.start) c.args.word.now c.args.width slot
    c.in_ok-standard.ensures (ap (option_map seen_seat) (sym c.in-Some.is) ∙ c.in_ok-field.ensures) lone) c.lone_slot.ensures
