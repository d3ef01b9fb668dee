use Rattle.std.proofs.Common.{option_map, sym, ap, ◌∙◌}
use Rattle.std.proofs.lemmas.Option.{slice_get-map}
use Rattle.v1_seats.specs.Seen.{seen_seat}
use Rattle.v1_ready_whole.proofs.Standard.{slot_is}
use Rattle.v1_ready_whole.proofs.slots.standard_slot.Goals as goal

pub returns : goal.returns
returns c =
    slot_is c.args.syntax.now c.args.types.now c.args.seats.now (seen_seat c.in-Some.standard) (option_map seen_seat c.seat_at.result) (option_map seen_seat c.in_ok-field.field) c.args.word.now c.slot_of.result c.requires.types c.requires.seats (c.seat_at.ensures ∙ sym (slice_get-map seen_seat c.args.seats.now 2))
    (ap (option_map seen_seat) c.in-Some.is) c.in_ok-field.ensures c.slot_of.ensures
