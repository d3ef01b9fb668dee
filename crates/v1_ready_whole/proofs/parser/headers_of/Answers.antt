use Rattle.std.proofs.Common.{option_map, sym, ap, ◌∙◌}
use Rattle.std.proofs.lemmas.Option.{slice_get-map}
use Rattle.v1_seats.specs.Seen.{seen_seat}
use Rattle.v1_ready_whole.proofs.Standing.{range_is}
use Rattle.v1_ready_whole.proofs.parser.headers_of.Goals as goal

pub returns : goal.returns
returns c =
    let p = c.args.program in
    range_is p.syntax.now p.types.now p.seats.now (seen_seat c.in-Some.seat) (option_map seen_seat c.seat_at.result) c.in_ok-range.range c.requires.types c.requires.seats (c.seat_at.ensures ∙ sym (slice_get-map seen_seat p.seats.now 0)) (ap (option_map seen_seat) c.in-Some.is) c.in_ok-range.ensures
