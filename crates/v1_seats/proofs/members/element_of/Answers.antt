use Rattle.std.proofs.Common.{length, refl, arith}
use Rattle.p416_syntax.specs.Scopes.{fields_in}
use Rattle.v1_seats.specs.Seen.{seen_start}
use Rattle.v1_seats.proofs.Stepping.{element_there}
use Rattle.v1_seats.proofs.members.element_of.Goals as goal

pub returns : goal.returns
returns c =
    element_there c.args.seat.depth c.args.of.now (length (fields_in c.args.rows.now.types c.args.of.now)) c.in_ok-field_count.field-0 c.args.size c.in_ok-header.header c.in_ok-slot.slot (seen_start c.args.seat.start) (seen_start c.in_ok-start.start)
    (record { slot = c.in_ok-slot.slot; header = c.in_ok-header.header; stack = 0 }) c.args.number (omega arith) c.in_ok-header.ensures c.in_ok-field_count.ensures c.in_ok-slot.ensures refl refl refl c.in_ok-start.ensures
