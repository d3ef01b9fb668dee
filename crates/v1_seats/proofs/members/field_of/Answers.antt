use Rattle.std.proofs.Common.{subst}
use Rattle.p416_syntax.specs.Scopes.{fields_in}
use Rattle.p416_names.specs.SeenKinds.{seen_kind}
use Rattle.v1_core.specs.Seats.{form_of}
use Rattle.v1_seats.specs.Seen.{seen_start}
use Rattle.v1_seats.specs.internal.Rows.{Finds}
use Rattle.v1_seats.proofs.Stepping.{field_there}
use Rattle.v1_seats.proofs.members.field_of.Goals as goal

pub returns : goal.returns
returns c =
    field_there (fields_in c.args.rows.now.types c.args.of.now) c.args.word.now c.in-Some.field (seen_start c.args.seat.start) (seen_start c.in_ok-start.start) (form_of (seen_kind c.as_bits.result)) c.args.seat.start.header c.args.seat.depth
    (subst (λ found. Finds (fields_in c.args.rows.now.types c.args.of.now) c.args.word.now found) c.in-Some.is (c.in_ok-field.ensures (fields_in c.args.rows.now.types c.args.of.now) c.in_ok-row.ensures)) c.in_ok-start.ensures c.as_bits.ensures
