use Rattle.std.proofs.Common.{◌-◌, map, subst, arith}
use Rattle.p416_syntax.specs.Scopes.{fields_in}
use Rattle.v1_seats.specs.Seen.{seen_start}
use Rattle.v1_seats.specs.internal.Rows.{Finds}
use Rattle.v1_seats.proofs.Stepping.{member_missing, member_there}
use Rattle.v1_seats.proofs.members.member_of.Goals as goal

pub returns : goal.returns
returns c =
    member_there c.args.rows.now.types c.args.of.now c.args.word.now c.in-Some.member (map seen_start c.in_ok-members.members.now.starts.items) (seen_start c.in_ok-members.members.now.all.size) (seen_start c.args.seat.start) (seen_start c.in_ok-start.start) (seen_start c.in_ok-member_start.field-0) c.in_ok-members.members.now.all.depth (c.args.seat.depth - 1) c.args.seat.depth
    (subst (λ found. Finds (fields_in c.args.rows.now.types c.args.of.now) c.args.word.now found) c.in-Some.is (c.in_ok-member.ensures (fields_in c.args.rows.now.types c.args.of.now) c.in_ok-row.ensures)) c.in_ok-members.ensures (omega arith) (omega arith) c.in_ok-member_start.ensures c.in_ok-start.ensures

pub returns-in_default : goal.returns-in_default
returns-in_default c =
    member_missing c.args.rows.now.types c.args.of.now c.args.word.now (seen_start c.args.seat.start) c.args.seat.depth (omega (arith, c.if-seat-eq0.false))
    (subst (λ found. Finds (fields_in c.args.rows.now.types c.args.of.now) c.args.word.now found) c.in_default.is (c.in_ok-member.ensures (fields_in c.args.rows.now.types c.args.of.now) c.in_ok-row.ensures))
