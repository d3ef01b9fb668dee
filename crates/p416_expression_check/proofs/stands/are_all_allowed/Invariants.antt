use Rattle.std.proofs.Common.{◌≡◌, drop}
use Rattle.std.specs.List.{list_all}
use Rattle.p416_syntax.specs.Externs.{is_allowed_at}
use Rattle.p416_expression_check.proofs.stands.are_all_allowed.Given as goal

abbrev pub invariant-loop-position : goal.invariant-loop-position
invariant-loop-position l = list_all (is_allowed_at l.allowed) (drop l.position-index l.positions) ≡ list_all (is_allowed_at l.allowed) l.positions
