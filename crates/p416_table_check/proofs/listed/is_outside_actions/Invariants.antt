use Rattle.std.proofs.Common.{◌≡◌, drop}
use Rattle.p416_syntax.specs.Tables.{is_outside_actions}
use Rattle.p416_table_check.proofs.listed.is_outside_actions.Given as goal

abbrev pub invariant-loop-listed : goal.invariant-loop-listed
invariant-loop-listed l = is_outside_actions (drop l.listed-index l.actions) l.action ≡ is_outside_actions l.actions l.action
