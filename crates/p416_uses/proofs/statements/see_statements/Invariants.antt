use Rattle.std.proofs.Common.{◌≡◌, flat_map, length}
use Rattle.p416_syntax.specs.Statements.{statement_uses, visit_uses}
use Rattle.p416_scopes.specs.Seen.{seen_scope}
use Rattle.p416_visits.specs.Left.{left_in, scope_behind}
use Rattle.p416_listed_check.specs.Listings.{AreListed, tables_in}
use Rattle.p416_expression_uses.specs.Found.{after_all}
use Rattle.p416_uses.proofs.KeptTables.{KeepTables}
use Rattle.p416_uses.proofs.statements.see_statements.Given as goal

abbrev pub invariant-loop-left : goal.invariant-loop-left
invariant-loop-left l = record {
  judged : after_all l.found (flat_map visit_uses (left_in l.scope l.left.work)) ≡ after_all l.fn.found (statement_uses (seen_scope l.fn.scope) l.body);
  behind : scope_behind l.scope l.left.work ≡ seen_scope l.fn.scope;
  top : l.scope.top ≡ l.fn.scope.top;
  kept : KeepTables (tables_in (seen_scope l.fn.scope).names) (left_in l.scope l.left.work);
  listed : AreListed (tables_in (seen_scope l.fn.scope).names) l.listed;
}

abbrev pub decreases-loop-left : goal.decreases-loop-left
decreases-loop-left l = length (left_in l.scope l.left.work)
