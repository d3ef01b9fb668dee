use Rattle.std.proofs.Common.{◌∙◌, List, flat_map, refl, ap}
use Rattle.p416_syntax.specs.Statements.{Visit, visit_uses}
use Rattle.p416_scopes.specs.Seen.{seen_scope}
use Rattle.p416_listed_check.specs.Listings.{tables_in}
use Rattle.p416_expression_uses.specs.Found.{after_all}
use Rattle.p416_uses.proofs.Turns.{statement_turn}
use Rattle.p416_uses.proofs.KeptTables.{visits_kept, kept_behind, lists_here, lists_behind}
use Rattle.p416_uses.proofs.statements.see_statements.Goals as goal

pub loop-left-init : goal.loop-left-init
loop-left-init c = record {
  judged = ap (λ (vs : List Visit). after_all c.args.found.now (flat_map visit_uses vs)) c.in_ok-left.ensures.visited;
  behind = c.in_ok-left.ensures.behind;
  top = refl;
  kept = visits_kept _ (seen_scope c.args.scope.now) c.args.body.now c.in_ok-left.ensures.visited;
  listed = c.new-listed.ensures (seen_scope c.args.scope.now);
}

pub see_statement-requires : goal.see_statement-requires
see_statement-requires c =
    lists_here (tables_in (seen_scope c.args.scope.now).names) _ _ _ _ c.loop-left.listed (rw c.in-Some.is at c.in_ok-statement.ensures.visited) c.loop-left.invariant.kept c.loop-left.invariant.listed

pub loop-left-preserved : goal.loop-left-preserved
loop-left-preserved c = record {
  judged = statement_turn _ _ _ _ _ _ _ (rw c.in-Some.is at c.in_ok-statement.ensures.visited) c.in_ok-see_statement.ensures.found c.loop-left.invariant.judged;
  behind = (rw c.in-Some.is at c.in_ok-statement.ensures.behind) ∙ c.loop-left.invariant.behind;
  top = c.next.ensures.top ∙ c.loop-left.invariant.top;
  kept = kept_behind _ _ _ _ _ (rw c.in-Some.is at c.in_ok-statement.ensures.visited) c.loop-left.invariant.kept;
  listed = lists_behind _ _ _ _ _ _ (rw c.in-Some.is at c.in_ok-statement.ensures.visited) c.loop-left.invariant.kept c.in_ok-see_statement.ensures.listed;
}
