use Rattle.std.proofs.Common.{◌≡◌, length}
use Rattle.p416_scopes.specs.Seen.{seen_scope}
use Rattle.v1_ready_statements.specs.Given.{any_applies}
use Rattle.v1_ready_actions.proofs.applies.any_applies.Given as goal

abbrev pub invariant-loop-expression : goal.invariant-loop-expression
invariant-loop-expression l = record {
  found : any_applies (seen_scope l.scope) l.expressions ≡ any_applies (seen_scope l.scope) l.fn.expressions;
}

abbrev pub decreases-loop-expression : goal.decreases-loop-expression
decreases-loop-expression l = length l.expressions
