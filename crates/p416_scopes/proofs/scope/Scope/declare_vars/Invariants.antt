use Rattle.std.proofs.Common.{◌≡◌, map, reverse}
use Rattle.p416_syntax.specs.Scopes.{inside}
use Rattle.p416_syntax.specs.Declarations.{top_names, known_var}
use Rattle.p416_scopes.specs.Seen.{seen_scope}
use Rattle.p416_scopes.proofs.scope.Scope.declare_vars.Given as goal

abbrev pub invariant-loop-var : goal.invariant-loop-var
invariant-loop-var l = record {
  scope : seen_scope l.self ≡ inside (seen_scope l.fn.self) (map (known_var (top_names l.fn.self.top.now)) (reverse (map (λ x. x.now) l.yielded)));
  top : l.self.top ≡ l.fn.self.top;
}
