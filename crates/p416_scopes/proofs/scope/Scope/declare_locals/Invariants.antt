use Rattle.std.proofs.Common.{◌≡◌, map, reverse}
use Rattle.p416_syntax.specs.Scopes.{inside}
use Rattle.p416_syntax.specs.Declarations.{top_names, known_local}
use Rattle.p416_scopes.specs.Seen.{seen_scope}
use Rattle.p416_scopes.proofs.scope.Scope.declare_locals.Given as goal

abbrev pub invariant-loop-declared : goal.invariant-loop-declared
invariant-loop-declared l = record {
  scope : seen_scope l.self ≡ inside (seen_scope l.fn.self) (map (known_local (top_names l.fn.self.top.now)) (reverse (map (λ x. x.now) l.yielded)));
  top : l.self.top ≡ l.fn.self.top;
}
