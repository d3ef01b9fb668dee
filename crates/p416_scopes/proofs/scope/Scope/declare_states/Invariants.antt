use Rattle.std.proofs.Common.{◌≡◌, map, reverse}
use Rattle.p416_syntax.specs.Scopes.{inside}
use Rattle.p416_syntax.specs.Declarations.{known_state}
use Rattle.p416_scopes.specs.Seen.{seen_scope}
use Rattle.p416_scopes.proofs.scope.Scope.declare_states.Given as goal

abbrev pub invariant-loop-state : goal.invariant-loop-state
invariant-loop-state l = record {
  scope : seen_scope l.self ≡ inside (seen_scope l.fn.self) (map known_state (reverse (map (λ x. x.now) l.yielded)));
  top : l.self.top ≡ l.fn.self.top;
}
