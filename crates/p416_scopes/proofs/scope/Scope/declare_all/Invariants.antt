use Rattle.std.proofs.Common.{◌≡◌, map, reverse, length, take}
use Rattle.p416_syntax.specs.Scopes.{inside}
use Rattle.p416_syntax.specs.Declarations.{top_names}
use Rattle.p416_scopes.specs.Seen.{seen_scope, seen_declared}
use Rattle.p416_scopes.proofs.scope.Scope.declare_all.Given as goal

abbrev pub invariant-loop-next : goal.invariant-loop-next
invariant-loop-next l = record {
  scope : seen_scope l.self ≡ inside (seen_scope l.fn.self) (map (seen_declared (top_names l.fn.self.top.now)) (reverse (map (λ x. x.now) l.yielded)));
  top : l.self.top ≡ l.fn.self.top;
  names : take (length l.fn.self.names) l.self.names ≡ l.fn.self.names;
  sorts : take (length l.fn.self.sorts.items) l.self.sorts.items ≡ l.fn.self.sorts.items;
}
