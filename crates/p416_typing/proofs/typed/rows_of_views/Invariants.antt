use Rattle.std.proofs.Common.{◌≡◌, map, reverse}
use Rattle.p416_syntax.specs.Declarations.{top_names}
use Rattle.p416_scopes.specs.Seen.{seen_scope}
use Rattle.p416_typing.specs.Seen.{seen_row}
use Rattle.p416_typing.specs.internal.Steps.{values_of, rows_of}
use Rattle.p416_typing.proofs.typed.rows_of_views.Given as goal

abbrev pub invariant-loop-view : goal.invariant-loop-view
invariant-loop-view l = record {
  values : map (seen_row (top_names l.scope.top.now)) l.values ≡ values_of (seen_scope l.scope) (reverse (map (λ v. v.now) l.yielded));
  rows : map (seen_row (top_names l.scope.top.now)) l.rows ≡ rows_of (seen_scope l.scope) (reverse (map (λ v. v.now) l.yielded));
}
