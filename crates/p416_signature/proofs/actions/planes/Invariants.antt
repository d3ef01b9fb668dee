use Rattle.std.proofs.Common.{◌≡◌, ◌++◌, List, map, drop}
use Rattle.p416_syntax.specs.Scopes.{Known}
use Rattle.p416_signature.specs.internal.Gathered.{row_plane, seen_listed}
use Rattle.p416_signature.proofs.actions.planes.Given as goal

abbrev pub invariant-loop-row : goal.invariant-loop-row
invariant-loop-row l =
    (top : List Known) →
    map (λ name. name.now) l.names.items ++ map row_plane (map (seen_listed top) (drop l.row-index l.rows)) ≡ map row_plane (map (seen_listed top) l.rows)
