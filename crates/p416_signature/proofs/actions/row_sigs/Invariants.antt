use Rattle.std.proofs.Common.{◌≡◌, ◌++◌, map, drop}
use Rattle.p416_syntax.specs.Declarations.{top_names}
use Rattle.p416_signature.specs.internal.Gathered.{row_sig, seen_listed}
use Rattle.p416_signature.proofs.actions.row_sigs.Given as goal

abbrev pub invariant-loop-name : goal.invariant-loop-name
invariant-loop-name l =
    l.actions ++ map (row_sig (map (seen_listed (top_names l.top)) l.rows)) (map (λ name. name.now) (drop l.name-index l.ordered))
    ≡ map (row_sig (map (seen_listed (top_names l.top)) l.rows)) (map (λ name. name.now) l.ordered)
