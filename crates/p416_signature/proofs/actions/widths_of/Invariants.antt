use Rattle.std.proofs.Common.{◌≡◌, ◌++◌, map, drop}
use Rattle.p416_syntax.specs.Scopes.{handed}
use Rattle.p416_syntax.specs.Declarations.{top_names}
use Rattle.v1_core.specs.Signatures.{handed_width}
use Rattle.p416_signature.proofs.actions.widths_of.Given as goal

abbrev pub invariant-loop-parameter : goal.invariant-loop-parameter
invariant-loop-parameter l =
    l.widths ++ map handed_width (map (handed (top_names l.top)) (drop l.parameter-index l.parameters))
    ≡ map handed_width (map (handed (top_names l.top)) l.parameters)
