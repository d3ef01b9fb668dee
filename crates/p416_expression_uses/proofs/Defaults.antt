-- The place of an argument that a table gives its default action.
use Rattle.std.proofs.Common.{◌≡◌, ℕ, zero, suc, Option, Some, None, List, [], ◌∷◌, map, get_or, slice_get, refl, ap}
use Rattle.p416_syntax.specs.declared.parts.Param.{Param}
use Rattle.p416_syntax.specs.Scopes.{Known, handed}
use Rattle.p416_syntax.specs.Calls.{Place, any_literal}
use Rattle.p416_syntax.specs.Declarations.{default_place}

abbrev placed : List Known → Option Param → Place
placed names (Some p) = default_place (handed names p)
placed names None = any_literal

pub parameter_there : (names : List Known) (ps : List Param) (i : ℕ) (p : Param) → slice_get ps i ≡ Some p → get_or (map default_place (map (handed names) ps)) i any_literal ≡ default_place (handed names p)
parameter_there names [] i p is = absurd (cc is)
parameter_there names (q ∷ ps) zero p is = ap (λ o. placed names o) is
parameter_there names (q ∷ ps) (suc i) p is = parameter_there names ps i p is

pub parameter_past : (names : List Known) (ps : List Param) (i : ℕ) → slice_get ps i ≡ None → get_or (map default_place (map (handed names) ps)) i any_literal ≡ any_literal
parameter_past names [] i is = refl
parameter_past names (q ∷ ps) zero is = absurd (cc is)
parameter_past names (q ∷ ps) (suc i) is = parameter_past names ps i is
