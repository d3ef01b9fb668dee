-- The place with a number.
use Rattle.std.proofs.Common.{◌≡◌, ℕ, zero, suc, Option, Some, None, List, [], ◌∷◌, map, get_or, slice_get, refl, ap}
use Rattle.p416_syntax.specs.declared.parts.Param.{Param}
use Rattle.p416_syntax.specs.Scopes.{Known, handed}
use Rattle.p416_syntax.specs.Calls as rules

pub get_or_map : {X Y : Type 0} (f : X → Y) (xs : List X) (i : ℕ) (d : X) → get_or (map f xs) i (f d) ≡ f (get_or xs i d)
get_or_map f [] i d = refl
get_or_map f (x ∷ xs) zero d = refl
get_or_map f (x ∷ xs) (suc i) d = get_or_map f xs i d

abbrev placed : List Known → Param → Option Param → rules.Place
placed names other (Some p) = rules.place_of (handed names p)
placed names other None = rules.place_of (handed names other)

pub parameter_there : (names : List Known) (ps : List Param) (i : ℕ) (p : Param) → slice_get ps i ≡ Some p → get_or (map rules.place_of (map (handed names) ps)) i rules.unasked ≡ rules.place_of (handed names p)
parameter_there names [] i p is = absurd (cc is)
parameter_there names (q ∷ ps) zero p is = ap (λ o. placed names q o) is
parameter_there names (q ∷ ps) (suc i) p is = parameter_there names ps i p is

pub parameter_past : (names : List Known) (ps : List Param) (i : ℕ) → slice_get ps i ≡ None → get_or (map rules.place_of (map (handed names) ps)) i rules.unasked ≡ rules.unasked
parameter_past names [] i is = refl
parameter_past names (q ∷ ps) zero is = absurd (cc is)
parameter_past names (q ∷ ps) (suc i) is = parameter_past names ps i is
