-- Names that differ differ from the first of them.
use Rattle.std.proofs.Common.{◌≡◌, not, ◌&&◌, true, List, [], ◌∷◌, refl, ap}
use Rattle.std.specs.List.{list_all}
use Rattle.std.specs.Str.{bytes_eq}
use Rattle.std.proofs.lemmas.Slice.Eq.{bytes_eq-Decides}
use Rattle.p414_syntax.specs.Names.{Name}
use Rattle.p414_syntax.specs.Calls.{differ}
use Rattle.p414_call_check.specs.internal.Types.{differ_from_first}

same_name : (name : Name) → bytes_eq name name ≡ true
same_name name = (bytes_eq-Decides name name).1 refl

pub first_enough : (names : List Name) → differ_from_first names ≡ differ names
first_enough [] = refl
first_enough (name ∷ names) = ap (λ b. not (b && list_all (bytes_eq name) names)) (same_name name)
