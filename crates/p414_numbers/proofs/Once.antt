-- No name stands twice in its sort.
use Rattle.std.proofs.Common.{◌≡◌, Bool, true, false, ◌||◌, List, ◌∷◌, refl}
use Rattle.std.specs.List.{list_any}
use Rattle.p414_syntax.specs.declared.syntax.Decl.{Decl}
use Rattle.p414_syntax.specs.declared.syntax.Sort.{Sort}
use Rattle.p414_syntax.specs.Names.{Name, names_in, has_name, repeats, repeats_behind}
use Rattle.p414_syntax.specs.Twice.{sorts, is_reserved, repeats_in, declares_twice}

first_false : (a b : Bool) → (a || b) ≡ false → a ≡ false
first_false true b h = cc
first_false false b h = refl

second_false : (a b : Bool) → (a || b) ≡ false → b ≡ false
second_false true b h = cc
second_false false b h = h

-- the first of the names that are left isn't among those before
pub not_there : (names : List Name) (name : Name) (rest : List Name) → repeats_behind names (name ∷ rest) ≡ false → has_name names name ≡ false
not_there names name rest h = first_false (has_name names name) _ h

-- no name stands twice in the first of the sorts that are left
pub once_in : (ds : List Decl) (s : Sort) (rest : List Sort) → list_any (repeats_in ds) (s ∷ rest) ≡ false → repeats (names_in s ds) ≡ false
once_in ds s rest h =
    let here : repeats_in ds s ≡ false = first_false (repeats_in ds s) (list_any (repeats_in ds) rest) h in
    second_false (list_any (is_reserved s) (names_in s ds)) (repeats (names_in s ds)) here

-- nor in any sort
pub once_in_each : (ds : List Decl) → declares_twice ds ≡ false → list_any (repeats_in ds) sorts ≡ false
once_in_each ds h = first_false (list_any (repeats_in ds) sorts) _ h
