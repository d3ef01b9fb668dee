-- The number of a name in its sort fits into 32 bits, since the declarations do.
use Rattle.std.proofs.Common.{◌≡◌, ℕ, ◌+◌, ◌<◌, ◌≤◌, List, [], ◌∷◌, length, filter_map, Option, Some, None, sym, zero-le, arith}
use Rattle.std.specs.Prelude.{IfSome}
use Rattle.std.specs.List.{cons_option}
use Rattle.std.specs.Str.{bytes_eq}
use Rattle.std.proofs.lemmas.List.Quantifiers.{position-Some}
use Rattle.p414_syntax.specs.declared.syntax.Decl.{Decl}
use Rattle.p414_syntax.specs.declared.syntax.Sort.{Sort}
use Rattle.p414_syntax.specs.Names.{Name, name_in, names_in, number_of}

one_more : {Y : Type 0} (o : Option Y) (ys : List Y) (n : ℕ) → length ys ≤ n → length (cons_option o ys) ≤ n + 1
one_more (Some y) ys n h = omega arith
one_more None ys n h = omega arith

fewer : {X Y : Type 0} (h : X → Option Y) (xs : List X) → length (filter_map h xs) ≤ length xs
fewer h [] = zero-le
fewer h (x ∷ xs) = let e = one_more (h x) (filter_map h xs) (length xs) (fewer h xs) in omega arith

pub number_fits : (sort : Sort) (ds : List Decl) (name : Name) (n : ℕ) → length ds ≤ 4294967295 → number_of sort ds name ≡ Some n → n < 4294967296
number_fits sort ds name n few e =
    let within : n < length (names_in sort ds) = (position-Some (bytes_eq name) (names_in sort ds) n [] e).0 in
    let fewer_names : length (names_in sort ds) ≤ length ds = fewer (name_in sort) ds in
    omega arith

pub number_below : (sort : Sort) (ds : List Decl) (name : Name) (found : Option ℕ) → length ds ≤ 4294967295 → found ≡ number_of sort ds name → IfSome found (λ n. n < 4294967296)
number_below sort ds name None few e = _
number_below sort ds name (Some n) few e = number_fits sort ds name n few (sym e)
