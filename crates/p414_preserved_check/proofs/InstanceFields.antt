-- An instance has a field of a name where the field has a width.
use Rattle.std.proofs.Common.{◌≡◌, ℕ, suc, ◌+◌, ◌<◌, Bool, true, false, cond, not, ◌||◌, is_some, List, [], ◌∷◌, ◌++◌, length, map, ltb, slice_get, Option, Some, None, option_map, option_and_then, refl, sym, ap, ◌∙◌, arith}
use Rattle.std.specs.List.{list_any, position_or_len}
use Rattle.std.specs.Option.{option_map_or}
use Rattle.std.specs.Str.{bytes_eq}
use Rattle.std.proofs.lemmas.Bool.{lt-ltb, ltb-true}
use Rattle.std.proofs.lemmas.List.{length-map}
use Rattle.std.proofs.lemmas.List.Folds.{list_any_at}
use Rattle.std.proofs.lemmas.List.Quantifiers.{position-Some}
use Rattle.p414_syntax.specs.declared.headers.Field.{Field}
use Rattle.p414_syntax.specs.declared.syntax.Decl.{Decl}
use Rattle.p414_syntax.specs.Views.{HeaderTypeTree}
use Rattle.p414_syntax.specs.Names.{Name, find_name, has_name, field_name}
use Rattle.p414_syntax.specs.Primitives.{is_standard, ports, counts, standard_width}
use Rattle.p414_syntax.specs.Fields.{instance_type, field_bits, width_in, width_of}
use Rattle.p414_syntax.specs.Expansion.{type_fields}
use Rattle.p414_list_check.proofs.Expanding.{get_within}
use Rattle.p414_preserved_check.specs.internal.Asking.{is_field}
use Rattle.p414_preserved_check.proofs.Searching.{same_test}

below_more : (n m : ℕ) → ltb n m ≡ ltb (1 + n) (suc m)
below_more n m =
    same_test (ltb n m) (ltb (1 + n) (suc m)) (λ e. let h : n < m = ltb-true n m e in lt-ltb (1 + n) (suc m) (omega arith)) (λ e. let h : 1 + n < suc m = ltb-true (1 + n) (suc m) e in lt-ltb n m (omega arith))

any_place : {X : Type 0} (p : X → Bool) (xs : List X) → list_any p xs ≡ ltb (position_or_len p xs) (length xs)
any_place p [] = refl
any_place p (x ∷ xs) = by_first (p x) (any_place p xs) where
  by_first : (b : Bool) → list_any p xs ≡ ltb (position_or_len p xs) (length xs) → (b || list_any p xs) ≡ ltb (cond (not b) (1 + position_or_len p xs) 0) (suc (length xs))
  by_first true h = sym (lt-ltb 0 (suc (length xs)) (omega arith))
  by_first false h = h ∙ below_more (position_or_len p xs) (length xs)

never_there : (b : Bool) (n : ℕ) → cond b (Some n) None ≡ None → b ≡ false
never_there true n e = absurd (cc e)
never_there false n e = refl

any_none : (names : List Name) (name : Name) → find_name names name ≡ None → has_name names name ≡ false
any_none names name e =
    any_place (bytes_eq name) names ∙ never_there (ltb (position_or_len (bytes_eq name) names) (length names)) (position_or_len (bytes_eq name) names) e

by_place : (fields : List Field) (name : Name) (o : Option ℕ) → find_name (map field_name fields) name ≡ o → is_some (option_map field_bits (option_and_then (slice_get fields) o)) ≡ has_name (map field_name fields) name
by_place fields name None e = sym (any_none (map field_name fields) name e)
by_place fields name (Some n) e =
    let p = position-Some (bytes_eq name) (map field_name fields) n [] e in
    let same : length (map field_name fields) ≡ length fields = length-map fields field_name in
    let f = get_within fields n (omega (arith, p.0)) in
    ap (λ (o : Option Field). is_some (option_map field_bits o)) f.1 ∙ sym (list_any_at (bytes_eq name) (map field_name fields) n [] p.0 p.1)

width_is : (o : Option HeaderTypeTree) (name : Name) → is_some (option_and_then (λ t. width_in t name) o) ≡ has_name (option_map_or type_fields o []) name
width_is None name = refl
width_is (Some t) name = by_place t.fields name (find_name (map field_name t.fields) name) refl

of_declared : (ds : List Decl) (name field : Name) (b : Bool) → b ≡ false → is_some (cond b (standard_width field) (option_and_then (λ t. width_in t field) (instance_type ds name))) ≡ has_name (cond b (ports ++ counts) (option_map_or type_fields (instance_type ds name) [])) field
of_declared ds name field true e = absurd (cc e)
of_declared ds name field false e = width_is (instance_type ds name) field

pub field_is : (ds : List Decl) (name field : Name) → is_standard name ≡ false → is_some (width_of ds name field) ≡ is_field ds name field
field_is ds name field e = of_declared ds name field (is_standard name) e
