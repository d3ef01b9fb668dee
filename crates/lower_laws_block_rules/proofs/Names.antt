-- Lists of names: each once, with their copies.
use Rattle.std.proofs.Common.{◌≡◌, Bool, true, false, ◌||◌, cond, List, [], ◌∷◌, map, filter, Option, refl, sym, ap, ◌∙◌, subst}
use Rattle.std.specs.Prelude.{not}
use Rattle.std.specs.List.{AllZip}
use Rattle.std.specs.Str.{bytes_eq}
use Rattle.std.proofs.lemmas.Slice.Eq.{bytes_eq-Decides}
use Rattle.p414_syntax.specs.declared.syntax.Decl.{Decl}
use Rattle.p416_syntax.specs.Names.{Name, has_name, repeats}
use Rattle.p416_syntax.specs.Scopes.{Scope}
use Rattle.lower_laws_controls.specs.Listing.{Each, each_once, copy_text}
use Rattle.lower_laws_controls.proofs.Listing.{each_filter}
use Rattle.lower_laws_rules.specs.Declared.{IsListed, plane_of}
use Rattle.lower_laws_rules.proofs.Lists.{neither}
use Rattle.lower_laws_rules.proofs.Found.{left_false, right_false, is_itself, turned}
use Rattle.lower_laws_block_rules.specs.Tables.{listed_as, IsCopyHere}

same_text : (x y : Name) → bytes_eq x y ≡ true → x ≡ y
same_text x y e = (bytes_eq-Decides x y).0 e

-- what holds of each name that stands there
pub each_of : (P : Name → Type 0) (xs : List Name) (x : Name) → has_name xs x ≡ true → Each P xs → P x
each_of P [] x has all = absurd (cc has)
each_of P (y ∷ xs) x has all = by (bytes_eq x y) refl has (λ e. each_of P xs x e all.1) where
  by : (b : Bool) → bytes_eq x y ≡ b → b || has_name xs x ≡ true → (has_name xs x ≡ true → P x) → P x
  by true same has rest = subst P (sym (same_text x y same)) all.0
  by false other has rest = rest has

-- a name that passes the test stays
filter_has : (p : Name → Bool) (xs : List Name) (x : Name) → p x ≡ true → has_name xs x ≡ true → has_name (filter p xs) x ≡ true
filter_has p [] x good has = has
filter_has p (y ∷ xs) x good has = by (bytes_eq x y) refl has (filter_has p xs x good) where
  more : (b : Bool) → has_name (filter p xs) x ≡ true → has_name (cond b (y ∷ filter p xs) (filter p xs)) x ≡ true
  more true e = ap (λ t. bytes_eq x y || t) e ∙ last (bytes_eq x y) where
    last : (b : Bool) → b || true ≡ true
    last true = refl
    last false = refl
  more false e = e

  by : (b : Bool) → bytes_eq x y ≡ b → b || has_name xs x ≡ true → (has_name xs x ≡ true → has_name (filter p xs) x ≡ true) → has_name (filter p (y ∷ xs)) x ≡ true
  by true same has rest =
      ap (λ t. has_name (cond t (y ∷ filter p xs) (filter p xs)) x) (ap p (sym (same_text x y same)) ∙ good)
      ∙ ap (λ t. t || has_name (filter p xs) x) same
  by false other has rest = more (p y) (rest has)

filter_lacks : (p : Name → Bool) (xs : List Name) (x : Name) → has_name xs x ≡ false → has_name (filter p xs) x ≡ false
filter_lacks p [] x lacks = refl
filter_lacks p (y ∷ xs) x lacks = by (p y) (filter_lacks p xs x (right_false _ _ lacks)) where
  by : (b : Bool) → has_name (filter p xs) x ≡ false → has_name (cond b (y ∷ filter p xs) (filter p xs)) x ≡ false
  by true rest = neither _ _ (left_false _ _ lacks) rest
  by false rest = rest

filter_once : (p : Name → Bool) (xs : List Name) → repeats xs ≡ false → repeats (filter p xs) ≡ false
filter_once p [] once = refl
filter_once p (y ∷ xs) once = by (p y) (filter_once p xs (right_false _ _ once)) where
  by : (b : Bool) → repeats (filter p xs) ≡ false → repeats (cond b (y ∷ filter p xs) (filter p xs)) ≡ false
  by true rest = neither _ _ (filter_lacks p xs y (left_false _ _ once)) rest
  by false rest = rest

none_left : (xs : List Name) (x : Name) → has_name (filter (λ y. not (bytes_eq y x)) xs) x ≡ false
none_left [] x = refl
none_left (y ∷ xs) x = by (bytes_eq y x) refl (none_left xs x) where
  by : (b : Bool) → bytes_eq y x ≡ b → has_name (filter (λ z. not (bytes_eq z x)) xs) x ≡ false → has_name (cond (not b) (y ∷ filter (λ z. not (bytes_eq z x)) xs) (filter (λ z. not (bytes_eq z x)) xs)) x ≡ false
  by true e rest = rest
  by false e rest = neither _ _ (turned y x e) rest

pub once_has : (xs : List Name) (x : Name) → has_name xs x ≡ true → has_name (each_once xs) x ≡ true
once_has [] x has = has
once_has (y ∷ xs) x has = by (bytes_eq x y) refl has (once_has xs x) where
  by : (b : Bool) → bytes_eq x y ≡ b → b || has_name xs x ≡ true → (has_name xs x ≡ true → has_name (each_once xs) x ≡ true) → has_name (each_once (y ∷ xs)) x ≡ true
  by true same has rest = ap (λ t. t || has_name (filter (λ z. not (bytes_eq z y)) (each_once xs)) x) same
  by false other has rest =
      ap (λ t. t || has_name (filter (λ z. not (bytes_eq z y)) (each_once xs)) x) other
      ∙ filter_has (λ z. not (bytes_eq z y)) (each_once xs) x (ap not other) (rest has)

pub once_differs : (xs : List Name) → repeats (each_once xs) ≡ false
once_differs [] = refl
once_differs (y ∷ xs) = neither _ _ (none_left (each_once xs) y) (filter_once (λ z. not (bytes_eq z y)) (each_once xs) (once_differs xs))

pub once_each : (P : Name → Type 0) (xs : List Name) → Each P xs → Each P (each_once xs)
once_each P [] all = tt
once_each P (x ∷ xs) all = (all.0, each_filter P (λ y. not (bytes_eq y x)) (each_once xs) (once_each P xs all.1))

-- what has a name has its image under the image of the name
pub map_has : (f : Name → Name) (xs : List Name) (x : Name) → has_name xs x ≡ true → has_name (map f xs) (f x) ≡ true
map_has f [] x has = has
map_has f (y ∷ xs) x has = by (bytes_eq x y) refl has (map_has f xs x) where
  by : (b : Bool) → bytes_eq x y ≡ b → b || has_name xs x ≡ true → (has_name xs x ≡ true → has_name (map f xs) (f x) ≡ true) → has_name (map f (y ∷ xs)) (f x) ≡ true
  by true same has rest = ap (λ t. t || has_name (map f xs) (f x)) (ap (λ z. bytes_eq (f x) (f z)) (sym (same_text x y same)) ∙ is_itself (f x))
  by false other has rest = ap (λ t. bytes_eq (f x) (f y) || t) (rest has) ∙ last (bytes_eq (f x) (f y)) where
    last : (b : Bool) → b || true ≡ true
    last true = refl
    last false = refl

-- the actions of a table as they are listed
module _ (ds : List Decl) (s : Scope) (copy : Name → Option Name) where
  pub all_listed : (names : List Name) → Each (IsCopyHere ds s copy) names → AllZip (IsListed s) (map (copy_text copy) names) (map (listed_as ds) names)
  all_listed [] all = tt
  all_listed (name ∷ names) all = (all.0, all_listed names all.1)

  pub planes : (names : List Name) → map plane_of (map (listed_as ds) names) ≡ names
  planes [] = refl
  planes (name ∷ names) = ap (λ xs. name ∷ xs) (planes names)
