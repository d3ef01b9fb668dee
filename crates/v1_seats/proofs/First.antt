-- The first of the fields with a name, found by its place.
use Rattle.std.proofs.Common.{◌≡◌, ℕ, zero, suc, ◌<◌, Bool, true, false, cond, Option, Some, None, List, [], ◌∷◌, length, map, refl, sym, ap, ◌∙◌, arith, get_or, slice_get}
use Rattle.std.specs.Prelude.{option_and_then}
use Rattle.std.specs.Str.{bytes_eq}
use Rattle.std.proofs.lemmas.List.Quantifiers.{position-Some}
use Rattle.name_numbers.specs.Names.{find_name}
use Rattle.p416_names.proofs.Found.{bytes_either, first_named, first_step}
use Rattle.p416_syntax.specs.Names.{Name}
use Rattle.p416_syntax.specs.Scopes.{FieldKind}
use Rattle.v1_core.specs.Seats.{Start, Seat}
use Rattle.v1_seats.specs.internal.Rows.{called_of_field}

module _ (mk : FieldKind → Start → Seat) (next : FieldKind → Start → Start) (word : Name) where
  abbrev pub first : List FieldKind → Start → Option Seat
  first [] b = None
  first (f ∷ fields) b = cond (bytes_eq f.called word) (Some (mk f b)) (first fields (next f b))

  abbrev pub begins : List FieldKind → Start → List Start
  begins [] b = []
  begins (f ∷ fields) b = b ∷ begins fields (next f b)

  -- the field at a place, and where it begins
  pub record IsAt (fields : List FieldKind) (b : Start) (k : ℕ) : Type 0 where
    pub field : FieldKind
    pub start : Start
    pub field_is : slice_get fields k ≡ Some field
    pub start_is : slice_get (begins fields b) k ≡ Some start
    pub found : first fields b ≡ Some (mk field start)

  pub first_there : (fields : List FieldKind) (b : Start) (k : ℕ) → k < length (map called_of_field fields) → bytes_eq word (get_or (map called_of_field fields) k []) ≡ true
      → ((j : ℕ) → j < k → bytes_eq word (get_or (map called_of_field fields) j []) ≡ false) → IsAt fields b k
  first_there [] b k within is not = let never : ⊥ = omega arith in absurd never
  first_there (f ∷ fields) b zero within is not = record {
    field = f;
    start = b;
    field_is = refl;
    start_is = refl;
    found = ap (λ t. cond t (Some (mk f b)) (first fields (next f b))) (bytes_either f.called word ∙ is);
  }
  first_there (f ∷ fields) b (suc k) within is not =
      let rest : IsAt fields (next f b) k = first_there fields (next f b) k (omega arith) is (λ j less. not (suc j) (omega arith)) in
      record {
        field = rest.field;
        start = rest.start;
        field_is = rest.field_is;
        start_is = rest.start_is;
        found = ap (λ t. cond t (Some (mk f b)) (first fields (next f b))) (bytes_either f.called word ∙ not 0 (omega arith)) ∙ rest.found;
      }

  pub first_found : (fields : List FieldKind) (b : Start) (k : ℕ) → find_name (map called_of_field fields) word ≡ Some k → IsAt fields b k
  first_found fields b k is =
      let found = position-Some (bytes_eq word) (map called_of_field fields) k [] is in first_there fields b k found.0 found.1 found.2

  none_left : (b : Bool) (f : FieldKind) (o : Option FieldKind) (s : Seat) (p : Option Seat) → cond b (Some f) o ≡ None → (o ≡ None → p ≡ None) → cond b (Some s) p ≡ None
  none_left true f o s p is rest = absurd (cc is)
  none_left false f o s p is rest = rest is

  missing_by : (fields : List FieldKind) (b : Start) → first_named called_of_field fields word ≡ None → first fields b ≡ None
  missing_by [] b is = refl
  missing_by (f ∷ fields) b is =
      none_left (bytes_eq f.called word) f (first_named called_of_field fields word) (mk f b) (first fields (next f b))
      (sym (first_step called_of_field f fields word) ∙ is) (missing_by fields (next f b))

  pub first_missing : (fields : List FieldKind) (b : Start) → find_name (map called_of_field fields) word ≡ None → first fields b ≡ None
  first_missing fields b is = missing_by fields b (ap (option_and_then (slice_get fields)) is)
