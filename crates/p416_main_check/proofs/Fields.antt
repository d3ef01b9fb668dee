-- Fields of headers, and the names of structs that were looked through.
use Rattle.std.proofs.Common.{◌≡◌, ◌⊎◌, inl, inr, suc, Bool, true, false, ◌||◌, nat_eq, List, [], ◌∷◌, ◌++◌, length, map, refl, sym, arith, subst}
use Rattle.std.specs.List.{list_all}
use Rattle.std.specs.Str.{bytes_eq}
use Rattle.std.specs.Bool.{MatchBool}
use Rattle.std.proofs.lemmas.Bool.{ne_eqb}
use Rattle.std.proofs.lemmas.Slice.Eq.{bytes_eq-Decides}
use Rattle.p416_syntax.specs.declared.parts.BitField.{BitField}
use Rattle.p416_syntax.specs.declared.program.Decl16.{Decl16}
use Rattle.p416_syntax.specs.Names.{Name, has_name}
use Rattle.p416_syntax.specs.Kinds.{struct}
use Rattle.p416_syntax.specs.Scopes.{Layout}
use Rattle.p416_syntax.specs.Declarations.{layouts_of, bit_field}
use Rattle.p416_syntax.specs.Main.{is_header_field, is_bits_field, is_metadata_field, is_struct_where}
use Rattle.p416_main_check.specs.internal.Seen.{AreOfBits}

pub no_headers : (fs : List BitField) → list_all is_header_field (map bit_field fs) ≡ nat_eq (length fs) 0
no_headers [] = refl
no_headers (f ∷ fs) = sym (ne_eqb (suc (length fs)) 0 (λ same. omega arith))

pub all_bits : (fs : List BitField) → list_all is_bits_field (map bit_field fs) ≡ true
all_bits [] = refl
all_bits (f ∷ fs) = all_bits fs

pub all_metadata : (layouts : List Layout) (fs : List BitField) → list_all (is_metadata_field layouts) (map bit_field fs) ≡ true
all_metadata layouts [] = refl
all_metadata layouts (f ∷ fs) = all_metadata layouts fs

-- a name that is put to these

same_name : (a b : Name) → bytes_eq a b ≡ true → a ≡ b
same_name a b = (bytes_eq-Decides a b).0

one_of_two : (b c : Bool) → (b || c) ≡ true → (b ≡ true) ⊎ (c ≡ true)
one_of_two true c h = inl refl
one_of_two false c h = inr h

behind_another : (b c : Bool) → c ≡ true → (b || c) ≡ true
behind_another true c h = refl
behind_another false c h = h

has_first : (n : Name) (names : List Name) (text other : Name) → bytes_eq other n ≡ true → has_name (n ∷ names) other ≡ true
has_first n names text other same = rw same refl

has_more : (n : Name) (names : List Name) (text other : Name) → (has_name names other ≡ true) ⊎ (bytes_eq other text ≡ true) → (has_name (n ∷ names) other ≡ true) ⊎ (bytes_eq other text ≡ true)
has_more n names text other (inl has) = inl (behind_another (bytes_eq other n) (has_name names other) has)
has_more n names text other (inr same) = inr same

has_either : (names : List Name) (text other : Name) → has_name (names ++ text ∷ []) other ≡ true → (has_name names other ≡ true) ⊎ (bytes_eq other text ≡ true)
has_either [] text other h =
    elim (one_of_two (bytes_eq other text) false h) [
      | inl same ↦ inr same
      | inr never ↦ inl never
    ]
has_either (n ∷ names) text other h =
    elim (one_of_two (bytes_eq other n) (has_name (names ++ text ∷ []) other) h) [
      | inl same ↦ inl (has_first n names text other same)
      | inr rest ↦ has_more n names text other (has_either names text other rest)
    ]

pub bits_added : (ds : List Decl16) (names : List Name) (text : Name) → AreOfBits ds names → is_struct_where is_bits_field (layouts_of ds) (struct text) ≡ true → AreOfBits ds (names ++ text ∷ [])
bits_added ds names text are is other h = by_cases (has_either names text other h) where
  by_cases : (has_name names other ≡ true) ⊎ (bytes_eq other text ≡ true) → is_struct_where is_bits_field (layouts_of ds) (struct other) ≡ true
  by_cases (inl has) = are other has
  by_cases (inr same) = rw (same_name other text same) is

pub bits_kept : (ds : List Decl16) (old new : List Name) (text : Name) (added : Bool) → MatchBool added ((has_name old text ≡ false) × (new ≡ old ++ text ∷ [])) ((has_name old text ≡ true) × (new ≡ old))
    → AreOfBits ds old → is_struct_where is_bits_field (layouts_of ds) (struct text) ≡ true → AreOfBits ds new
bits_kept ds old new text true put are is = subst (AreOfBits ds) (sym put.1) (bits_added ds old text are is)
bits_kept ds old new text false put are is = subst (AreOfBits ds) (sym put.1) are
