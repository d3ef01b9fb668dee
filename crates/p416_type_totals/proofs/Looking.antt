-- What is looked up of a kind is what its values count.
use Rattle.std.proofs.Common.{◌≡◌, ◌⊎◌, inl, inr, ℕ, zero, suc, ◌+◌, ◌*◌, Bool, true, false, cond, Option, Some, None, List, [], ◌∷◌, get_or, length, map, flat_map, sum_by, refl, sym, ap, ◌∙◌, subst, arith, slice_get}
use Rattle.std.specs.Prelude.{slice_index}
use Rattle.std.specs.Option.{option_map_or}
use Rattle.std.specs.Str.{bytes_eq}
use Rattle.std.proofs.lemmas.List.{length-append}
use Rattle.std.proofs.lemmas.List.Sums.{sum_by-cons}
use Rattle.p416_syntax.specs.declared.parts.BitField.{BitField}
use Rattle.p416_syntax.specs.declared.program.Decl16.{Decl16}
use Rattle.p416_syntax.specs.Names.{Name}
use Rattle.p416_syntax.specs.Kinds.{Kind, bits, unsized, boolean, error_code, header, stack, struct, packet_in, packet_out, errors, enumeration, one_of, table, applied, object, items, nothing, unknown, is_struct}
use Rattle.p416_syntax.specs.BuiltIn.{standard_name, standard_layout, built_in}
use Rattle.p416_syntax.specs.Scopes.{Layout, fields_in}
use Rattle.p416_syntax.specs.Declarations.{top_names, layouts_of, layout_in, bit_field}
use Rattle.p416_syntax.specs.Unknown.{declared_name, declaration_number}
use Rattle.p416_syntax.specs.Totals.{fields_within, octets_within}
use Rattle.p416_type_totals.specs.declared.measure.Measure.{Measure}
use Rattle.p416_type_totals.specs.declared.measure.Measure.TheVariants as measure
use Rattle.p416_type_totals.specs.Limit.{up_to}
use Rattle.p416_type_totals.specs.internal.Sized.{within, of_kind, header_of, of_other, standard_size, headers_of, structs_of, looked, looked_fields}
use Rattle.p416_type_totals.proofs.Finding.{IsDeclared, IsUndeclared, finds, same_name}

-- a list of numbers along the declarations

pub at_decl : (f : Decl16 → ℕ) (ds : List Decl16) (j : ℕ) (d : Decl16) → slice_get ds j ≡ Some d → get_or (map f ds) j 0 ≡ f d
at_decl f [] j d e = absurd (never e) where
  never : None ≡ Some d → ⊥
  never h = cc
at_decl f (x ∷ ds) zero d e = ap f (some_is e) where
  some_is : Some x ≡ Some d → x ≡ d
  some_is h = cc
at_decl f (x ∷ ds) (suc j) d e = at_decl f ds j d e

number_is : (o : Option ℕ) (a b : ℕ) → o ≡ Some a → o ≡ Some b → a ≡ b
number_is o a b e f = cc

no_number : (o : Option ℕ) (a : ℕ) → o ≡ None → o ≡ Some a → ⊥
no_number o a e f = cc

pub by_number : (h : Name → ℕ) (ds : List Decl16) (text : Name) (j : ℕ) → declaration_number ds text ≡ Some j → get_or (map (λ d. h (declared_name d)) ds) j 0 ≡ h text
by_number h ds text j at = by_found (finds ds built_in text) where
  by_found : IsDeclared ds built_in text ⊎ IsUndeclared ds built_in text → get_or (map (λ d. h (declared_name d)) ds) j 0 ≡ h text
  by_found (inl f) =
      let same : f.number ≡ j = number_is (declaration_number ds text) f.number j f.at at in
      at_decl (λ d. h (declared_name d)) ds j f.of (subst (λ k. slice_get ds k ≡ Some f.of) same f.there) ∙ ap h (sym (same_name text (declared_name f.of) f.named))
  by_found (inr u) = absurd (no_number (declaration_number ds text) j u.none at)

pub header_there : (m : Measure) (ds : List Decl16) (sizes : List ℕ) (text : Name) (j found : ℕ) → sizes ≡ headers_of m ds → declaration_number ds text ≡ Some j → found ≡ slice_index sizes j → found ≡ up_to (header_of m ds text)
header_there m ds sizes text j found are at is = is ∙ (ap (λ l. get_or l j 0) are ∙ by_number (λ name. up_to (header_of m ds name)) ds text j at)

-- fields of bits, and those of the standard metadata

bits_sum : (m : Measure) (ds : List Decl16) (structs : List ℕ) (fields : List BitField) → sum_by (λ f. looked m ds structs f.kind) (map bit_field fields) ≡ length fields * of_other m
bits_sum m ds structs [] = omega arith
bits_sum m ds structs (f ∷ fields) =
    let a = sum_by-cons (λ y. looked m ds structs y.kind) (bit_field f) (map bit_field fields) in
    let b = bits_sum m ds structs fields in
    let c : suc (length fields) * of_other m ≡ of_other m + length fields * of_other m = omega arith in
    omega (arith, a, b, c)

pub bits_together : (m : Measure) (ds : List Decl16) (structs : List ℕ) (fields : List BitField) (one found : ℕ) → one ≡ of_other m → found ≡ up_to (length fields * one) → found ≡ looked_fields m ds structs (map bit_field fields)
bits_together m ds structs fields one found e is = is ∙ (ap (λ x. up_to (length fields * x)) e ∙ ap up_to (sym (bits_sum m ds structs fields)))

standard_sum : (m : Measure) (ds : List Decl16) (structs : List ℕ) → up_to (7 * of_other m) ≡ looked_fields m ds structs standard_layout.fields
standard_sum measure.Fields ds structs = refl
standard_sum measure.Octets ds structs = refl

pub standard_together : (m : Measure) (ds : List Decl16) (structs : List ℕ) (one found : ℕ) → one ≡ of_other m → found ≡ up_to (7 * one) → found ≡ looked_fields m ds structs standard_layout.fields
standard_together m ds structs one found e is = is ∙ (ap (λ x. up_to (7 * x)) e ∙ standard_sum m ds structs)

-- kinds that are no structs

data Plain : Kind → Type 0 where
  a_header : (type : Name) → Plain (header type)
  a_stack : (type : Name) (size : ℕ) → Plain (stack type size)
  another : (k : Kind) → ((layouts : List Layout) (n : ℕ) → (fields_within layouts n k ≡ 1) × (octets_within layouts n k ≡ 0)) → ((m : Measure) (ds : List Decl16) (structs : List ℕ) → looked m ds structs k ≡ of_other m) → Plain k

plain_is : (k : Kind) → is_struct k ≡ false → Plain k
plain_is (bits w) e = another (bits w) (λ layouts n. (refl, refl)) (λ m ds structs. refl)
plain_is unsized e = another unsized (λ layouts n. (refl, refl)) (λ m ds structs. refl)
plain_is boolean e = another boolean (λ layouts n. (refl, refl)) (λ m ds structs. refl)
plain_is error_code e = another error_code (λ layouts n. (refl, refl)) (λ m ds structs. refl)
plain_is (header type) e = a_header type
plain_is (stack type size) e = a_stack type size
plain_is (struct type) e = absurd (never e) where
  never : true ≡ false → ⊥
  never h = cc
plain_is packet_in e = another packet_in (λ layouts n. (refl, refl)) (λ m ds structs. refl)
plain_is packet_out e = another packet_out (λ layouts n. (refl, refl)) (λ m ds structs. refl)
plain_is errors e = another errors (λ layouts n. (refl, refl)) (λ m ds structs. refl)
plain_is (enumeration o) e = another (enumeration o) (λ layouts n. (refl, refl)) (λ m ds structs. refl)
plain_is (one_of o) e = another (one_of o) (λ layouts n. (refl, refl)) (λ m ds structs. refl)
plain_is table e = another table (λ layouts n. (refl, refl)) (λ m ds structs. refl)
plain_is applied e = another applied (λ layouts n. (refl, refl)) (λ m ds structs. refl)
plain_is (object o) e = another (object o) (λ layouts n. (refl, refl)) (λ m ds structs. refl)
plain_is items e = another items (λ layouts n. (refl, refl)) (λ m ds structs. refl)
plain_is nothing e = another nothing (λ layouts n. (refl, refl)) (λ m ds structs. refl)
plain_is unknown e = another unknown (λ layouts n. (refl, refl)) (λ m ds structs. refl)

-- however many structs within each other are counted
still : (m : Measure) (layouts : List Layout) (a b : ℕ) (k : Kind) → Plain k → within m layouts a k ≡ within m layouts b k
still measure.Fields layouts a b k (a_header type) = refl
still measure.Fields layouts a b k (a_stack type size) = refl
still measure.Fields layouts a b k (another other is looks) = (is layouts a).0 ∙ sym (is layouts b).0
still measure.Octets layouts a b k (a_header type) = refl
still measure.Octets layouts a b k (a_stack type size) = refl
still measure.Octets layouts a b k (another other is looks) = (is layouts a).1 ∙ sym (is layouts b).1

pub plain_within : (m : Measure) (layouts : List Layout) (a b : ℕ) (k : Kind) → is_struct k ≡ false → within m layouts a k ≡ within m layouts b k
plain_within m layouts a b k e = still m layouts a b k (plain_is k e)

looks : (m : Measure) (ds : List Decl16) (structs : List ℕ) (n : ℕ) (k : Kind) → Plain k → looked m ds structs k ≡ up_to (within m (layouts_of ds) n k)
looks measure.Fields ds structs n k (a_header type) = refl
looks measure.Fields ds structs n k (a_stack type size) = refl
looks measure.Fields ds structs n k (another other is at) = at measure.Fields ds structs ∙ ap up_to (sym (is (layouts_of ds) n).0)
looks measure.Octets ds structs n k (a_header type) = refl
looks measure.Octets ds structs n k (a_stack type size) = refl
looks measure.Octets ds structs n k (another other is at) = at measure.Octets ds structs ∙ ap up_to (sym (is (layouts_of ds) n).1)

pub plain_looked : (m : Measure) (ds : List Decl16) (structs : List ℕ) (k : Kind) → is_struct k ≡ false → looked m ds structs k ≡ up_to (of_kind m (layouts_of ds) k)
plain_looked m ds structs k e = looks m ds structs (length (layouts_of ds)) k (plain_is k e)

-- structs

pub nested : (m : Measure) (layouts : List Layout) (n : ℕ) (type : Name) → within m layouts (suc n) (struct type) ≡ sum_by (λ f. within m layouts n f.kind) (fields_in layouts type)
nested measure.Fields layouts n type = refl
nested measure.Octets layouts n type = refl

one_type : (ds : List Decl16) → (n : ℕ) × (length (layouts_of ds) ≡ suc n)
one_type ds = (length (flat_map (layout_in (top_names ds)) ds), length-append (flat_map (layout_in (top_names ds)) ds) (standard_layout ∷ []) ∙ one_more (length (flat_map (layout_in (top_names ds)) ds))) where
  one_more : (n : ℕ) → n + 1 ≡ suc n
  one_more n = omega arith

standard_by : (m : Measure) (layouts : List Layout) (n : ℕ) (type : Name) (b : Bool) → bytes_eq standard_name type ≡ b → standard_size m type ≡ up_to (sum_by (λ f. within m layouts n f.kind) (cond b standard_layout.fields []))
standard_by measure.Fields layouts n type true e = ap (λ b. length (cond b standard_layout.fields [])) e
standard_by measure.Fields layouts n type false e = ap (λ b. length (cond b standard_layout.fields [])) e
standard_by measure.Octets layouts n type true e = refl
standard_by measure.Octets layouts n type false e = refl

-- of a type that isn't declared
pub undeclared_size : (m : Measure) (ds : List Decl16) (type : Name) → IsUndeclared ds built_in type → standard_size m type ≡ up_to (of_kind m (layouts_of ds) (struct type))
undeclared_size m ds type u =
    let count = one_type ds in
    standard_by m (layouts_of ds) count.0 type (bytes_eq standard_name type) refl
    ∙ ap up_to (ap (sum_by (λ f. within m (layouts_of ds) count.0 f.kind)) (sym (u.fields (top_names ds) (standard_layout ∷ [])))
    ∙ (sym (nested m (layouts_of ds) count.0 type)
    ∙ ap (λ n. within m (layouts_of ds) n (struct type)) (sym count.1)))

looked_struct_is : (m : Measure) (ds : List Decl16) (type : Name) → looked m ds (structs_of m ds) (struct type) ≡ up_to (of_kind m (layouts_of ds) (struct type))
looked_struct_is m ds type = by_found (finds ds built_in type) where
  by_found : IsDeclared ds built_in type ⊎ IsUndeclared ds built_in type → looked m ds (structs_of m ds) (struct type) ≡ up_to (of_kind m (layouts_of ds) (struct type))
  by_found (inl f) =
      ap (λ o. option_map_or (slice_index (structs_of m ds)) o (standard_size m type)) f.at
      ∙ by_number (λ name. up_to (of_kind m (layouts_of ds) (struct name))) ds type f.number f.at
  by_found (inr u) = ap (λ o. option_map_or (slice_index (structs_of m ds)) o (standard_size m type)) u.none ∙ undeclared_size m ds type u

-- all kinds

of_any_kind : (m : Measure) (ds : List Decl16) (k : Kind) → looked m ds (structs_of m ds) k ≡ up_to (of_kind m (layouts_of ds) k)
of_any_kind m ds (struct type) = looked_struct_is m ds type
of_any_kind m ds (bits w) = plain_looked m ds (structs_of m ds) (bits w) refl
of_any_kind m ds unsized = plain_looked m ds (structs_of m ds) unsized refl
of_any_kind m ds boolean = plain_looked m ds (structs_of m ds) boolean refl
of_any_kind m ds error_code = plain_looked m ds (structs_of m ds) error_code refl
of_any_kind m ds (header type) = plain_looked m ds (structs_of m ds) (header type) refl
of_any_kind m ds (stack type size) = plain_looked m ds (structs_of m ds) (stack type size) refl
of_any_kind m ds packet_in = plain_looked m ds (structs_of m ds) packet_in refl
of_any_kind m ds packet_out = plain_looked m ds (structs_of m ds) packet_out refl
of_any_kind m ds errors = plain_looked m ds (structs_of m ds) errors refl
of_any_kind m ds (enumeration o) = plain_looked m ds (structs_of m ds) (enumeration o) refl
of_any_kind m ds (one_of o) = plain_looked m ds (structs_of m ds) (one_of o) refl
of_any_kind m ds table = plain_looked m ds (structs_of m ds) table refl
of_any_kind m ds applied = plain_looked m ds (structs_of m ds) applied refl
of_any_kind m ds (object o) = plain_looked m ds (structs_of m ds) (object o) refl
of_any_kind m ds items = plain_looked m ds (structs_of m ds) items refl
of_any_kind m ds nothing = plain_looked m ds (structs_of m ds) nothing refl
of_any_kind m ds unknown = plain_looked m ds (structs_of m ds) unknown refl

pub looked_is : (m : Measure) (ds : List Decl16) (structs : List ℕ) (k : Kind) (found : ℕ) → structs ≡ structs_of m ds → found ≡ looked m ds structs k → found ≡ up_to (of_kind m (layouts_of ds) k)
looked_is m ds structs k found are is = is ∙ (ap (λ l. looked m ds l k) are ∙ of_any_kind m ds k)
