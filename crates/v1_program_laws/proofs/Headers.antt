-- T2: the headers that are declared are whole octets.
use Rattle.std.proofs.Common.{◌≡◌, inl, inr, ℕ, zero, suc, ◌+◌, ◌*◌, ◌%◌, ◌/◌, ◌&&◌, ◌||◌, not, nat_eq, Bool, true, false, Option, Some, IfSome, List, [], ◌∷◌, map, flat_map, slice_get, refl, sym, ap, ◌∙◌, subst, arith}
use Rattle.std.specs.Prelude.{IsTrue}
use Rattle.std.specs.List.{list_any, sum_by}
use Rattle.std.proofs.lemmas.Bool.{eqb-true}
use Rattle.std.proofs.lemmas.List.Sums.{sum_by-cons}
use Rattle.std.proofs.lemmas.List.Folds.{list_any-append}
use Rattle.p416_syntax.specs.declared.parts.BitField.{BitField}
use Rattle.p416_syntax.specs.declared.program.Decl16.{Decl16}
use Rattle.p416_syntax.specs.declared.program.Decl16.TheVariants as decl
use Rattle.p416_syntax.specs.declared.program.Syntax16.{Syntax16}
use Rattle.p416_syntax.specs.Names.{Name}
use Rattle.p416_syntax.specs.Scopes.{FieldKind, fields_in}
use Rattle.p416_syntax.specs.Uses.{Use}
use Rattle.p416_syntax.specs.Sizes.{bits_of_field, has_bad_width, is_no_octets, leaves_size}
use Rattle.p416_syntax.specs.Declarations.{bit_field, field_width, layouts_of}
use Rattle.p416_syntax.specs.Breaks.{BreaksNone, program_rules, has_use, scope_of, SomeDeclaration, IsBroken, uses_in, program_uses}
use Rattle.v1_core.specs.Slots.{FramePart}
use Rattle.v1_core.specs.Seats.{Form, slot_form, header_form, stack_form, struct_form, no_form, Seat}
use Rattle.v1_core.specs.Programs.{part_seat}
use Rattle.v1_deed_laws.specs.Forms.{total_bits, IsEmitted}
use Rattle.v1_block_laws.proofs.Tests.{first_false, second_false, in_front, at_end}
use Rattle.v1_block_laws.proofs.Accepted.{main_kept}
use Rattle.p416_type_totals.proofs.Finding.{own_fields}
use Rattle.v1_program_laws.proofs.Shapes.{declared_once}
use Rattle.v1_program_laws.specs.HeaderLaws.{IsHeaded, HeadersAreWhole}
use Rattle.v1_program_laws.proofs.Seated.{HeadersAre, FormWhole, part_whole}

at_some : {A : Type 0} (B : A → Type 0) (o : Option A) (x : A) → o ≡ Some x → IfSome o B → B x
at_some {A = A} B o x is h = subst (λ (p : Option A). IfSome p B) is h

bits_total : (fields : List BitField) → total_bits (map bit_field fields) ≡ sum_by bits_of_field fields
bits_total [] = refl
bits_total (f ∷ fields) = ap (λ (n : ℕ). f.width.value + n) (bits_total fields) ∙ sym (sum_by-cons bits_of_field f fields)

not_false : (t : Bool) → not t ≡ false → t ≡ true
not_false true e = refl
not_false false e = absurd (cc e)

octets_of : (n : ℕ) → is_no_octets n ≡ false → (k : ℕ) × (n ≡ 8 * k)
octets_of n is =
    let even : n % 8 ≡ 0 = eqb-true (n % 8) 0 (not_false (nat_eq (n % 8) 0) (second_false (nat_eq n 0) (not (nat_eq (n % 8) 0)) is)) in
    (n / 8, omega (arith, even))

none_wide : (fields : List BitField) → list_any leaves_size (map field_width fields) ≡ false → list_any has_bad_width fields ≡ false
none_wide [] kept = refl
none_wide (f ∷ fields) kept =
    ap (λ (t : Bool). t || list_any has_bad_width fields) (first_false (has_bad_width f) (list_any leaves_size (map field_width fields)) kept)
    ∙ none_wide fields (second_false (has_bad_width f) (list_any leaves_size (map field_width fields)) kept)

header_octets : (fields : List BitField) → ((not (list_any has_bad_width fields) && is_no_octets (sum_by bits_of_field fields)) || list_any leaves_size (map field_width fields)) ≡ false → is_no_octets (sum_by bits_of_field fields) ≡ false
header_octets fields kept =
    sym (ap (λ (t : Bool). not t && is_no_octets (sum_by bits_of_field fields)) (none_wide fields (second_false (not (list_any has_bad_width fields) && is_no_octets (sum_by bits_of_field fields)) (list_any leaves_size (map field_width fields)) kept)))
    ∙ first_false (not (list_any has_bad_width fields) && is_no_octets (sum_by bits_of_field fields)) (list_any leaves_size (map field_width fields)) kept

-- what no declaration breaks

no_use : (syntax : Syntax16) (test : Use → Bool) (d : Decl16) → (IsTrue (has_use test (scope_of syntax d) d) → ⊥) → list_any test (uses_in syntax d) ≡ false
no_use syntax test d never = by (has_use test (scope_of syntax d) d) refl where
  by : (t : Bool) → has_use test (scope_of syntax d) d ≡ t → has_use test (scope_of syntax d) d ≡ false
  by true e = absurd (never e)
  by false e = e

no_uses : (syntax : Syntax16) (test : Use → Bool) (ds : List Decl16) → (SomeDeclaration (λ d. IsTrue (has_use test (scope_of syntax d) d)) ds → ⊥) → list_any test (flat_map (uses_in syntax) ds) ≡ false
no_uses syntax test [] never = refl
no_uses syntax test (d ∷ ds) never =
    list_any-append test (uses_in syntax d) (flat_map (uses_in syntax) ds)
    ∙ (ap (λ (t : Bool). t || list_any test (flat_map (uses_in syntax) ds)) (no_use syntax test d (λ x. never (inl x)))
    ∙ no_uses syntax test ds (λ x. never (inr x)))

sizes_kept : (syntax : Syntax16) → BreaksNone syntax program_rules → list_any leaves_size (program_uses syntax) ≡ false
unfolding IsBroken
sizes_kept syntax keeps = no_uses syntax leaves_size syntax.decls (λ x. keeps.1.0 (inl x))

some_is : (d e : Decl16) → Some d ≡ Some e → d ≡ e
some_is d e h = cc h

none_at : (syntax : Syntax16) (ds : List Decl16) (i : ℕ) (d : Decl16) → slice_get ds i ≡ Some d → list_any leaves_size (flat_map (uses_in syntax) ds) ≡ false → list_any leaves_size (uses_in syntax d) ≡ false
none_at syntax [] i d there kept = absurd (cc there)
none_at syntax (x ∷ ds) zero d there kept = subst (λ (y : Decl16). list_any leaves_size (uses_in syntax y) ≡ false) (some_is x d there) (in_front leaves_size (uses_in syntax x) (flat_map (uses_in syntax) ds) kept)
none_at syntax (x ∷ ds) (suc i) d there kept = none_at syntax ds i d there (at_end leaves_size (uses_in syntax x) (flat_map (uses_in syntax) ds) kept)

module _ (syntax : Syntax16) (accepted : BreaksNone syntax program_rules) where
  abbrev Whole : Name → Type 0
  Whole type = (k : ℕ) × (total_bits (fields_in (layouts_of syntax.decls) type) ≡ 8 * k)

  one_whole : (i : ℕ) (name : Name) (fields : List BitField) → slice_get syntax.decls i ≡ Some (decl.Header (record { name = name; fields = fields })) → Whole name
  one_whole i name fields there =
      let kept = none_at syntax syntax.decls i (decl.Header (record { name = name; fields = fields })) there (sizes_kept syntax accepted) in
      let octets = octets_of (sum_by bits_of_field fields) (header_octets fields kept) in
      let own : fields_in (layouts_of syntax.decls) name ≡ map bit_field fields = own_fields syntax.decls i (decl.Header (record { name = name; fields = fields })) (declared_once syntax accepted) there in
      (octets.0, ap (λ (l : List FieldKind). total_bits l) own ∙ (bits_total fields ∙ octets.1))

  headers_are : (ds : List Decl16) → ((i : ℕ) (name : Name) (fields : List BitField) → slice_get ds i ≡ Some (decl.Header (record { name = name; fields = fields })) → Whole name) → HeadersAre Whole ds
  headers_are [] all = tt
  headers_are (decl.Header h ∷ ds) all = (all 0 h.name h.fields refl, headers_are ds (λ i name fields is. all (suc i) name fields is))
  headers_are (decl.Struct x ∷ ds) all = headers_are ds (λ i name fields is. all (suc i) name fields is)
  headers_are (decl.Instance notes x ∷ ds) all = headers_are ds (λ i name fields is. all (suc i) name fields is)
  headers_are (decl.Parser p ∷ ds) all = headers_are ds (λ i name fields is. all (suc i) name fields is)
  headers_are (decl.Control c ∷ ds) all = headers_are ds (λ i name fields is. all (suc i) name fields is)

  emitted : (f : Form) → IsHeaded f → FormWhole Whole f → IsEmitted (layouts_of syntax.decls) f
  emitted (slot_form of) headed h = absurd headed
  emitted (header_form type) headed h = h
  emitted (stack_form type size) headed h = h
  emitted (struct_form type) headed h = absurd headed
  emitted no_form headed h = absurd headed

  whole_at : (p : FramePart) (t : Seat) → part_seat syntax p ≡ Some t → IsHeaded t.form → IsEmitted (layouts_of syntax.decls) t.form
  whole_at p t at headed = emitted t.form headed (at_some (λ (u : Seat). FormWhole Whole u.form) (part_seat syntax p) t at (part_whole Whole syntax p (main_kept syntax accepted) (headers_are syntax.decls one_whole)))

pub headers_are_whole : HeadersAreWhole
headers_are_whole syntax accepted p t at headed = whole_at syntax accepted p t at headed
