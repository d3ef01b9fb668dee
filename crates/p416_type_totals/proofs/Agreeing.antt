-- Two ways of counting kinds that agree on the kinds of fields agree on the fields together.
use Rattle.std.proofs.Common.{◌≡◌, ◌⊎◌, inl, inr, ℕ, Bool, true, false, not, ◌&&◌, cond, Option, Some, None, List, [], ◌∷◌, map, filter_map, sum_by, refl, sym, ap, ◌∙◌, subst, arith, slice_get}
use Rattle.std.specs.List.{cons_option, list_all}
use Rattle.std.specs.Str.{bytes_eq}
use Rattle.std.proofs.lemmas.List.Sums.{sum_by-cons}
use Rattle.digraph.specs.Graphs.{Among}
use Rattle.p416_syntax.specs.declared.parts.Type16.{Type16}
use Rattle.p416_syntax.specs.declared.parts.Type16.TheVariants.{Bit, Bool as BoolType, Named}
use Rattle.p416_syntax.specs.declared.parts.BitField.{BitField}
use Rattle.p416_syntax.specs.declared.parts.StructField.{StructField}
use Rattle.p416_syntax.specs.declared.parts.Struct16.{Struct16}
use Rattle.p416_syntax.specs.declared.controls.Instance.{Instance}
use Rattle.p416_syntax.specs.declared.controls.Instance.TheVariants as instance
use Rattle.p416_syntax.specs.declared.program.Decl16.{Decl16}
use Rattle.p416_syntax.specs.declared.program.Decl16.TheVariants as decl
use Rattle.p416_syntax.specs.Names.{Name}
use Rattle.p416_syntax.specs.Kinds.{Kind, bits, unsized, boolean, error_code, header, stack, struct, packet_in, packet_out, errors, enumeration, one_of, table, applied, object, items, nothing, unknown, is_struct}
use Rattle.p416_syntax.specs.BuiltIn.{standard, built_in, functions}
use Rattle.p416_syntax.specs.Scopes.{a_function, Known, known, FieldKind, sort_in, type_sort, stack_kind, kind_of_type}
use Rattle.p416_syntax.specs.Declarations.{top_name, top_names, instance_sort, bit_field, struct_field}
use Rattle.p416_syntax.specs.Unknown.{declared_name, declaration_number, type_name, field_type_name, held_by}
use Rattle.p416_names.specs.internal.Tables.{fields_of}
use Rattle.p416_type_totals.proofs.Finding.{IsDeclared, IsUndeclared, finds, same_name}

-- what is no struct, but for the standard metadata

stack_plain : (size : ℕ) (k : Kind) → is_struct (stack_kind size k) ≡ false
stack_plain size (bits w) = refl
stack_plain size unsized = refl
stack_plain size boolean = refl
stack_plain size error_code = refl
stack_plain size (header type) = refl
stack_plain size (stack type n) = refl
stack_plain size (struct type) = refl
stack_plain size packet_in = refl
stack_plain size packet_out = refl
stack_plain size errors = refl
stack_plain size (enumeration e) = refl
stack_plain size (one_of e) = refl
stack_plain size table = refl
stack_plain size applied = refl
stack_plain size (object o) = refl
stack_plain size items = refl
stack_plain size nothing = refl
stack_plain size unknown = refl

-- a name that is first among these, or not, whatever holds of both
by_first : (P : Kind → Type 0) (k : Known) (rest : List Known) (text : Name) → P (type_sort k.sort) → P (type_sort (sort_in rest text)) → P (type_sort (sort_in (k ∷ rest) text))
by_first P k rest text first further = by_test (bytes_eq k.called text) where
  by_test : (b : Bool) → P (type_sort (cond b k.sort (sort_in rest text)))
  by_test true = first
  by_test false = further

abbrev AllKinds : (Kind → Type 0) → List Known → Type 0
AllKinds P [] = P unknown
AllKinds P (k ∷ names) = P (type_sort k.sort) × AllKinds P names

by_all : (P : Kind → Type 0) (names : List Known) (text : Name) → AllKinds P names → P (type_sort (sort_in names text))
by_all P [] text are = are
by_all P (k ∷ names) text are = by_first P k names text are.0 (by_all P names text are.1)

all_functions : (P : Kind → Type 0) (names : List Name) → P unknown → AllKinds P (map (known a_function) names)
all_functions P [] is = is
all_functions P (name ∷ names) is = (is, all_functions P names is)

by_built_in : (P : Kind → Type 0) (text : Name) → P packet_in → P packet_out → P standard → P unknown → P (type_sort (sort_in built_in text))
by_built_in P text read written metadata other =
    by_all P built_in text (read, (written, (metadata, (other, (other, (other, (other, all_functions P functions other)))))))

-- fields with kinds that are no structs

abbrev pub are_plain : List FieldKind → Bool
are_plain fields = list_all (λ f. not (is_struct f.kind)) fields

module _ (F G : Kind → ℕ) (plain : (k : Kind) → is_struct k ≡ false → F k ≡ G k) where
  plain_step : (k : Kind) (b : Bool) (rest : Bool) → is_struct k ≡ b → (not b && rest) ≡ true → (F k ≡ G k) × (rest ≡ true)
  plain_step k true rest is e = absurd (never e) where
    never : false ≡ true → ⊥
    never h = cc
  plain_step k false rest is e = (plain k is, e)

  pub plain_agree : (fields : List FieldKind) → are_plain fields ≡ true → sum_by (λ f. F f.kind) fields ≡ sum_by (λ f. G f.kind) fields
  plain_agree [] e = refl
  plain_agree (f ∷ fields) e =
      let now = plain_step f.kind (is_struct f.kind) (are_plain fields) refl e in
      let a = sum_by-cons (λ y. F y.kind) f fields in
      let b = sum_by-cons (λ y. G y.kind) f fields in
      let c = plain_agree fields now.1 in
      let d = now.0 in
      omega (arith, a, b, c, d)

  pub bits_agree : (fields : List BitField) → sum_by (λ f. F f.kind) (map bit_field fields) ≡ sum_by (λ f. G f.kind) (map bit_field fields)
  bits_agree [] = refl
  bits_agree (f ∷ fields) =
      let a = sum_by-cons (λ y. F y.kind) (bit_field f) (map bit_field fields) in
      let b = sum_by-cons (λ y. G y.kind) (bit_field f) (map bit_field fields) in
      let c = bits_agree fields in
      let d : F (bits f.width.value) ≡ G (bits f.width.value) = plain (bits f.width.value) refl in
      omega (arith, a, b, c, d)

-- fields of types

among_first : (ds : List Decl16) (o : Option Name) (names : List Name) (text : Name) (j : ℕ) → o ≡ Some text → declaration_number ds text ≡ Some j → Among j (filter_map (declaration_number ds) (cons_option o names))
among_first ds o names text j e at = rw (e, at) (inl refl)

among_further : (ds : List Decl16) (o : Option Name) (names : List Name) (j : ℕ) → Among j (filter_map (declaration_number ds) names) → Among j (filter_map (declaration_number ds) (cons_option o names))
among_further ds None names j h = h
among_further ds (Some text) names j h = behind (declaration_number ds text) where
  behind : (p : Option ℕ) → Among j (cons_option p (filter_map (declaration_number ds) names))
  behind None = h
  behind (Some n) = inr h

module _ (ds : List Decl16) (F G : Kind → ℕ) (plain : (k : Kind) → is_struct k ≡ false → F k ≡ G k) (at_standard : F standard ≡ G standard) where
  -- what is asked of the structs that these numbers are those of
  abbrev pub AgreeOn : List ℕ → Type 0
  AgreeOn numbers = (j : ℕ) (x : Struct16) → Among j numbers → slice_get ds j ≡ Some (decl.Struct x) → declaration_number ds x.name ≡ Some j → F (struct x.name) ≡ G (struct x.name)

  of_instance : (i : Instance) → F (type_sort (instance_sort i)) ≡ G (type_sort (instance_sort i))
  of_instance (instance.Counter size m text) = plain unknown refl
  of_instance (instance.DirectCounter m text) = plain unknown refl
  of_instance (instance.Register width size text) = plain unknown refl
  of_instance (instance.Meter size m text) = plain unknown refl

  by_decl : (text : Name) (j : ℕ) (d : Decl16) → declaration_number ds text ≡ Some j → slice_get ds j ≡ Some d → text ≡ declared_name d
      → ((x : Struct16) → slice_get ds j ≡ Some (decl.Struct x) → declaration_number ds x.name ≡ Some j → F (struct x.name) ≡ G (struct x.name)) → F (type_sort (top_name d).sort) ≡ G (type_sort (top_name d).sort)
  by_decl text j (decl.Header h) at there named agree = plain (header h.name) refl
  by_decl text j (decl.Struct x) at there named agree = agree x there (ap (declaration_number ds) (sym named) ∙ at)
  by_decl text j (decl.Instance notes i) at there named agree = of_instance i
  by_decl text j (decl.Parser p) at there named agree = plain unknown refl
  by_decl text j (decl.Control c) at there named agree = plain unknown refl

  by_name : (text : Name) → ((j : ℕ) (x : Struct16) → declaration_number ds text ≡ Some j → slice_get ds j ≡ Some (decl.Struct x) → declaration_number ds x.name ≡ Some j → F (struct x.name) ≡ G (struct x.name))
      → F (type_sort (sort_in (top_names ds) text)) ≡ G (type_sort (sort_in (top_names ds) text))
  by_name text agree = by_found (finds ds built_in text) where
    by_found : IsDeclared ds built_in text ⊎ IsUndeclared ds built_in text → F (type_sort (sort_in (top_names ds) text)) ≡ G (type_sort (sort_in (top_names ds) text))
    by_found (inl f) = subst (λ s. F (type_sort s) ≡ G (type_sort s)) (sym f.means) (by_decl text f.number f.of f.at f.there (same_name text (declared_name f.of) f.named) (λ x there own. agree f.number x f.at there own))
    by_found (inr u) = subst (λ s. F (type_sort s) ≡ G (type_sort s)) (sym u.means) (by_built_in (λ k. F k ≡ G k) text (plain packet_in refl) (plain packet_out refl) at_standard (plain unknown refl))

  by_type : (of : Type16) (names : List Name) → AgreeOn (filter_map (declaration_number ds) (cons_option (type_name of) names)) → F (kind_of_type (top_names ds) of) ≡ G (kind_of_type (top_names ds) of)
  by_type (Bit w) names agree = plain (bits w.value) refl
  by_type BoolType names agree = plain boolean refl
  by_type (Named text (Some size)) names agree = plain (stack_kind size.value (type_sort (sort_in (top_names ds) text))) (stack_plain size.value (type_sort (sort_in (top_names ds) text)))
  by_type (Named text None) names agree = by_name text (λ j x at there own. agree j x (among_first ds (Some text) names text j refl at) there own)

  pub typed_agree : (fields : List StructField) → AgreeOn (filter_map (declaration_number ds) (filter_map field_type_name fields)) → sum_by (λ f. F f.kind) (map (struct_field (top_names ds)) fields) ≡ sum_by (λ f. G f.kind) (map (struct_field (top_names ds)) fields)
  typed_agree [] agree = refl
  typed_agree (f ∷ fields) agree =
      let a = sum_by-cons (λ y. F y.kind) (struct_field (top_names ds) f) (map (struct_field (top_names ds)) fields) in
      let b = sum_by-cons (λ y. G y.kind) (struct_field (top_names ds) f) (map (struct_field (top_names ds)) fields) in
      let c = typed_agree fields (λ j x among there own. agree j x (among_further ds (field_type_name f) (filter_map field_type_name fields) j among) there own) in
      let d : F (kind_of_type (top_names ds) f.of) ≡ G (kind_of_type (top_names ds) f.of) = by_type f.of (filter_map field_type_name fields) agree in
      omega (arith, a, b, c, d)

  -- the fields of a declaration, where what it holds agrees
  pub decl_agrees : (d : Decl16) → AgreeOn (held_by ds d) → sum_by (λ f. F f.kind) (fields_of (top_names ds) d) ≡ sum_by (λ f. G f.kind) (fields_of (top_names ds) d)
  decl_agrees (decl.Header h) agree = bits_agree F G plain h.fields
  decl_agrees (decl.Struct x) agree = typed_agree x.fields agree
  decl_agrees (decl.Instance notes i) agree = refl
  decl_agrees (decl.Parser p) agree = refl
  decl_agrees (decl.Control c) agree = refl
