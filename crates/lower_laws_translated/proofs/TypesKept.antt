-- Each type that is written breaks no rule (C1 to C5, C25).
use Rattle.std.proofs.Common.{◌≡◌, inl, inr, ℕ, ◌+◌, ◌<◌, ◌≤◌, ◌^◌, Bool, true, false, cond, Option, Some, None, List, [], ◌∷◌, ◌++◌, map, refl, sym, ap, ap₂, ◌∙◌, subst, arith}
use Rattle.std.specs.Prelude.{codes, filter, filter_map, nat_lt}
use Rattle.std.specs.List.{list_any, AllByRecursion}
use Rattle.std.specs.Option.{option_map_or}
use Rattle.std.proofs.lemmas.Bool.{ltb-false}
use Rattle.std.proofs.lemmas.List.{length-map}
use Rattle.std.proofs.lemmas.Slice.Eq.{bytes_eq-Decides}
use Rattle.p414_syntax.specs.declared.lexeme.Literal.{Literal}
use Rattle.p414_syntax.specs.declared.headers.Field.{Field}
use Rattle.p414_syntax.specs.declared.headers.Header.{Header}
use Rattle.p414_syntax.specs.declared.syntax.Decl.{Decl}
use Rattle.p414_syntax.specs.declared.syntax.Decl.TheVariants as decl
use Rattle.p414_syntax.specs.declared.syntax.Rule14.{Rule14}
use Rattle.p414_syntax.specs.declared.syntax.Sort.TheVariants as sort
use Rattle.p414_syntax.specs.Views.{HeaderTypeTree}
use Rattle.p414_syntax.specs.Names.{field_name}
use Rattle.p414_syntax.specs.Fields.{types, header_type_in, type_of, is_rest_field}
use Rattle.p414_syntax.specs.Stacks.{is_bad_size, declares_bad_size}
use Rattle.p414_syntax.specs.Totals.{elements_of}
use Rattle.p414_syntax.specs.Widths.{is_bad_field, declares_bad_width}
use Rattle.p414_sem.specs.Expanded.{Expanded}
use Rattle.p416_syntax.specs.declared.parts.Note.{Note}
use Rattle.p416_syntax.specs.declared.parts.StructField.{StructField}
use Rattle.p416_syntax.specs.declared.program.Decl16.{Decl16}
use Rattle.p416_syntax.specs.declared.program.Decl16.TheVariants as decl16
use Rattle.p416_syntax.specs.Names.{Name, repeats}
use Rattle.p416_syntax.specs.Scopes.{Scope}
use Rattle.p416_syntax.specs.Declarations.{struct_uses}
use Rattle.p416_syntax.specs.Breaks.{scope_of}
use Rattle.agreement_of_meanings.specs.Shown.{NamedField, Shown, as_header, as_stack, as_metadata, is_metadata, fields_of}
use Rattle.lower_laws_names.proofs.Lists.{fields_once}
use Rattle.lower_laws_names.proofs.OneSort.{fields_tested}
use Rattle.lower_laws_names.specs.Instances.{named_from, type_fields}
use Rattle.lower_laws_names.specs.Marks.{marks_of_field}
use Rattle.lower_laws_names.specs.Types.{Member, members_from, members, notes_of, struct_fields_from, struct_decl, struct_decls, header_member, metadata_member, header_decl, header_decls, has_type, is_used, headers_decl, metadata_decl}
use Rattle.lower_laws_names.specs.Declared.{Among}
use Rattle.lower_laws_names.proofs.Declared.{called_all, type_named, OfMetadata, Origin, origin}
use Rattle.lower_laws_states.specs.Expansions.{Has}
use Rattle.lower_laws_states.proofs.Members.{neither, none_passes, mapped_has, picked_has, each_has, has_each}
use Rattle.lower_laws_states.proofs.Rules.{none_twice, widths_right, stacks_right, all_supported}
use Rattle.lower_laws_states.proofs.Bounded.{type_has, no_rest}
use Rattle.lower_laws_states.proofs.Widths.{width_wide}
use Rattle.lower_laws_program.specs.Program.{syntax_of}
use Rattle.lower_laws_rules.specs.Keeping.{Keeps}
use Rattle.lower_laws_rules.specs.Written.{marks16, MarkedField, marked_field16, TypedField, typed_field16}
use Rattle.lower_laws_rules.specs.Declared.{FitsWidth, FieldIsThere}
use Rattle.lower_laws_rules.specs.Whole.{EachKeeps}
use Rattle.lower_laws_rules.proofs.Types.{marked_name, FitsMarked, metadata_kept, typed_name, members_kept}
use Rattle.lower_laws_block_rules.specs.Joined.{decl_held}
use Rattle.lower_laws_declared.proofs.Accepted.{types_known}
use Rattle.lower_laws_declared.proofs.Found.{declaration_found}
use Rattle.lower_laws_declared.proofs.Headers.{header_keeps}
use Rattle.lower_laws_translated.specs.Given.{IsGiven}
use Rattle.lower_laws_translated.proofs.Defaults.{any_has}
use Rattle.lower_laws_translated.proofs.Roots.{p, fits, MemberHere, member_here}

fields_wide : (k : ℕ) (fields : List Field) → list_any is_bad_field fields ≡ false → list_any is_rest_field fields ≡ false → AllByRecursion FitsWidth (named_from k fields)
fields_wide k [] right whole = tt
fields_wide k (f ∷ fields) right whole =
    let a = neither (is_bad_field f) (list_any is_bad_field fields) right in
    let b = neither (is_rest_field f) (list_any is_rest_field fields) whole in
    let wide = width_wide f.width a.0 b.0 in
    ((omega (arith, wide.0), wide.1), fields_wide (k + 1) fields a.1 b.1)

-- fields of a struct of metadata with their marks

notes_same : (ns : List ℕ) → notes_of ns ≡ marks16 ns
notes_same [] = refl
notes_same (n ∷ ns) = refl

abbrev field_called : NamedField → Name
field_called f = f.called

module _ (ds : List Decl) (x : Expanded) where
  abbrev marked_of : ℕ → ℕ → List NamedField → List MarkedField
  marked_of k f [] = []
  marked_of k f (field ∷ fields) = record { field = field; marks = marks_of_field ds x k f } ∷ marked_of k (f + 1) fields

  marked_same : (k f : ℕ) (fields : List NamedField) → struct_fields_from ds x k f fields ≡ map marked_field16 (marked_of k f fields)
  marked_same k f [] = refl
  marked_same k f (field ∷ fields) =
      ap₂ (λ (notes : List Note) (rest : List StructField). record { notes = notes; of = Rattle.p416_syntax.specs.declared.parts.Type16.TheVariants.Bit (Rattle.lower_laws_names.specs.Types.plain field.width); name = field.called } ∷ rest) (notes_same (marks_of_field ds x k f)) (marked_same k (f + 1) fields)

  marked_names : (k f : ℕ) (fields : List NamedField) → map marked_name (marked_of k f fields) ≡ map field_called fields
  marked_names k f [] = refl
  marked_names k f (field ∷ fields) = ap (λ (l : List Name). field.called ∷ l) (marked_names k (f + 1) fields)

  marked_wide : (k f : ℕ) (fields : List NamedField) → AllByRecursion FitsWidth fields → AllByRecursion FitsMarked (marked_of k f fields)
  marked_wide k f [] all = tt
  marked_wide k f (field ∷ fields) all = (all.0, marked_wide k (f + 1) fields all.1)

-- members of the two structs

abbrev typed_header : Member → Option TypedField
typed_header m = of m.shown where
  of : Shown → Option TypedField
  of (as_header name fields) = Some (record { called = name; type = m.type; size = None })
  of (as_stack name fields) = Some (record { called = name; type = m.type; size = Some m.size })
  of (as_metadata name fields) = None

abbrev typed_metadata : Member → Option TypedField
typed_metadata m = of m.shown where
  of : Shown → Option TypedField
  of (as_metadata name fields) = Some (record { called = name; type = m.type; size = None })
  of _ = None

headers_same : (ms : List Member) → filter_map header_member ms ≡ map typed_field16 (filter_map typed_header ms)
headers_same [] = refl
headers_same (m ∷ ms) = by m.shown (headers_same ms) where
  by : (s : Shown) → filter_map header_member ms ≡ map typed_field16 (filter_map typed_header ms) → filter_map header_member (record m { shown = s } ∷ ms) ≡ map typed_field16 (filter_map typed_header (record m { shown = s } ∷ ms))
  by (as_header n fs) e = ap (λ (l : List StructField). typed_field16 (record { called = n; type = m.type; size = None }) ∷ l) e
  by (as_stack n fs) e = ap (λ (l : List StructField). typed_field16 (record { called = n; type = m.type; size = Some m.size }) ∷ l) e
  by (as_metadata n fs) e = e

metadata_same : (ms : List Member) → filter_map metadata_member ms ≡ map typed_field16 (filter_map typed_metadata ms)
metadata_same [] = refl
metadata_same (m ∷ ms) = by m.shown (metadata_same ms) where
  by : (s : Shown) → filter_map metadata_member ms ≡ map typed_field16 (filter_map typed_metadata ms) → filter_map metadata_member (record m { shown = s } ∷ ms) ≡ map typed_field16 (filter_map typed_metadata (record m { shown = s } ∷ ms))
  by (as_header n fs) e = e
  by (as_stack n fs) e = e
  by (as_metadata n fs) e = ap (λ (l : List StructField). typed_field16 (record { called = n; type = m.type; size = None }) ∷ l) e

typed_names : (fs : List TypedField) → map typed_name fs ≡ map (λ (f : StructField). f.name) (map typed_field16 fs)
typed_names [] = refl
typed_names (f ∷ fs) = ap (λ (l : List Name). f.called ∷ l) (typed_names fs)

-- sizes (C4)

abbrev SizeFew : Member → Type 0
SizeFew m = (0 < m.size) × (m.size ≤ 256)

few_elements : (size : Option Literal) → option_map_or is_bad_size size false ≡ false → (0 < elements_of size) × (elements_of size ≤ 256)
few_elements None right = (omega arith, omega arith)
few_elements (Some n) right = let both = neither (nat_lt n.value 1) (nat_lt 256 n.value) right in (let some = ltb-false n.value 1 both.0 in omega (arith, some), ltb-false 256 n.value both.1)

sizes_few : (ds : List Decl) (k i : ℕ) (es : List Decl) → list_any declares_bad_size es ≡ false → AllByRecursion SizeFew (members_from ds k i es)
sizes_few ds k i [] e = tt
sizes_few ds k i (decl.Header h ∷ es) e = let both = neither (declares_bad_size (decl.Header h)) (list_any declares_bad_size es) e in (few_elements h.size both.0, sizes_few ds (k + 1) i es both.1)
sizes_few ds k i (decl.Metadata h ∷ es) e = let both = neither (declares_bad_size (decl.Metadata h)) (list_any declares_bad_size es) e in ((omega arith, omega arith), sizes_few ds (k + 1) (i + 1) es both.1)
sizes_few ds k i (d ∷ es) e = sizes_few ds k i es (neither (declares_bad_size d) (list_any declares_bad_size es) e).1

module _ (ds : List Decl) (x : Expanded) (given : IsGiven ds x) (under : Rule14) where
  abbrev Kept : Decl16 → Type 0
  Kept d = EachKeeps (syntax_of (p ds x given under)) decl_held d

  -- the fields of a type that is declared

  fields_differ : (type : Name) (t : HeaderTypeTree) → type_of ds type ≡ Some t → repeats (map field_called (type_fields t)) ≡ false
  fields_differ type t is = ap repeats (called_all 0 t.fields) ∙ fields_once (map field_name t.fields) (fields_tested ds (none_twice ds given.none) type t is) (omega (arith, length-map t.fields field_name, given.short.few_fields type t is))

  pub all_wide : (type : Name) (t : HeaderTypeTree) → type_of ds type ≡ Some t → AllByRecursion FitsWidth (type_fields t)
  all_wide type t is =
      let h = type_has ds type t is in
      fields_wide 0 t.fields (none_passes declares_bad_width ds (decl.HeaderType t) (widths_right ds given.none) h) (no_rest ds (all_supported ds given.none) t h)

  -- header types

  declared_type : (d : Decl) (t : HeaderTypeTree) → header_type_in d ≡ Some t → d ≡ decl.HeaderType t
  declared_type (decl.HeaderType u) t e = ap decl.HeaderType (cc e)
  declared_type _ t e = absurd (cc e)

  type_declared : (t : HeaderTypeTree) → Has (types ds) t → Has ds (decl.HeaderType t)
  type_declared t h = let d = picked_has header_type_in ds t h in subst (Has ds) (declared_type d.0 t d.2) d.1

  used_by : (d : Decl) (type : Name) → has_type type d ≡ true → (h : Header) × (d ≡ decl.Header h) × (h.header_type ≡ type)
  used_by (decl.Header h) type e = (h, refl, (bytes_eq-Decides h.header_type type).0 e)
  used_by _ type e = absurd (cc e)

  -- the type of a header, as it is declared
  pub used_found : (t : HeaderTypeTree) → Has (types ds) t → is_used ds t ≡ true → (h : Header) × Has ds (decl.Header h) × (type_of ds h.header_type ≡ Some t)
  used_found t h used =
      let d = any_has (has_type t.name) ds used in
      let u = used_by d.0 t.name d.2 in
      let there : Has ds (decl.Header u.0) = subst (Has ds) u.1 d.1 in
      let known = types_known ds given.none (decl.Header u.0) there in
      let named = type_named ds u.0.header_type known.0 known.1 in
      let one = declaration_found ds given.none sort.HeaderType (decl.HeaderType known.0) t.name (type_has ds u.0.header_type known.0 known.1) (ap Some (named.0 ∙ u.2)) in
      let other = declaration_found ds given.none sort.HeaderType (decl.HeaderType t) t.name (type_declared t h) refl in
      let same : known.0 ≡ t = inside known.0 t (sym one ∙ other) in
      (u.0, there, known.1 ∙ ap Some same)
    where
      inside : (a b : HeaderTypeTree) → Some (decl.HeaderType a) ≡ Some (decl.HeaderType b) → a ≡ b
      inside a b e = cc e

  header_kept : (t : HeaderTypeTree) → Has (types ds) t → is_used ds t ≡ true → Kept (header_decl ds t)
  header_kept t h used =
      let u = used_found t h used in
      record { keeps = header_keeps ds given.none given.short u.0 u.1 t u.2; states = λ never. never; calls = λ never. never }

  pub kept_pass : {X : Type 0} (q : X → Bool) (xs : List X) (y : X) → Has (filter q xs) y → Has xs y × (q y ≡ true)
  kept_pass q [] y h = absurd h
  kept_pass q (z ∷ xs) y h = by (q z) refl h (kept_pass q xs y) where
    by : (b : Bool) → q z ≡ b → Has (cond b (z ∷ filter q xs) (filter q xs)) y → (Has (filter q xs) y → Has xs y × (q y ≡ true)) → Has (z ∷ xs) y × (q y ≡ true)
    by true e (inl same) rest = (inl same, ap q (sym same) ∙ e)
    by true e (inr h) rest = let r = rest h in (inr r.0, r.1)
    by false e h rest = let r = rest h in (inr r.0, r.1)

  pub headers_kept : AllByRecursion Kept (header_decls ds)
  headers_kept = each_has Kept (header_decls ds) (λ y h.
      let t = mapped_has (header_decl ds) (filter (is_used ds) (types ds)) y h in
      let u = kept_pass (is_used ds) (types ds) t.0 t.1 in
      subst Kept t.2 (header_kept t.0 u.0 u.1))

  -- structs of metadata

  of_metadata_there : (m : Member) → Among m (members ds) → is_metadata m.shown ≡ true → OfMetadata ds m
  of_metadata_there m h is = by m.shown (origin ds 0 0 ds (λ d g. (g, types_known ds given.none d g)) m h) is where
    by : (s : Shown) → Origin ds m s → is_metadata s ≡ true → OfMetadata ds m
    by (as_metadata n fs) o is = o
    by (as_header n fs) o is = absurd (cc is)
    by (as_stack n fs) o is = absurd (cc is)

  struct_fields_kept : (s : Scope) (called : Name) (k : ℕ) (fields : List NamedField) → repeats (map field_called fields) ≡ false → AllByRecursion FitsWidth fields → Keeps (struct_uses s (record { name = called; fields = struct_fields_from ds x k 0 fields })) []
  struct_fields_kept s called k fields differ wide =
      subst (λ (fs : List StructField). Keeps (struct_uses s (record { name = called; fields = fs })) []) (sym (marked_same ds x k 0 fields))
      (metadata_kept s called (marked_of ds x k 0 fields) (ap repeats (marked_names ds x k 0 fields) ∙ differ) (marked_wide ds x k 0 fields wide))

  struct_kept : (m : Member) → Among m (members ds) → (y : Decl16) → struct_decl ds x m ≡ Some y → Kept y
  struct_kept m h y e = by m.shown refl e where
    by : (s : Shown) → m.shown ≡ s → struct_decl ds x (record m { shown = s }) ≡ Some y → Kept y
    by (as_metadata n fs) is e =
        let o = of_metadata_there m h (ap is_metadata is) in
        let fields : fs ≡ type_fields o.tree = sym (ap fields_of is) ∙ o.fields in
        let written : decl16.Struct (record { name = m.type; fields = struct_fields_from ds x m.number 0 fs }) ≡ y = inside _ y e in
        subst Kept written (record {
          keeps = struct_fields_kept (scope_of (syntax_of (p ds x given under)) (decl16.Struct (record { name = m.type; fields = struct_fields_from ds x m.number 0 fs }))) m.type m.number fs (ap (λ (l : List NamedField). repeats (map field_called l)) fields ∙ fields_differ o.type o.tree o.found) (subst (AllByRecursion FitsWidth) (sym fields) (all_wide o.type o.tree o.found));
          states = λ never. never;
          calls = λ never. never;
        })
      where
        inside : (a b : Decl16) → Some a ≡ Some b → a ≡ b
        inside a b e = cc e
    by (as_header n fs) is e = absurd (cc e)
    by (as_stack n fs) is e = absurd (cc e)

  pub structs_kept : AllByRecursion Kept (struct_decls ds x)
  structs_kept = each_has Kept (struct_decls ds x) (λ y h.
      let m = picked_has (struct_decl ds x) (members ds) y h in
      struct_kept m.0 m.1 y m.2)

  -- the two structs

  pub size_few : (m : Member) → Has (members ds) m → SizeFew m
  size_few m h = has_each SizeFew (members ds) m (sizes_few ds 0 0 ds (neither (list_any declares_bad_size ds) _ (stacks_right ds given.none)).0) h

  header_there : (d : Decl16) (m : Member) → Has (members ds) m → (f : TypedField) → typed_header m ≡ Some f → FieldIsThere (scope_of (syntax_of (p ds x given under)) d) f
  header_there d m h f e = by m.shown refl e where
    here : MemberHere ds x given under m
    here = member_here ds x given under m h

    inside : (a b : TypedField) → Some a ≡ Some b → a ≡ b
    inside a b e = cc e

    by : (s : Shown) → m.shown ≡ s → typed_header (record m { shown = s }) ≡ Some f → FieldIsThere (scope_of (syntax_of (p ds x given under)) d) f
    by (as_header n fs) is e = subst (FieldIsThere (scope_of (syntax_of (p ds x given under)) d)) (inside _ f e) (inl (here.header_sort (ap is_metadata is)))
    by (as_stack n fs) is e = subst (FieldIsThere (scope_of (syntax_of (p ds x given under)) d)) (inside _ f e) (here.header_sort (ap is_metadata is), (size_few m h).0, (size_few m h).1)
    by (as_metadata n fs) is e = absurd (cc e)

  metadata_there : (d : Decl16) (m : Member) → Has (members ds) m → (f : TypedField) → typed_metadata m ≡ Some f → FieldIsThere (scope_of (syntax_of (p ds x given under)) d) f
  metadata_there d m h f e = by m.shown refl e where
    here : MemberHere ds x given under m
    here = member_here ds x given under m h

    inside : (a b : TypedField) → Some a ≡ Some b → a ≡ b
    inside a b e = cc e

    by : (s : Shown) → m.shown ≡ s → typed_metadata (record m { shown = s }) ≡ Some f → FieldIsThere (scope_of (syntax_of (p ds x given under)) d) f
    by (as_metadata n fs) is e = subst (FieldIsThere (scope_of (syntax_of (p ds x given under)) d)) (inside _ f e) (inr (here.struct_sort (ap is_metadata is)))
    by (as_header n fs) is e = absurd (cc e)
    by (as_stack n fs) is e = absurd (cc e)

  pub headers_struct_kept : Kept (headers_decl ds)
  headers_struct_kept = record {
    keeps =
        let s = scope_of (syntax_of (p ds x given under)) (headers_decl ds) in
        subst (λ (fs : List StructField). Keeps (struct_uses s (record { name = codes "hs"; fields = fs })) []) (sym (headers_same (members ds)))
        (members_kept s (codes "hs") (filter_map typed_header (members ds))
        (ap repeats (typed_names (filter_map typed_header (members ds))) ∙ ap (λ (fs : List StructField). repeats (map (λ (f : StructField). f.name) fs)) (sym (headers_same (members ds))) ∙ (fits ds x given under).headers_once)
        (each_has (FieldIsThere s) (filter_map typed_header (members ds)) (λ f h. let m = picked_has typed_header (members ds) f h in header_there (headers_decl ds) m.0 m.1 f m.2)));
    states = λ never. never;
    calls = λ never. never;
  }

  pub metadata_struct_kept : Kept (metadata_decl ds)
  metadata_struct_kept = record {
    keeps =
        let s = scope_of (syntax_of (p ds x given under)) (metadata_decl ds) in
        subst (λ (fs : List StructField). Keeps (struct_uses s (record { name = codes "ms"; fields = fs })) []) (sym (metadata_same (members ds)))
        (members_kept s (codes "ms") (filter_map typed_metadata (members ds))
        (ap repeats (typed_names (filter_map typed_metadata (members ds))) ∙ ap (λ (fs : List StructField). repeats (map (λ (f : StructField). f.name) fs)) (sym (metadata_same (members ds))) ∙ (fits ds x given under).metadata_once)
        (each_has (FieldIsThere s) (filter_map typed_metadata (members ds)) (λ f h. let m = picked_has typed_metadata (members ds) f h in metadata_there (metadata_decl ds) m.0 m.1 f m.2)));
    states = λ never. never;
    calls = λ never. never;
  }
