-- What the structs of headers and metadata count (C7).
use Rattle.std.proofs.Common.{◌≡◌, inl, inr, ℕ, suc, ◌+◌, ◌*◌, ◌/◌, ◌<◌, ◌≤◌, true, false, Option, Some, None, List, [], ◌∷◌, ◌++◌, length, map, get_or, refl, sym, ap, ap₂, ◌∙◌, subst, arith}
use Rattle.std.specs.Prelude.{filter_map, sum_by, nat_lt, slice_get}
use Rattle.std.proofs.lemmas.List.{length-map}
use Rattle.std.proofs.lemmas.Bool.{ltb-false}
use Rattle.std.proofs.lemmas.List.Sums.{sum_by-cons}
use Rattle.p414_syntax.specs.declared.lexeme.Literal.{Literal}
use Rattle.p414_syntax.specs.declared.syntax.Decl.{Decl}
use Rattle.p414_syntax.specs.declared.syntax.Decl.TheVariants as decl
use Rattle.p414_syntax.specs.declared.syntax.Sort.TheVariants as sort
use Rattle.p414_syntax.specs.Breaks.{IsBroken}
use Rattle.p414_syntax.specs.Names.{Name, declared_in}
use Rattle.p414_syntax.specs.Totals.{elements_of, instance_fields, has_too_much}
use Rattle.p414_sem.specs.Expanded.{Expanded, IsExpanded}
use Rattle.p416_syntax.specs.declared.parts.StructField.{StructField}
use Rattle.p416_syntax.specs.Kinds.{struct}
use Rattle.p416_syntax.specs.Scopes.{Known, Layout, FieldKind, fields_in, kind_of_type}
use Rattle.p416_syntax.specs.Declarations.{struct_field, top_names, layouts_of}
use Rattle.p416_syntax.specs.Totals.{header_fields as fields_of_header, fields_within, fields_of_kind}
use Rattle.v1_core.specs.Frames.{of_headers, of_metadata}
use Rattle.agreement_of_meanings.specs.Shown.{NamedField, Shown, as_header, as_stack, as_metadata, is_metadata, name_of, fields_of}
use Rattle.lower_laws_names.specs.Made.{called}
use Rattle.lower_laws_names.specs.NewNames.{new_name, struct_thing}
use Rattle.lower_laws_names.specs.Instances.{shown_header, named_fields, shown_instances}
use Rattle.lower_laws_names.specs.Types.{Member, members_from, members, header_member, metadata_member}
use Rattle.lower_laws_names.specs.Declared.{Among}
use Rattle.lower_laws_names.proofs.Marked.{counted}
use Rattle.lower_laws_base.specs.Context.{instance_kind, shown_on}
use Rattle.lower_laws_states.specs.Laws.{BreaksNo}
use Rattle.lower_laws_states.proofs.Members.{neither, not_true, none_past}
use Rattle.lower_laws_base.proofs.Blank.{SizeFits, size_fits}
use Rattle.lower_laws_program.specs.Program.{Parts, decls_of, root_struct, named_type, DeclaresOnce, parser_parameters}
use Rattle.lower_laws_program.specs.TypesFit.{instance_type, member, TypesFit}
use Rattle.lower_laws_program.proofs.Layouts.{as_kind, headers_layout, metadata_layout, fields_layout, kind_there}
use Rattle.lower_laws_program.proofs.Zeros.{deep}
use Rattle.lower_laws_declared.specs.Layout.{no_member, member_at, header_fields, metadata_fields, layout_shaped, type_words, IsShort}
use Rattle.lower_laws_declared.specs.Controls.{PartsAre}
use Rattle.lower_laws_declared.proofs.Members.{shown_is, members_count, declared_count, member_is_shown}
use Rattle.lower_laws_declared.proofs.Numbers.{declared_once}
use Rattle.lower_laws_declared.proofs.Whole.{parts_types}

-- C7, over the declarations
module _ (ds : List Decl) where
  few_fields : BreaksNo ds → sum_by (instance_fields ds) ds ≤ 65536
  unfolding IsBroken
  few_fields none = ltb-false 65536 (sum_by (instance_fields ds) ds) (neither (nat_lt 65536 (sum_by (instance_fields ds) ds)) _ (not_true (has_too_much ds) none.1.1.1.1.1.1.0)).0

  -- the fields of an instance, over members
  abbrev pub count : Member → ℕ
  count m = m.size * length (fields_of m.shown)

  fields_shown : (type name : Name) (size : Option Literal) → fields_of (shown_header ds type name size) ≡ named_fields ds type
  fields_shown type name None = refl
  fields_shown type name (Some n) = refl

  counts_are : (k i : ℕ) (es : List Decl) → sum_by count (members_from ds k i es) ≡ sum_by (instance_fields ds) es
  counts_are k i [] = refl
  counts_are k i (decl.Header x ∷ es) =
      let one : elements_of x.size * length (fields_of (shown_header ds x.header_type x.name x.size)) ≡ instance_fields ds (decl.Header x) = ap (λ (fs : List NamedField). elements_of x.size * length fs) (fields_shown x.header_type x.name x.size) ∙ ap (λ (n : ℕ). elements_of x.size * n) (sym (counted ds x.header_type)) in
      sum_by-cons count (record { number = k; shown = shown_header ds x.header_type x.name x.size; type = new_name ds sort.HeaderType x.header_type; size = elements_of x.size }) (members_from ds (k + 1) i es) ∙ ap₂ (λ (a b : ℕ). a + b) one (counts_are (k + 1) i es) ∙ sym (sum_by-cons (instance_fields ds) (decl.Header x) es)
  counts_are k i (decl.Metadata x ∷ es) =
      let one : 1 * length (named_fields ds x.header_type) ≡ instance_fields ds (decl.Metadata x) = omega (arith, counted ds x.header_type) in
      sum_by-cons count (record { number = k; shown = as_metadata (new_name ds sort.Instance x.name) (named_fields ds x.header_type); type = called (struct_thing i x.header_type); size = 1 }) (members_from ds (k + 1) (i + 1) es) ∙ ap₂ (λ (a b : ℕ). a + b) one (counts_are (k + 1) (i + 1) es) ∙ sym (sum_by-cons (instance_fields ds) (decl.Metadata x) es)
  counts_are k i (d ∷ es) = counts_are k i es

-- members at their places
pub place_of : (ms : List Member) (m : Member) → Among m ms → (k : ℕ) × (k < length ms) × (get_or ms k no_member ≡ m)
place_of [] m h = absurd h
place_of (n ∷ ms) m (inl e) = (0, omega arith, e)
place_of (n ∷ ms) m (inr h) = let r = place_of ms m h in (suc r.0, omega (arith, r.1), r.2)

-- both structs together count what their members count
module _ (F : StructField → ℕ) (G : Member → ℕ) where
  abbrev pub HeaderCounts : Member → Type 0
  HeaderCounts m = is_metadata m.shown ≡ false → F (member (instance_type m.shown m.type m.size) (name_of m.shown)) ≡ G m

  abbrev pub MetadataCounts : Member → Type 0
  MetadataCounts m = is_metadata m.shown ≡ true → F (member (named_type m.type) (name_of m.shown)) ≡ G m

  abbrev pub both_sums : List Member → ℕ
  both_sums ms = sum_by F (filter_map header_member ms) + sum_by F (filter_map metadata_member ms)

  one_more : (m : Member) (ms : List Member) → HeaderCounts m → MetadataCounts m → both_sums (m ∷ ms) ≡ G m + both_sums ms
  one_more m ms a b = by m.shown refl where
    by : (s : Shown) → m.shown ≡ s → both_sums (m ∷ ms) ≡ G m + both_sums ms
    by (as_header n fs) e =
        let f : F (member (instance_type (as_header n fs) m.type m.size) n) ≡ G m = subst (λ (s : Shown). is_metadata s ≡ false → F (member (instance_type s m.type m.size) (name_of s)) ≡ G m) e a refl in
        ap (λ (s : Shown). both_sums (record m { shown = s } ∷ ms)) e
        ∙ ap (λ (k : ℕ). k + sum_by F (filter_map metadata_member ms)) (sum_by-cons F (member (instance_type (as_header n fs) m.type m.size) n) (filter_map header_member ms) ∙ ap (λ (k : ℕ). k + sum_by F (filter_map header_member ms)) f)
        ∙ omega arith
    by (as_stack n fs) e =
        let f : F (member (instance_type (as_stack n fs) m.type m.size) n) ≡ G m = subst (λ (s : Shown). is_metadata s ≡ false → F (member (instance_type s m.type m.size) (name_of s)) ≡ G m) e a refl in
        ap (λ (s : Shown). both_sums (record m { shown = s } ∷ ms)) e
        ∙ ap (λ (k : ℕ). k + sum_by F (filter_map metadata_member ms)) (sum_by-cons F (member (instance_type (as_stack n fs) m.type m.size) n) (filter_map header_member ms) ∙ ap (λ (k : ℕ). k + sum_by F (filter_map header_member ms)) f)
        ∙ omega arith
    by (as_metadata n fs) e =
        let f : F (member (named_type m.type) n) ≡ G m = subst (λ (s : Shown). is_metadata s ≡ true → F (member (named_type m.type) (name_of s)) ≡ G m) e b refl in
        ap (λ (s : Shown). both_sums (record m { shown = s } ∷ ms)) e
        ∙ ap (λ (k : ℕ). sum_by F (filter_map header_member ms) + k) (sum_by-cons F (member (named_type m.type) n) (filter_map metadata_member ms) ∙ ap (λ (k : ℕ). k + sum_by F (filter_map metadata_member ms)) f)
        ∙ omega arith

  pub split : (ms : List Member) → ((m : Member) → Among m ms → HeaderCounts m × MetadataCounts m) → both_sums ms ≡ sum_by G ms
  split [] each = refl
  split (m ∷ ms) each =
      one_more m ms (each m (inl refl)).0 (each m (inl refl)).1 ∙ ap (λ (k : ℕ). G m + k) (split ms (λ n h. each n (inr h))) ∙ sym (sum_by-cons G m ms)

pub map_sum : {X Y : Type 0} (h : X → Y) (f : Y → ℕ) (xs : List X) → sum_by f (map h xs) ≡ sum_by (λ x. f (h x)) xs
map_sum h f [] = refl
map_sum h f (x ∷ xs) = sum_by-cons f (h x) (map h xs) ∙ ap (λ (k : ℕ). f (h x) + k) (map_sum h f xs) ∙ sym (sum_by-cons (λ y. f (h y)) x xs)

ones : {X : Type 0} (f : X → ℕ) → ((x : X) → f x ≡ 1) → (xs : List X) → sum_by f xs ≡ length xs
ones f one [] = refl
ones f one (x ∷ xs) = omega (arith, sum_by-cons f x xs, one x, ones f one xs)

module _ (ds : List Decl) (none : BreaksNo ds) (short : IsShort ds) (x : Expanded) (expanded : IsExpanded ds x) (p : Parts) (are : PartsAre ds x p) (parameters : p.parser.parameters ≡ parser_parameters) where
  abbrev names : List Known
  names = top_names (decls_of p)

  abbrev ls : List Layout
  ls = layouts_of (decls_of p)

  fits : TypesFit (layout_shaped ds []) ds x (type_words ds x) p.types
  fits = parts_types ds none short x expanded p are []

  once : DeclaresOnce p
  once = declared_once ds none short x p are

  -- what a member counts, from its layout
  kind_counts : (n : ℕ) (s : Shown) (type : Name) (size : ℕ) → SizeFits s size → fields_in ls type ≡ map as_kind (fields_of s) → fields_within ls (suc n) (instance_kind s type size) ≡ size * length (fields_of s)
  kind_counts n (as_header called fields) type size one layout =
      let sum : fields_of_header ls type ≡ length fields = ap (λ (l : List FieldKind). length l) layout ∙ length-map fields as_kind in
      let more : 1 * length fields ≡ length fields = omega arith in
      sum ∙ sym more ∙ ap (λ (k : ℕ). k * length fields) (sym one)
  kind_counts n (as_stack called fields) type size one layout = ap (λ (k : ℕ). size * k) (ap (λ (l : List FieldKind). length l) layout ∙ length-map fields as_kind)
  kind_counts n (as_metadata called fields) type size one layout =
      let sum : sum_by (λ (f : FieldKind). fields_within ls n f.kind) (fields_in ls type) ≡ length fields = ap (sum_by (λ (f : FieldKind). fields_within ls n f.kind)) layout ∙ map_sum as_kind (λ (f : FieldKind). fields_within ls n f.kind) fields ∙ ones (λ (f : NamedField). fields_within ls n (as_kind f).kind) (λ f. refl) fields in
      let more : 1 * length fields ≡ length fields = omega arith in
      sum ∙ sym more ∙ ap (λ (k : ℕ). k * length fields) (sym one)

  pub size_at_place : (k : ℕ) → k < length (shown_instances ds) → SizeFits (member_at ds k).shown (member_at ds k).size
  size_at_place k lt = by (slice_get (declared_in sort.Instance ds) k) refl where
    by : (o : Option Decl) → slice_get (declared_in sort.Instance ds) k ≡ o → SizeFits (member_at ds k).shown (member_at ds k).size
    by None e = absurd (omega (arith, none_past (declared_in sort.Instance ds) k e, lt, declared_count ds))
    by (Some d) e = size_fits ds (get_or (declared_in sort.Instance ds) k d) (member_at ds k).shown (member_at ds k).size (member_is_shown ds k lt d)

  module _ (n : ℕ) where
    abbrev F : StructField → ℕ
    F f = fields_within ls (suc n) (struct_field names f).kind

    at_place : (k : ℕ) → k < length (shown_instances ds) → fields_within ls (suc n) (kind_of_type names (instance_type (member_at ds k).shown (member_at ds k).type (member_at ds k).size)) ≡ count ds (member_at ds k)
    at_place k lt =
        subst (λ (s : Shown). fields_within ls (suc n) (kind_of_type names (instance_type s (member_at ds k).type (member_at ds k).size)) ≡ (member_at ds k).size * length (fields_of s)) (shown_is ds k)
        (ap (fields_within ls (suc n)) (kind_there (layout_shaped ds []) ds x (type_words ds x) p fits once k lt)
        ∙ kind_counts n (shown_on (layout_shaped ds []) k) (member_at ds k).type (member_at ds k).size (subst (λ (s : Shown). SizeFits s (member_at ds k).size) (sym (shown_is ds k)) (size_at_place k lt)) (fields_layout (layout_shaped ds []) ds x (type_words ds x) p fits once k lt))

    of_member : (m : Member) → Among m (members ds) → fields_within ls (suc n) (kind_of_type names (instance_type m.shown m.type m.size)) ≡ count ds m
    of_member m h =
        let r = place_of (members ds) m h in
        subst (λ (y : Member). fields_within ls (suc n) (kind_of_type names (instance_type y.shown y.type y.size)) ≡ count ds y) r.2 (at_place r.0 (omega (arith, r.1, members_count ds)))

    each : (m : Member) → Among m (members ds) → HeaderCounts F (count ds) m × MetadataCounts F (count ds) m
    each m h = ((λ is. of_member m h), λ is. meta m.shown refl is (of_member m h)) where
      meta : (s : Shown) → m.shown ≡ s → is_metadata m.shown ≡ true → fields_within ls (suc n) (kind_of_type names (instance_type m.shown m.type m.size)) ≡ count ds m → F (member (named_type m.type) (name_of m.shown)) ≡ count ds m
      meta (as_metadata called fields) e is same = ap (λ (s : Shown). fields_within ls (suc n) (kind_of_type names (instance_type s m.type m.size))) (sym e) ∙ same
      meta (as_header called fields) e is same = absurd (cc (ap is_metadata e, is))
      meta (as_stack called fields) e is same = absurd (cc (ap is_metadata e, is))

    both_count : both_sums F (count ds) (members ds) ≡ sum_by (instance_fields ds) ds
    both_count = split F (count ds) (members ds) each ∙ counts_are ds 0 0 ds

  -- C7
  pub fields_bound : fields_of_kind ls (struct (root_struct of_headers)) + fields_of_kind ls (struct (root_struct of_metadata)) ≤ 65536
  fields_bound =
      let d = deep (layout_shaped ds []) ds x (type_words ds x) p fits once parameters in
      let n = d.0 in
      let headers : fields_of_kind ls (struct (root_struct of_headers)) ≡ sum_by (F n) (header_fields ds) = ap (λ (k : ℕ). fields_within ls k (struct (root_struct of_headers))) d.1 ∙ ap (sum_by (λ (f : FieldKind). fields_within ls (suc n) f.kind)) (headers_layout (layout_shaped ds []) ds x (type_words ds x) p fits once) ∙ map_sum (struct_field names) (λ (f : FieldKind). fields_within ls (suc n) f.kind) (header_fields ds) in
      let metadata : fields_of_kind ls (struct (root_struct of_metadata)) ≡ sum_by (F n) (metadata_fields ds) = ap (λ (k : ℕ). fields_within ls k (struct (root_struct of_metadata))) d.1 ∙ ap (sum_by (λ (f : FieldKind). fields_within ls (suc n) f.kind)) (metadata_layout (layout_shaped ds []) ds x (type_words ds x) p fits once) ∙ map_sum (struct_field names) (λ (f : FieldKind). fields_within ls (suc n) f.kind) (metadata_fields ds) in
      omega (arith, headers, metadata, both_count n, few_fields ds none)

  pub fields_few : fields_of_kind ls (struct (root_struct of_headers)) + fields_of_kind ls (struct (root_struct of_metadata)) ≤ 131072
  fields_few = omega (arith, fields_bound)
