-- All headers together have few octets (C7).
use Rattle.std.proofs.Common.{◌≡◌, ℕ, zero, suc, ◌+◌, ◌*◌, ◌/◌, ◌<◌, ◌≤◌, true, Option, Some, None, List, [], ◌∷◌, ◌++◌, length, map, refl, sym, ap, ◌∙◌, subst, arith}
use Rattle.std.specs.Prelude.{sum_by, nat_lt}
use Rattle.std.specs.Option.{option_map_or}
use Rattle.std.proofs.lemmas.Bool.{ltb-false}
use Rattle.std.proofs.lemmas.List.Sums.{sum_by-cons}
use Rattle.std.proofs.Math.Nat.{mul-div-le}
use Rattle.p414_syntax.specs.declared.lexeme.Literal.{Literal}
use Rattle.p414_syntax.specs.declared.headers.Field.{Field}
use Rattle.p414_syntax.specs.declared.syntax.Decl.{Decl}
use Rattle.p414_syntax.specs.declared.syntax.Decl.TheVariants as decl
use Rattle.p414_syntax.specs.declared.syntax.Sort.TheVariants as sort
use Rattle.p414_syntax.specs.Views.{HeaderTypeTree}
use Rattle.p414_syntax.specs.Breaks.{IsBroken}
use Rattle.p414_syntax.specs.Fields.{type_of, type_bits, field_bits}
use Rattle.p414_syntax.specs.Names.{Name}
use Rattle.p414_syntax.specs.Totals.{elements_of, bits_of_type, instance_fields, header_bits, has_too_much}
use Rattle.p414_sem.specs.Expanded.{Expanded, IsExpanded}
use Rattle.p416_syntax.specs.declared.parts.StructField.{StructField}
use Rattle.p416_syntax.specs.Kinds.{struct}
use Rattle.p416_syntax.specs.Scopes.{Known, Layout, FieldKind, fields_in, kind_of_type}
use Rattle.p416_syntax.specs.Declarations.{struct_field, top_names, layouts_of}
use Rattle.p416_syntax.specs.Totals.{octets_within, octets_of_kind, field_bits as kind_bits}
use Rattle.v1_core.specs.Frames.{of_headers, of_metadata}
use Rattle.agreement_of_meanings.specs.Shown.{NamedField, Shown, as_header, as_stack, as_metadata, is_metadata, name_of, fields_of, width_of}
use Rattle.lower_laws_names.specs.Made.{called}
use Rattle.lower_laws_names.specs.NewNames.{new_name, struct_thing, field_thing}
use Rattle.lower_laws_names.specs.Instances.{named_from, type_fields, shown_header, named_fields, shown_instances}
use Rattle.lower_laws_names.specs.Types.{Member, members_from, members}
use Rattle.lower_laws_names.specs.Declared.{Among}
use Rattle.lower_laws_base.specs.Context.{instance_kind, shown_on}
use Rattle.lower_laws_states.specs.Laws.{BreaksNo}
use Rattle.lower_laws_states.proofs.Members.{neither, not_true}
use Rattle.lower_laws_program.specs.Program.{Parts, decls_of, root_struct, named_type, DeclaresOnce, parser_parameters}
use Rattle.lower_laws_program.specs.TypesFit.{instance_type, member, TypesFit}
use Rattle.lower_laws_program.proofs.Layouts.{as_kind, headers_layout, metadata_layout, fields_layout, kind_there}
use Rattle.lower_laws_program.proofs.Zeros.{deep}
use Rattle.lower_laws_declared.specs.Layout.{member_at, header_fields, metadata_fields, layout_shaped, type_words, IsShort}
use Rattle.lower_laws_declared.specs.Controls.{PartsAre}
use Rattle.lower_laws_declared.proofs.Members.{shown_is, members_count}
use Rattle.lower_laws_declared.proofs.Numbers.{declared_once}
use Rattle.lower_laws_declared.proofs.Whole.{parts_types}
use Rattle.lower_laws_declared.proofs.Totals.{place_of, HeaderCounts, MetadataCounts, both_sums, split, map_sum}

-- the octets of an instance among the headers
abbrev pub octets_at : Shown → ℕ → ℕ
octets_at (as_metadata called fields) size = 0
octets_at (as_header called fields) size = sum_by width_of fields / 8
octets_at (as_stack called fields) size = size * (sum_by width_of fields / 8)

abbrev pub weight : Member → ℕ
weight m = octets_at m.shown m.size

eight_times : (size b : ℕ) → 8 * (size * (b / 8)) ≤ size * b
eight_times zero b = omega arith
eight_times (suc size) b = let rest = eight_times size b in let one : 8 * (b / 8) ≤ b = mul-div-le b 8 in omega (arith, rest, one)

module _ (ds : List Decl) where
  few_bits : BreaksNo ds → sum_by (header_bits ds) ds ≤ 8 * 32768
  unfolding IsBroken
  few_bits none = ltb-false (8 * 32768) (sum_by (header_bits ds) ds) (neither (nat_lt 65536 (sum_by (instance_fields ds) ds)) _ (not_true (has_too_much ds) none.1.1.1.1.1.1.0)).1

  pub named_bits : (k : ℕ) (fields : List Field) → sum_by width_of (named_from k fields) ≡ sum_by field_bits fields
  named_bits k [] = refl
  named_bits k (f ∷ fields) = sum_by-cons width_of (record { called = called (field_thing k f.name); width = field_bits f }) (named_from (k + 1) fields) ∙ ap (λ (n : ℕ). field_bits f + n) (named_bits (k + 1) fields) ∙ sym (sum_by-cons field_bits f fields)

  type_bits_are : (type : Name) → sum_by width_of (named_fields ds type) ≡ bits_of_type ds type
  type_bits_are type = by (type_of ds type) where
    by : (o : Option HeaderTypeTree) → sum_by width_of (option_map_or type_fields o []) ≡ option_map_or type_bits o 0
    by None = refl
    by (Some t) = named_bits 0 t.fields

  header_weighs : (type name : Name) (size : Option Literal) → 8 * octets_at (shown_header ds type name size) (elements_of size) ≤ elements_of size * bits_of_type ds type
  header_weighs type name None = let one : 8 * (sum_by width_of (named_fields ds type) / 8) ≤ sum_by width_of (named_fields ds type) = mul-div-le (sum_by width_of (named_fields ds type)) 8 in omega (arith, one, type_bits_are type)
  header_weighs type name (Some n) = subst (λ (b : ℕ). 8 * (n.value * (sum_by width_of (named_fields ds type) / 8)) ≤ n.value * b) (type_bits_are type) (eight_times n.value (sum_by width_of (named_fields ds type)))

  weights_are : (k i : ℕ) (es : List Decl) → 8 * sum_by weight (members_from ds k i es) ≤ sum_by (header_bits ds) es
  weights_are k i [] = omega arith
  weights_are k i (decl.Header x ∷ es) =
      omega (arith, sum_by-cons weight (record { number = k; shown = shown_header ds x.header_type x.name x.size; type = new_name ds sort.HeaderType x.header_type; size = elements_of x.size }) (members_from ds (k + 1) i es), weights_are (k + 1) i es, header_weighs x.header_type x.name x.size, sum_by-cons (header_bits ds) (decl.Header x) es)
  weights_are k i (decl.Metadata x ∷ es) =
      omega (arith, sum_by-cons weight (record { number = k; shown = as_metadata (new_name ds sort.Instance x.name) (named_fields ds x.header_type); type = called (struct_thing i x.header_type); size = 1 }) (members_from ds (k + 1) (i + 1) es), weights_are (k + 1) (i + 1) es, sum_by-cons (header_bits ds) (decl.Metadata x) es)
  weights_are k i (d ∷ es) = weights_are k i es

zeros : {X : Type 0} (f : X → ℕ) → ((x : X) → f x ≡ 0) → (xs : List X) → sum_by f xs ≡ 0
zeros f none [] = refl
zeros f none (x ∷ xs) = omega (arith, sum_by-cons f x xs, none x, zeros f none xs)

module _ (ds : List Decl) (none : BreaksNo ds) (short : IsShort ds) (x : Expanded) (expanded : IsExpanded ds x) (p : Parts) (are : PartsAre ds x p) (parameters : p.parser.parameters ≡ parser_parameters) where
  abbrev names : List Known
  names = top_names (decls_of p)

  abbrev ls : List Layout
  ls = layouts_of (decls_of p)

  fits : TypesFit (layout_shaped ds []) ds x (type_words ds x) p.types
  fits = parts_types ds none short x expanded p are []

  once : DeclaresOnce p
  once = declared_once ds none short x p are

  kind_weighs : (n : ℕ) (s : Shown) (type : Name) (size : ℕ) → fields_in ls type ≡ map as_kind (fields_of s) → octets_within ls (suc n) (instance_kind s type size) ≡ octets_at s size
  kind_weighs n (as_header called fields) type size layout =
      ap (λ (l : List FieldKind). sum_by kind_bits l / 8) layout ∙ ap (λ (k : ℕ). k / 8) (map_sum as_kind kind_bits fields)
  kind_weighs n (as_stack called fields) type size layout =
      ap (λ (k : ℕ). size * k) (ap (λ (l : List FieldKind). sum_by kind_bits l / 8) layout ∙ ap (λ (k : ℕ). k / 8) (map_sum as_kind kind_bits fields))
  kind_weighs n (as_metadata called fields) type size layout =
      ap (sum_by (λ (f : FieldKind). octets_within ls n f.kind)) layout ∙ map_sum as_kind (λ (f : FieldKind). octets_within ls n f.kind) fields ∙ zeros (λ (f : NamedField). octets_within ls n (as_kind f).kind) (λ f. refl) fields

  module _ (n : ℕ) where
    abbrev F : StructField → ℕ
    F f = octets_within ls (suc n) (struct_field names f).kind

    at_place : (k : ℕ) → k < length (shown_instances ds) → octets_within ls (suc n) (kind_of_type names (instance_type (member_at ds k).shown (member_at ds k).type (member_at ds k).size)) ≡ weight (member_at ds k)
    at_place k lt =
        subst (λ (s : Shown). octets_within ls (suc n) (kind_of_type names (instance_type s (member_at ds k).type (member_at ds k).size)) ≡ octets_at s (member_at ds k).size) (shown_is ds k)
        (ap (octets_within ls (suc n)) (kind_there (layout_shaped ds []) ds x (type_words ds x) p fits once k lt)
        ∙ kind_weighs n (shown_on (layout_shaped ds []) k) (member_at ds k).type (member_at ds k).size (fields_layout (layout_shaped ds []) ds x (type_words ds x) p fits once k lt))

    of_member : (m : Member) → Among m (members ds) → octets_within ls (suc n) (kind_of_type names (instance_type m.shown m.type m.size)) ≡ weight m
    of_member m h =
        let r = place_of (members ds) m h in
        subst (λ (y : Member). octets_within ls (suc n) (kind_of_type names (instance_type y.shown y.type y.size)) ≡ weight y) r.2 (at_place r.0 (omega (arith, r.1, members_count ds)))

    each : (m : Member) → Among m (members ds) → HeaderCounts F weight m × MetadataCounts F weight m
    each m h = ((λ is. of_member m h), λ is. meta m.shown refl is (of_member m h)) where
      meta : (s : Shown) → m.shown ≡ s → is_metadata m.shown ≡ true → octets_within ls (suc n) (kind_of_type names (instance_type m.shown m.type m.size)) ≡ weight m → F (member (named_type m.type) (name_of m.shown)) ≡ weight m
      meta (as_metadata called fields) e is same = ap (λ (s : Shown). octets_within ls (suc n) (kind_of_type names (instance_type s m.type m.size))) (sym e) ∙ same
      meta (as_header called fields) e is same = absurd (cc (ap is_metadata e, is))
      meta (as_stack called fields) e is same = absurd (cc (ap is_metadata e, is))

    all_weigh : both_sums F weight (members ds) ≡ sum_by weight (members ds)
    all_weigh = split F weight (members ds) each

  -- C7
  pub octets_bound : octets_of_kind ls (struct (root_struct of_headers)) + octets_of_kind ls (struct (root_struct of_metadata)) ≤ 32768
  octets_bound =
      let d = deep (layout_shaped ds []) ds x (type_words ds x) p fits once parameters in
      let n = d.0 in
      let headers : octets_of_kind ls (struct (root_struct of_headers)) ≡ sum_by (F n) (header_fields ds) = ap (λ (k : ℕ). octets_within ls k (struct (root_struct of_headers))) d.1 ∙ ap (sum_by (λ (f : FieldKind). octets_within ls (suc n) f.kind)) (headers_layout (layout_shaped ds []) ds x (type_words ds x) p fits once) ∙ map_sum (struct_field names) (λ (f : FieldKind). octets_within ls (suc n) f.kind) (header_fields ds) in
      let metadata : octets_of_kind ls (struct (root_struct of_metadata)) ≡ sum_by (F n) (metadata_fields ds) = ap (λ (k : ℕ). octets_within ls k (struct (root_struct of_metadata))) d.1 ∙ ap (sum_by (λ (f : FieldKind). octets_within ls (suc n) f.kind)) (metadata_layout (layout_shaped ds []) ds x (type_words ds x) p fits once) ∙ map_sum (struct_field names) (λ (f : FieldKind). octets_within ls (suc n) f.kind) (metadata_fields ds) in
      omega (arith, headers, metadata, all_weigh n, weights_are ds 0 0 ds, few_bits ds none)

  pub octets_few : octets_of_kind ls (struct (root_struct of_headers)) ≤ 32768
  octets_few = omega (arith, octets_bound)
