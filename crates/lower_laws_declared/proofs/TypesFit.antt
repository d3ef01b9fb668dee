-- Of an accepted program the written types fit (C1, C2, C4, C8, C25).
use Rattle.std.proofs.Common.{◌≡◌, inl, inr, ℕ, ◌+◌, ◌<◌, ◌≤◌, false, Option, Some, None, List, [], ◌∷◌, length, map, get_or, refl, sym, ap, ◌∙◌, subst, arith}
use Rattle.std.specs.Prelude.{slice_get}
use Rattle.std.specs.Option.{option_map_or}
use Rattle.std.proofs.lemmas.Option.{get_or_from_slice_get}
use Rattle.state_store.specs.declared.shapes.Shape.{Shape}
use Rattle.p414_syntax.specs.declared.syntax.Decl.{Decl}
use Rattle.p414_syntax.specs.declared.syntax.Sort.TheVariants as sort
use Rattle.p414_syntax.specs.Names.{declared_in}
use Rattle.p414_sem.specs.Expanded.{Expanded, IsExpanded, items_in_list}
use Rattle.p416_syntax.specs.declared.parts.StructField.{StructField}
use Rattle.p416_syntax.specs.declared.program.Decl16.TheVariants as decl
use Rattle.v1_core.specs.Passes.{is_in_list}
use Rattle.agreement_of_meanings.specs.Shown.{Shown, as_header, as_stack, as_metadata, is_metadata, name_of, fields_of, width_of, field_at, shown_at}
use Rattle.lower_laws_names.specs.Instances.{shown_instances}
use Rattle.lower_laws_names.specs.Types.{members, struct_field, struct_fields_from, header_member, metadata_member, headers_decl, metadata_decl}
use Rattle.lower_laws_names.specs.Objects.{top_decls}
use Rattle.lower_laws_names.proofs.Declared.{OfHeader, Origin, origin, members_once, picked_once, header_named, metadata_named}
use Rattle.lower_laws_names.proofs.Instances.{names_differ}
use Rattle.lower_laws_names.proofs.Marks.{field_at_place, fields_count, is_marked, is_unmarked}
use Rattle.lower_laws_states.specs.Fits.{widths_in, widths_at}
use Rattle.lower_laws_states.specs.Laws.{BreaksNo}
use Rattle.lower_laws_states.proofs.Members.{none_past}
use Rattle.lower_laws_base.specs.Types.{ShownDecl}
use Rattle.lower_laws_passes.specs.Preserving.{struct_field_at, no_struct_field}
use Rattle.lower_laws_program.specs.Program.{named_type}
use Rattle.lower_laws_program.specs.TypesFit.{bit_field_of, instance_type, member, TypesFit, fields_written, struct_of, StackShown}
use Rattle.lower_laws_declared.specs.Layout.{member_at, header_fields, metadata_fields, layout_shaped, type_words, IsShort}
use Rattle.lower_laws_declared.proofs.Members.{shown_is, declared_count, member_among, member_number, member_is_shown, member_is}
use Rattle.lower_laws_declared.proofs.Accepted.{has_names, types_known}
use Rattle.lower_laws_declared.proofs.Types.{of_root, header_written, marked_are, struct_written, header_there, metadata_there}
use Rattle.lower_laws_declared.proofs.Preserved.{same_items, lists_first}
use Rattle.lower_laws_states.specs.Expansions.{Has}

module _ (ds : List Decl) (x : Expanded) (none : BreaksNo ds) (expanded : IsExpanded ds x) (short : IsShort ds) where
  abbrev count : ℕ
  count = length (shown_instances ds)

  abbrev shown : ℕ → Shown
  shown k = shown_at (shown_instances ds) k

  pub origin_of : (k : ℕ) → k < count → Origin ds (member_at ds k) (member_at ds k).shown
  origin_of k lt = origin ds 0 0 ds (λ d h. (h, types_known ds none d h)) (member_at ds k) (member_among ds k lt)

  pub of_header : (k : ℕ) → k < count → is_metadata (shown k) ≡ false → OfHeader ds (member_at ds k)
  of_header k lt is = by (member_at ds k).shown (origin_of k lt) (ap is_metadata (sym (shown_is ds k)) ∙ is) where
    by : (s : Shown) → Origin ds (member_at ds k) s → is_metadata s ≡ false → OfHeader ds (member_at ds k)
    by (as_header n fs) o is = o
    by (as_stack n fs) o is = o
    by (as_metadata n fs) o is = absurd (cc is)

  -- declarations

  widths_so : (k : ℕ) → k < count → widths_at ds k ≡ map width_of (fields_of (shown k))
  widths_so k lt = by (slice_get (declared_in sort.Instance ds) k) refl where
    by : (o : Option Decl) → slice_get (declared_in sort.Instance ds) k ≡ o → option_map_or (widths_in ds) o [] ≡ map width_of (fields_of (shown k))
    by None e = absurd (omega (arith, none_past (declared_in sort.Instance ds) k e, lt, declared_count ds))
    by (Some d) e =
        ap (widths_in ds) (sym (get_or_from_slice_get (declared_in sort.Instance ds) k d d e))
        ∙ (member_is ds k lt d).widths ∙ ap (λ (s : Shown). map width_of (fields_of s)) (sym (shown_is ds k))

  -- the fields of a struct, each by its place

  struct_fields_are : (k : ℕ) → fields_written (layout_shaped ds []) (type_words ds x) k ≡ struct_fields_from ds x k 0 (fields_of (shown k))
  struct_fields_are k = sym (marked_are ds x k 0 (fields_of (shown k)))

  field_is : (k f : ℕ) → f < length (fields_written (layout_shaped ds []) (type_words ds x) k) → struct_field_at (fields_written (layout_shaped ds []) (type_words ds x) k) f ≡ struct_field ds x k f (field_at (fields_of (shown k)) f)
  field_is k f lt =
      let e : 0 + f ≡ f = omega arith in
      ap (λ (fs : List StructField). struct_field_at fs f) (struct_fields_are k)
      ∙ field_at_place ds x k 0 (fields_of (shown k)) f no_struct_field (omega (arith, lt, ap length (struct_fields_are k), fields_count ds x k 0 (fields_of (shown k))))
      ∙ ap (λ (j : ℕ). struct_field ds x k j (field_at (fields_of (shown k)) f)) e

  pub types_fit : (shapes : List Shape) → TypesFit (layout_shaped ds shapes) ds x (type_words ds x) (top_decls ds x)
  types_fit shapes = record {
    differ = names_differ ds (has_names ds none short);
    shown = record {
      all = declared_count ds;
      each = λ k lt d. subst (λ (s : Shown). ShownDecl ds (get_or (declared_in sort.Instance ds) k d) s (member_at ds k).size) (sym (shown_is ds k)) (member_is_shown ds k lt d);
    };
    stacks = λ k lt d. subst (StackShown (get_or (declared_in sort.Instance ds) k d)) (sym (shown_is ds k)) (member_is ds k lt d).stack;
    widths = widths_so;
    headers_struct = of_root ds x (headers_decl ds) (inl refl);
    metadata_struct = of_root ds x (metadata_decl ds) (inr (inl refl));
    header = λ k lt is.
        subst (λ (s : Shown). Has (top_decls ds x) (decl.Header (record { name = (member_at ds k).type; fields = map bit_field_of (fields_of s) }))) (sym (shown_is ds k)) (header_written ds x (member_at ds k) (of_header k lt is));
    struct = λ k lt is.
        subst (λ (fs : List StructField). Has (top_decls ds x) (struct_of (member_at ds k).type fs))
        (ap (λ (s : Shown). struct_fields_from ds x (member_at ds k).number 0 (fields_of s)) (sym (shown_is ds k)) ∙ ap (λ (n : ℕ). struct_fields_from ds x n 0 (fields_of (shown k))) (member_number ds k lt) ∙ marked_are ds x k 0 (fields_of (shown k)))
        (struct_written ds x (member_at ds k) (member_among ds k lt) (ap is_metadata (sym (shown_is ds k)) ∙ is));
    header_member = λ k lt is.
        subst (λ (s : Shown). Has (header_fields ds) (member (instance_type s (member_at ds k).type (member_at ds k).size) (name_of s))) (sym (shown_is ds k))
        (header_there (member_at ds k) (members ds) (member_among ds k lt) (ap is_metadata (sym (shown_is ds k)) ∙ is));
    metadata_member = λ k lt is.
        subst (λ (s : Shown). Has (metadata_fields ds) (member (named_type (member_at ds k).type) (name_of s))) (sym (shown_is ds k))
        (metadata_there (member_at ds k) (members ds) (member_among ds k lt) (ap is_metadata (sym (shown_is ds k)) ∙ is));
    headers_once = picked_once header_member header_named (members ds) (members_once ds (has_names ds none short));
    metadata_once = picked_once metadata_member metadata_named (members ds) (members_once ds (has_names ds none short));
    header_members = refl;
    metadata_members = refl;
    standard_members = refl;
    first = lists_first ds none x expanded;
    marked = λ list number e k f lt is within.
        ap (is_in_list number) (field_is k f within) ∙ is_marked ds x k f (field_at (fields_of (shown k)) f) list number e ∙ same_items ds k f (items_in_list x list);
    unmarked = λ number e k f lt is within.
        ap (is_in_list number) (field_is k f within) ∙ is_unmarked ds x k f (field_at (fields_of (shown k)) f) number e;
  }
