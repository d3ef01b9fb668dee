-- The types that are written are those that the laws of passes and parsers ask for.
use Rattle.std.proofs.Common.{◌≡◌, ℕ, ◌+◌, ◌<◌, true, false, ◌||◌, Some, List, [], ◌∷◌, ◌++◌, map, refl, sym, ap, ◌∙◌, subst, arith}
use Rattle.std.specs.Prelude.{filter, filter_map}
use Rattle.std.specs.List.{list_any}
use Rattle.p414_syntax.specs.declared.syntax.Decl.{Decl}
use Rattle.p414_syntax.specs.declared.syntax.Sort.TheVariants as sort
use Rattle.p414_syntax.specs.Names.{Name}
use Rattle.p414_syntax.specs.Fields.{types}
use Rattle.p414_sem.specs.Expanded.{Expanded}
use Rattle.p416_syntax.specs.declared.parts.StructField.{StructField}
use Rattle.p416_syntax.specs.declared.program.Decl16.{Decl16}
use Rattle.p416_syntax.specs.declared.program.Decl16.TheVariants as decl
use Rattle.agreement_of_meanings.specs.Shown.{NamedField, Shown, as_header, as_stack, as_metadata, is_metadata, name_of, fields_of}
use Rattle.lower_laws_names.specs.NewNames.{new_name}
use Rattle.lower_laws_names.specs.Instances.{type_fields}
use Rattle.lower_laws_names.specs.Types.{has_type, is_used, header_decl, header_decls, Member, members, struct_field, struct_fields_from, struct_decl, struct_decls, header_member, metadata_member, headers_decl, metadata_decl, type_decls}
use Rattle.lower_laws_names.specs.Objects.{object_decls, top_decls}
use Rattle.lower_laws_names.specs.Declared.{Among}
use Rattle.lower_laws_names.proofs.Declared.{type_named, OfHeader}
use Rattle.lower_laws_names.proofs.Types.{among_left, among_right, among_map, among_filter, among_some}
use Rattle.lower_laws_states.specs.Expansions.{Has}
use Rattle.lower_laws_program.specs.Program.{named_type}
use Rattle.lower_laws_program.specs.TypesFit.{bit_field_of, marked_from, instance_type, member, struct_of}
use Rattle.lower_laws_declared.specs.Layout.{notes_at}

-- the other word for what stands in a list
-- what is written at the top

module _ (ds : List Decl) (x : Expanded) where
  abbrev roots : List Decl16
  roots = headers_decl ds ∷ metadata_decl ds ∷ []

  of_type : (d : Decl16) → Among d (type_decls ds x) → Has (top_decls ds x) d
  of_type d h = (among_left d (type_decls ds x) (object_decls ds) h)

  of_struct : (d : Decl16) → Among d (struct_decls ds x) → Has (top_decls ds x) d
  of_struct d h = of_type d (among_right d (header_decls ds) (struct_decls ds x ++ roots) (among_left d (struct_decls ds x) roots h))

  pub of_root : (d : Decl16) → Among d roots → Has (top_decls ds x) d
  of_root d h = of_type d (among_right d (header_decls ds) (struct_decls ds x ++ roots) (among_right d (struct_decls ds x) roots h))

  -- a header type is written where a header has it
  pub header_written : (m : Member) (o : OfHeader ds m) → Has (top_decls ds x) (decl.Header (record { name = m.type; fields = map bit_field_of (fields_of m.shown) }))
  header_written m o =
      let there = type_named ds o.type o.tree o.found in
      let used : is_used ds o.tree ≡ true = ap (λ (n : Name). list_any (has_type n) ds) there.0 ∙ o.used in
      let written : Has (top_decls ds x) (header_decl ds o.tree) = of_type (header_decl ds o.tree) (among_left (header_decl ds o.tree) (header_decls ds) (struct_decls ds x ++ roots) (among_map (header_decl ds) o.tree (filter (is_used ds) (types ds)) (among_filter (is_used ds) o.tree (types ds) used there.1))) in
      let named : new_name ds sort.HeaderType o.tree.name ≡ m.type = ap (new_name ds sort.HeaderType) there.0 ∙ sym o.is in
      subst (λ (fs : List NamedField). Has (top_decls ds x) (decl.Header (record { name = m.type; fields = map bit_field_of fs }))) (sym o.fields)
      (subst (λ (n : Name). Has (top_decls ds x) (decl.Header (record { name = n; fields = map bit_field_of (type_fields o.tree) }))) named written)

  -- the fields of a struct
  pub marked_are : (k f : ℕ) (fields : List NamedField) → struct_fields_from ds x k f fields ≡ marked_from (notes_at ds x k) f fields
  marked_are k f [] = refl
  marked_are k f (field ∷ fields) = ap (λ (fs : List StructField). struct_field ds x k f field ∷ fs) (marked_are k (f + 1) fields ∙ ap (λ (j : ℕ). marked_from (notes_at ds x k) j fields) (omega arith))

  pub struct_written : (m : Member) → Among m (members ds) → is_metadata m.shown ≡ true → Has (top_decls ds x) (struct_of m.type (struct_fields_from ds x m.number 0 (fields_of m.shown)))
  struct_written m h is = of_struct _ (among_some (struct_decl ds x) m _ (members ds) (by m.shown refl is) h) where
    by : (s : Shown) → m.shown ≡ s → is_metadata s ≡ true → struct_decl ds x m ≡ Some (struct_of m.type (struct_fields_from ds x m.number 0 (fields_of m.shown)))
    by (as_metadata n fs) e is =
        ap (λ (s : Shown). struct_decl ds x (record m { shown = s })) e ∙ ap (λ (s : Shown). Some (struct_of m.type (struct_fields_from ds x m.number 0 (fields_of s)))) (sym e)
    by (as_header n fs) e is = absurd (cc is)
    by (as_stack n fs) e is = absurd (cc is)

-- what the two structs hold

pub header_there : (m : Member) (ms : List Member) → Among m ms → is_metadata m.shown ≡ false → Among (member (instance_type m.shown m.type m.size) (name_of m.shown)) (filter_map header_member ms)
header_there m ms h is = among_some header_member m _ ms (by m.shown refl is) h where
  by : (s : Shown) → m.shown ≡ s → is_metadata s ≡ false → header_member m ≡ Some (member (instance_type m.shown m.type m.size) (name_of m.shown))
  by (as_header n fs) e is =
      ap (λ (s : Shown). header_member (record m { shown = s })) e ∙ ap (λ (s : Shown). Some (member (instance_type s m.type m.size) (name_of s))) (sym e)
  by (as_stack n fs) e is =
      ap (λ (s : Shown). header_member (record m { shown = s })) e ∙ ap (λ (s : Shown). Some (member (instance_type s m.type m.size) (name_of s))) (sym e)
  by (as_metadata n fs) e is = absurd (cc is)

pub metadata_there : (m : Member) (ms : List Member) → Among m ms → is_metadata m.shown ≡ true → Among (member (named_type m.type) (name_of m.shown)) (filter_map metadata_member ms)
metadata_there m ms h is = among_some metadata_member m _ ms (by m.shown refl is) h where
  by : (s : Shown) → m.shown ≡ s → is_metadata s ≡ true → metadata_member m ≡ Some (member (named_type m.type) (name_of m.shown))
  by (as_metadata n fs) e is =
      ap (λ (s : Shown). metadata_member (record m { shown = s })) e ∙ ap (λ (s : Shown). Some (member (named_type m.type) (name_of s))) (sym e)
  by (as_header n fs) e is = absurd (cc is)
  by (as_stack n fs) e is = absurd (cc is)
