-- What the structs of metadata say, and how the members stand to the declarations.
use Rattle.std.proofs.Common.{◌≡◌, ℕ, suc, ◌+◌, Bool, false, cond, Option, Some, None, List, [], ◌∷◌, length, map, filter_map, refl, sym, ap, ◌∙◌, inl, inr, arith}
use Rattle.std.specs.Prelude.{codes}
use Rattle.std.specs.Option.{option_map_or}
use Rattle.std.specs.Str.{bytes_eq}
use Rattle.p414_syntax.specs.declared.lexeme.Literal.{Literal}
use Rattle.p414_syntax.specs.declared.headers.Field.{Field}
use Rattle.p414_syntax.specs.declared.headers.Header.{Header as Header14}
use Rattle.p414_syntax.specs.declared.syntax.Decl.{Decl}
use Rattle.p414_syntax.specs.declared.syntax.Decl.TheVariants as decl
use Rattle.p414_syntax.specs.declared.syntax.Sort.TheVariants as sort
use Rattle.p414_syntax.specs.Views.{HeaderTypeTree}
use Rattle.p414_syntax.specs.Names.{is_in}
use Rattle.std.specs.List.{filter}
use Rattle.p414_syntax.specs.Fields.{type_of}
use Rattle.p414_syntax.specs.Totals.{elements_of, field_count, fields_of_type}
use Rattle.p414_sem.specs.Expanded.{Expanded}
use Rattle.p416_syntax.specs.declared.parts.StructField.{StructField}
use Rattle.p416_syntax.specs.declared.parts.Struct16.{Struct16}
use Rattle.p416_syntax.specs.declared.program.Decl16.{Decl16}
use Rattle.p416_syntax.specs.declared.program.Decl16.TheVariants as decl16
use Rattle.p416_syntax.specs.declared.program.Syntax16.{Syntax16}
use Rattle.p416_syntax.specs.Names.{Name, has_name, repeats}
use Rattle.p416_syntax.specs.Declarations.{member_name}
use Rattle.v1_core.specs.Passes.{struct_called, is_in_list}
use Rattle.agreement_of_meanings.specs.Shown.{NamedField, Shown, as_metadata, field_at}
use Rattle.lower_laws_names.specs.NewNames.{new_name}
use Rattle.lower_laws_names.specs.Instances.{named_from, type_fields, named_fields, shown_header, shown_in}
use Rattle.lower_laws_names.specs.Types.{Member, members_from, members, struct_field, struct_fields_from, member_field, metadata_member, metadata_decl}
use Rattle.lower_laws_names.specs.Declared.{Among, decl_name, BeginsSo, field_named, MarksAreDeclared, IsShownAs, AreShownAs, MembersAreShown}
use Rattle.lower_laws_names.proofs.Marks.{none_is_zero, field_at_place, fields_count, is_marked, is_unmarked}
use Rattle.lower_laws_names.proofs.Types.{among_map, among_some, or_parts, other, itself}
use Rattle.lower_laws_names.proofs.Declared.{members_once, picked_once, metadata_named, of_roots, struct_in}

-- a struct by its name

skipped : (e : Decl16) (ds : List Decl16) (n : Name) → bytes_eq (decl_name e) n ≡ false → struct_called (e ∷ ds) n ≡ struct_called ds n
skipped (decl16.Header h) ds n apart = refl
skipped (decl16.Struct x) ds n apart = rw apart refl
skipped (decl16.Instance notes i) ds n apart = refl
skipped (decl16.Parser p) ds n apart = refl
skipped (decl16.Control c) ds n apart = refl

found_struct : (ds : List Decl16) (x : Struct16) → repeats (map decl_name ds) ≡ false → Among (decl16.Struct x) ds → struct_called ds x.name ≡ x.fields
found_struct [] x once h = absurd h
found_struct (e ∷ ds) x once (inl same) =
    ap (λ (d : Decl16). struct_called (d ∷ ds) x.name) same ∙ (rw (itself x.name) refl)
found_struct (e ∷ ds) x once (inr h) =
    let both = or_parts (has_name (map decl_name ds) (decl_name e)) (repeats (map decl_name ds)) once in
    skipped e ds x.name (other (map decl_name ds) (decl_name e) x.name both.0 (among_map decl_name (decl16.Struct x) ds h)) ∙ found_struct ds x both.1 h

found_field : (fields : List StructField) (f : StructField) → repeats (map member_name fields) ≡ false → Among f fields → field_named fields f.name ≡ Some f
found_field [] f once h = absurd h
found_field (g ∷ fields) f once (inl same) =
    ap (λ (b : Bool). cond b (Some g) (field_named fields f.name)) (ap (λ (n : Name). bytes_eq g.name n) (ap member_name (sym same)) ∙ itself g.name) ∙ ap (λ (y : StructField). Some y) same
found_field (g ∷ fields) f once (inr h) =
    let both = or_parts (has_name (map member_name fields) g.name) (repeats (map member_name fields)) once in
    rw (other (map member_name fields) g.name f.name both.0 (among_map member_name f fields h)) (found_field fields f both.1 h)

module _ (ds : List Decl) (x : Expanded) (syntax : Syntax16) (s : BeginsSo ds x syntax) where
  roots_fields : struct_called syntax.decls (codes "ms") ≡ filter_map metadata_member (members ds)
  roots_fields =
      found_struct syntax.decls (record { name = codes "ms"; fields = filter_map metadata_member (members ds) }) s.once (of_roots ds x syntax s (metadata_decl ds) (inr (inl refl)))

  struct_field_is : (m : Member) (n : Name) (fields : List NamedField) → Among m (members ds) → m.shown ≡ as_metadata n fields → field_named (struct_called syntax.decls (codes "ms")) n ≡ Some (member_field n m.type None)
  struct_field_is m n fields h e =
      ap (λ (fs : List StructField). field_named fs n) roots_fields
      ∙ found_field (filter_map metadata_member (members ds)) (member_field n m.type None) (picked_once metadata_member metadata_named (members ds) (members_once ds s.names)) (among_some metadata_member m (member_field n m.type None) (members ds) (ap (λ (c : Shown). metadata_member (record m { shown = c })) e) h)

  pub marks_are_declared : MarksAreDeclared ds x syntax
  marks_are_declared = record {
    struct = struct_field_is;
    fields = λ m n fields h e. found_struct syntax.decls (record { name = m.type; fields = struct_fields_from ds x m.number 0 fields }) s.once (struct_in ds x syntax s m n fields h e);
    zero = none_is_zero ds;
    count = λ k fields. fields_count ds x k 0 fields;
    marked = λ list number e k f fields d lt.
        ap (is_in_list number) (field_at_place ds x k 0 fields f d lt ∙ ap (λ (i : ℕ). struct_field ds x k i (field_at fields f)) (omega arith)) ∙ is_marked ds x k f (field_at fields f) list number e;
    unmarked = λ number none k f fields d lt.
        ap (is_in_list number) (field_at_place ds x k 0 fields f d lt ∙ ap (λ (i : ℕ). struct_field ds x k i (field_at fields f)) (omega arith)) ∙ is_unmarked ds x k f (field_at fields f) number none;
  }

-- members by their places

module _ (ds : List Decl) where
  count_from : (number : ℕ) (fields : List Field) → length fields ≡ length (named_from number fields)
  count_from number [] = refl
  count_from number (f ∷ fields) = ap suc (count_from (number + 1) fields)

  pub counted : (type : Name) → fields_of_type ds type ≡ length (named_fields ds type)
  counted type = by (type_of ds type)
    where
      by : (o : Option HeaderTypeTree) → option_map_or field_count o 0 ≡ length (option_map_or type_fields o [])
      by None = refl
      by (Some t) = count_from 0 t.fields

  header_shown : (type name : Name) (size : Option Literal) (d : Header14) → d.header_type ≡ type → d.size ≡ size → IsShownAs ds (decl.Header d) (shown_header ds type name size) (elements_of size)
  header_shown type name None d e f = (refl, ap elements_of f, ap (fields_of_type ds) e ∙ counted type)
  header_shown type name (Some n) d e f = (ap elements_of f, ap (fields_of_type ds) e ∙ counted type)

  all_shown : (k i : ℕ) (es : List Decl) → AreShownAs ds k (filter (is_in sort.Instance) es) (members_from ds k i es)
  all_shown k i [] = tt
  all_shown k i (decl.Header d ∷ es) = (refl, header_shown d.header_type d.name d.size d refl refl, all_shown (k + 1) i es)
  all_shown k i (decl.Metadata d ∷ es) = (refl, (refl, counted d.header_type), all_shown (k + 1) (i + 1) es)
  all_shown k i (d ∷ es) = all_shown k i es

  same_shown : (k i : ℕ) (es : List Decl) → map (λ (m : Member). m.shown) (members_from ds k i es) ≡ filter_map (shown_in ds) es
  same_shown k i [] = refl
  same_shown k i (decl.Header d ∷ es) = ap (λ (l : List Shown). shown_header ds d.header_type d.name d.size ∷ l) (same_shown (k + 1) i es)
  same_shown k i (decl.Metadata d ∷ es) = ap (λ (l : List Shown). as_metadata (new_name ds sort.Instance d.name) (named_fields ds d.header_type) ∷ l) (same_shown (k + 1) (i + 1) es)
  same_shown k i (d ∷ es) = same_shown k i es

  pub members_are_shown : MembersAreShown ds
  members_are_shown = record { each = all_shown 0 0 ds; instances = same_shown 0 0 ds }
