-- The declarations of types say what they were written for.
use Rattle.std.proofs.Common.{◌≡◌, ℕ, zero, suc, ◌+◌, Bool, true, false, ◌||◌, Option, Some, None, List, [], ◌∷◌, ◌++◌, map, filter_map, get_or, refl, sym, ap, ◌∙◌, subst, inl, inr, arith}
use Rattle.std.specs.List.{list_any, filter, cons_option}
use Rattle.std.specs.Prelude.{slice_get, option_and_then, codes}
use Rattle.std.specs.Option.{option_map_or}
use Rattle.std.specs.Str.{bytes_eq}
use Rattle.std.proofs.lemmas.List.{length-map}
use Rattle.std.proofs.lemmas.List.Quantifiers.{position-Some}
use Rattle.std.proofs.lemmas.Slice.Eq.{bytes_eq-Decides}
use Rattle.p414_syntax.specs.declared.headers.Field.{Field}
use Rattle.p414_syntax.specs.declared.syntax.Decl.{Decl}
use Rattle.p414_syntax.specs.declared.syntax.Decl.TheVariants as decl
use Rattle.p414_syntax.specs.declared.syntax.Sort.TheVariants as sort
use Rattle.p414_syntax.specs.Views.{HeaderTypeTree}
use Rattle.p414_syntax.specs.declared.lexeme.Literal.{Literal}
use Rattle.p414_syntax.specs.Names.{names_in, number_of, field_name}
use Rattle.p414_syntax.specs.Totals.{elements_of}
use Rattle.p414_syntax.specs.Fields.{types, type_of}
use Rattle.p414_sem.specs.Expanded.{Expanded}
use Rattle.p416_syntax.specs.declared.parts.StructField.{StructField}
use Rattle.p416_syntax.specs.declared.program.Decl16.{Decl16}
use Rattle.p416_syntax.specs.declared.program.Decl16.TheVariants as decl16
use Rattle.p416_syntax.specs.declared.program.Syntax16.{Syntax16}
use Rattle.p416_syntax.specs.Names.{Name, has_name, repeats}
use Rattle.p416_syntax.specs.Kinds.{Kind, bits, header, struct}
use Rattle.p416_syntax.specs.Scopes.{Known, sort_in, FieldKind, fields_in, kind_of_type, type_sort, stack_kind}
use Rattle.p416_syntax.specs.BuiltIn.{built_in, standard_name, standard_layout}
use Rattle.p416_syntax.specs.Declarations.{top_names, layouts_of, bit_field as bit_kind, struct_field as struct_kind, member_name}
use Rattle.p416_syntax.specs.Expressions.{field_kind_in}
use Rattle.agreement_of_meanings.specs.Shown.{NamedField, Shown, as_header, as_stack, as_metadata, name_of, fields_of}
use Rattle.lower_laws_names.specs.Made.{called}
use Rattle.lower_laws_names.specs.NewNames.{new_name, thing, numbered_from, field_thing}
use Rattle.lower_laws_names.proofs.Lists.{fields_once}
use Rattle.lower_laws_names.proofs.OneSort.{sort_names_once, fields_tested}
use Rattle.lower_laws_names.specs.Instances.{named_from, type_fields, named_fields, shown_header, shown_in, HasNames}
use Rattle.lower_laws_names.specs.Types.{plain, bit_field, header_decl, has_type, is_used, header_decls, Member, members_from, members, struct_fields_from, struct_decl, struct_decls, member_field, header_member, metadata_member, headers_decl, metadata_decl, type_decls}
use Rattle.lower_laws_names.specs.Objects.{object_decl, object_decls, top_decls}
use Rattle.lower_laws_names.specs.Declared.{Among, TypeIsKnown, BeginsSo, root_of, instance_kind, TypesAreDeclared}
use Rattle.lower_laws_names.proofs.Instances.{shown_names}
use Rattle.lower_laws_names.proofs.Types.{among_left, among_right, among_map, among_filter, among_some, or_parts, found_sort, found_fields, found_member, called_in, found_bits, NoneCalled, none_called, sort_behind, fields_behind}

-- a header type by its name

abbrev pub tree_name : HeaderTypeTree → Name
tree_name t = t.name

pub type_names : (ds : List Decl) → names_in sort.HeaderType ds ≡ map tree_name (types ds)
type_names [] = refl
type_names (decl.HeaderType t ∷ ds) = ap (λ (ns : List Name). t.name ∷ ns) (type_names ds)
type_names (d ∷ ds) = type_names ds

at_place : (ts : List HeaderTypeTree) (i : ℕ) (t : HeaderTypeTree) → slice_get ts i ≡ Some t → (get_or (map tree_name ts) i [] ≡ t.name) × Among t ts
at_place [] i t e = cc
at_place (u ∷ ts) zero t e = let same : u ≡ t = cc in (ap tree_name same, inl same)
at_place (u ∷ ts) (suc i) t e = let rest = at_place ts i t e in (rest.0, inr rest.1)

pub type_named : (ds : List Decl) (type : Name) (t : HeaderTypeTree) → type_of ds type ≡ Some t → (t.name ≡ type) × Among t (types ds)
type_named ds type t e = by (number_of sort.HeaderType ds type) refl e
  where
    by : (o : Option ℕ) → number_of sort.HeaderType ds type ≡ o → option_and_then (slice_get (types ds)) o ≡ Some t → (t.name ≡ type) × Among t (types ds)
    by None f g = cc
    by (Some i) f g =
        let there = at_place (types ds) i t g in
        let is = (bytes_eq-Decides type (get_or (names_in sort.HeaderType ds) i [])).0 (position-Some (bytes_eq type) (names_in sort.HeaderType ds) i [] f).1 in
        (sym there.0 ∙ (ap (λ (ns : List Name). get_or ns i []) (sym (type_names ds)) ∙ sym is), there.1)

-- fields

pub called_all : (number : ℕ) (fields : List Field) → map called_in (named_from number fields) ≡ map called (numbered_from field_thing number (map field_name fields))
called_all number [] = refl
called_all number (f ∷ fields) = ap (λ (ns : List Name). called (field_thing number f.name) ∷ ns) (called_all (number + 1) fields)

struct_kinds : (ds : List Decl) (x : Expanded) (names : List Known) (k i : ℕ) (fields : List NamedField)
    → map (struct_kind names) (struct_fields_from ds x k i fields) ≡ map bit_kind (map bit_field fields)
struct_kinds ds x names k i [] = refl
struct_kinds ds x names k i (f ∷ fields) = ap (λ (fs : List FieldKind). record { called = f.called; kind = bits f.width } ∷ fs) (struct_kinds ds x names k (i + 1) fields)

-- a header among the instances

pub record OfHeader (ds : List Decl) (m : Member) : Type 0 where
  pub type : Name
  pub tree : HeaderTypeTree
  pub found : type_of ds type ≡ Some tree
  pub used : list_any (has_type type) ds ≡ true
  pub is : m.type ≡ new_name ds sort.HeaderType type
  pub fields : fields_of m.shown ≡ type_fields tree

-- metadata among them
pub record OfMetadata (ds : List Decl) (m : Member) : Type 0 where
  pub type : Name
  pub tree : HeaderTypeTree
  pub found : type_of ds type ≡ Some tree
  pub fields : fields_of m.shown ≡ type_fields tree

abbrev pub Origin : List Decl → Member → Shown → Type 0
Origin ds m (as_header name fields) = OfHeader ds m
Origin ds m (as_stack name fields) = OfHeader ds m
Origin ds m (as_metadata name fields) = OfMetadata ds m

module _ (ds : List Decl) where
  some_has : (es : List Decl) (d : Decl) (type : Name) → has_type type d ≡ true → Among d es → list_any (has_type type) es ≡ true
  some_has [] d type e h = absurd h
  some_has (c ∷ es) d type e (inl same) = rw (ap (has_type type) same ∙ e) refl
  some_has (c ∷ es) d type e (inr h) = rw (some_has es d type e h) (or_true (has_type type c))
    where
      or_true : (b : Bool) → (b || true) ≡ true
      or_true true = refl
      or_true false = refl

  fields_known : (type : Name) (t : HeaderTypeTree) → type_of ds type ≡ Some t → named_fields ds type ≡ type_fields t
  fields_known type t e = ap (λ (o : Option HeaderTypeTree). option_map_or type_fields o []) e

  header_origin : (type name : Name) (size : Option Literal) (k : ℕ) (t : HeaderTypeTree) → type_of ds type ≡ Some t → list_any (has_type type) ds ≡ true
      → Origin ds (record { number = k; shown = shown_header ds type name size; type = new_name ds sort.HeaderType type; size = elements_of size }) (shown_header ds type name size)
  header_origin type name None k t e used =
      record { type = type; tree = t; found = e; used = used; is = refl; fields = fields_known type t e }
  header_origin type name (Some n) k t e used =
      record { type = type; tree = t; found = e; used = used; is = refl; fields = fields_known type t e }

  abbrev pub AllKnown : List Decl → Type 0
  AllKnown es = (d : Decl) → Among d es → Among d ds × TypeIsKnown ds d

  carried : (m n : Member) → m ≡ n → Origin ds m m.shown → Origin ds n n.shown
  carried m n e o = subst (λ (p : Member). Origin ds p p.shown) e o

  pub origin : (k i : ℕ) (es : List Decl) → AllKnown es → (m : Member) → Among m (members_from ds k i es) → Origin ds m m.shown
  origin k i [] known m h = absurd h
  origin k i (decl.Header x ∷ es) known m (inl same) =
      let here = known (decl.Header x) (inl refl) in
      carried _ m same (header_origin x.header_type x.name x.size k here.1.0 here.1.1 (some_has ds (decl.Header x) x.header_type ((bytes_eq-Decides x.header_type x.header_type).1 refl) here.0))
  origin k i (decl.Header x ∷ es) known m (inr h) = origin (k + 1) i es (λ d g. known d (inr g)) m h
  origin k i (decl.Metadata x ∷ es) known m (inl same) =
      let here = known (decl.Metadata x) (inl refl) in
      carried _ m same (record { type = x.header_type; tree = here.1.0; found = here.1.1; fields = fields_known x.header_type here.1.0 here.1.1 })
  origin k i (decl.Metadata x ∷ es) known m (inr h) = origin (k + 1) (i + 1) es (λ d g. known d (inr g)) m h
  origin k i (d ∷ es) known m h = origin k i es (λ c g. known c (inr g)) m h

  -- the names of instances

  abbrev pub shown_name_of : Member → Name
  shown_name_of m = name_of m.shown

  names_shown : (k i : ℕ) (es : List Decl) → map shown_name_of (members_from ds k i es) ≡ map name_of (filter_map (shown_in ds) es)
  names_shown k i [] = refl
  names_shown k i (decl.Header x ∷ es) = ap (λ (ns : List Name). name_of (shown_header ds x.header_type x.name x.size) ∷ ns) (names_shown (k + 1) i es)
  names_shown k i (decl.Metadata x ∷ es) = ap (λ (ns : List Name). new_name ds sort.Instance x.name ∷ ns) (names_shown (k + 1) (i + 1) es)
  names_shown k i (d ∷ es) = names_shown k i es

  both_maps : (ns : List Name) → map called (map (thing ds sort.Instance) ns) ≡ map (new_name ds sort.Instance) ns
  both_maps [] = refl
  both_maps (n ∷ ns) = ap (λ (l : List Name). new_name ds sort.Instance n ∷ l) (both_maps ns)

  pub members_once : HasNames ds → repeats (map shown_name_of (members ds)) ≡ false
  members_once h =
      ap repeats (names_shown 0 0 ds ∙ (shown_names ds h ds ∙ sym (both_maps (names_in sort.Instance ds)))) ∙ sort_names_once ds sort.Instance h.few h.once

-- of members some are fields of a struct, under their names
module _ (pick : Member → Option StructField) (same : (m : Member) (f : StructField) → pick m ≡ Some f → f.name ≡ name_of m.shown) where
  none_picked : (ms : List Member) (n : Name) → has_name (map (λ (m : Member). name_of m.shown) ms) n ≡ false → has_name (map member_name (filter_map pick ms)) n ≡ false
  none_picked [] n e = refl
  none_picked (m ∷ ms) n e =
      let both = or_parts (bytes_eq n (name_of m.shown)) (has_name (map (λ (o : Member). name_of o.shown) ms) n) e in
      by (pick m) refl both.0 (none_picked ms n both.1)
    where
      by : (o : Option StructField) → pick m ≡ o → bytes_eq n (name_of m.shown) ≡ false → has_name (map member_name (filter_map pick ms)) n ≡ false → has_name (map member_name (cons_option o (filter_map pick ms))) n ≡ false
      by None f apart rest = rest
      by (Some g) f apart rest = rw (ap (bytes_eq n) (same m g f) ∙ apart, rest) refl

  pub picked_once : (ms : List Member) → repeats (map (λ (m : Member). name_of m.shown) ms) ≡ false → repeats (map member_name (filter_map pick ms)) ≡ false
  picked_once [] e = refl
  picked_once (m ∷ ms) e =
      let both = or_parts (has_name (map (λ (o : Member). name_of o.shown) ms) (name_of m.shown)) (repeats (map (λ (o : Member). name_of o.shown) ms)) e in
      by (pick m) refl (none_picked ms (name_of m.shown) both.0) (picked_once ms both.1)
    where
      by : (o : Option StructField) → pick m ≡ o → has_name (map member_name (filter_map pick ms)) (name_of m.shown) ≡ false → repeats (map member_name (filter_map pick ms)) ≡ false → repeats (map member_name (cons_option o (filter_map pick ms))) ≡ false
      by None f none rest = rest
      by (Some g) f none rest = rw (ap (has_name (map member_name (filter_map pick ms))) (same m g f) ∙ none, rest) refl

pub header_named : (m : Member) (f : StructField) → header_member m ≡ Some f → f.name ≡ name_of m.shown
header_named m f e = by m.shown e
  where
    by : (s : Shown) → header_member (record m { shown = s }) ≡ Some f → f.name ≡ name_of s
    by (as_header n fs) g = let same : member_field n m.type None ≡ f = cc in ap member_name (sym same)
    by (as_stack n fs) g = let same : member_field n m.type (Some (plain m.size)) ≡ f = cc in ap member_name (sym same)
    by (as_metadata n fs) g = cc

pub metadata_named : (m : Member) (f : StructField) → metadata_member m ≡ Some f → f.name ≡ name_of m.shown
metadata_named m f e = by m.shown e
  where
    by : (s : Shown) → metadata_member (record m { shown = s }) ≡ Some f → f.name ≡ name_of s
    by (as_header n fs) g = cc
    by (as_stack n fs) g = cc
    by (as_metadata n fs) g = let same : member_field n m.type None ≡ f = cc in ap member_name (sym same)

-- a text that begins so

module _ (ds : List Decl) (x : Expanded) (syntax : Syntax16) (s : BeginsSo ds x syntax) where
  abbrev pub names : List Known
  names = top_names syntax.decls

  in_text : (d : Decl16) → Among d (type_decls ds x) → Among d syntax.decls
  in_text d h =
      subst (λ (l : List Decl16). Among d l) (sym s.decls) (among_left d (top_decls ds x) s.blocks (among_left d (type_decls ds x) (object_decls ds) h))

  of_headers : (d : Decl16) → Among d (header_decls ds) → Among d syntax.decls
  of_headers d h = in_text d (among_left d (header_decls ds) (struct_decls ds x ++ headers_decl ds ∷ metadata_decl ds ∷ []) h)

  of_structs : (d : Decl16) → Among d (struct_decls ds x) → Among d syntax.decls
  of_structs d h =
      in_text d (among_right d (header_decls ds) (struct_decls ds x ++ headers_decl ds ∷ metadata_decl ds ∷ []) (among_left d (struct_decls ds x) (headers_decl ds ∷ metadata_decl ds ∷ []) h))

  pub of_roots : (d : Decl16) → Among d (headers_decl ds ∷ metadata_decl ds ∷ []) → Among d syntax.decls
  of_roots d h =
      in_text d (among_right d (header_decls ds) (struct_decls ds x ++ headers_decl ds ∷ metadata_decl ds ∷ []) (among_right d (struct_decls ds x) (headers_decl ds ∷ metadata_decl ds ∷ []) h))

  -- header types

  header_in : (m : Member) (o : OfHeader ds m) → Among (header_decl ds o.tree) syntax.decls
  header_in m o =
      let there = type_named ds o.type o.tree o.found in
      let used : is_used ds o.tree ≡ true = ap (λ (n : Name). list_any (has_type n) ds) there.0 ∙ o.used in
      of_headers (header_decl ds o.tree) (among_map (header_decl ds) o.tree (filter (is_used ds) (types ds)) (among_filter (is_used ds) o.tree (types ds) used there.1))

  header_called : (m : Member) (o : OfHeader ds m) → new_name ds sort.HeaderType o.tree.name ≡ m.type
  header_called m o = ap (new_name ds sort.HeaderType) (type_named ds o.type o.tree o.found).0 ∙ sym o.is

  header_sort : (m : Member) → OfHeader ds m → type_sort (sort_in names m.type) ≡ header m.type
  header_sort m o =
      subst (λ (n : Name). type_sort (sort_in names n) ≡ header n) (header_called m o) (ap type_sort (found_sort syntax.decls built_in (header_decl ds o.tree) s.once (header_in m o)))

  header_fields : (m : Member) (o : OfHeader ds m) → fields_in (layouts_of syntax.decls) m.type ≡ map bit_kind (map bit_field (type_fields o.tree))
  header_fields m o =
      ap (fields_in (layouts_of syntax.decls)) (sym (header_called m o))
      ∙ found_fields names syntax.decls (standard_layout ∷ []) (header_decl ds o.tree) (record { called = new_name ds sort.HeaderType o.tree.name; fields = map bit_kind (map bit_field (type_fields o.tree)) }) s.once (header_in m o) refl refl

  tree_once : (type : Name) (t : HeaderTypeTree) → type_of ds type ≡ Some t → repeats (map called_in (type_fields t)) ≡ false
  tree_once type t e =
      ap repeats (called_all 0 t.fields) ∙ fields_once (map field_name t.fields) (fields_tested ds s.names.once type t e) (omega (arith, length-map t.fields field_name, s.names.few_fields type t e))

  tree_bits : (type : Name) (t : HeaderTypeTree) → type_of ds type ≡ Some t → (f : NamedField) → Among f (type_fields t) → field_kind_in (map bit_kind (map bit_field (type_fields t))) f.called ≡ Some (bits f.width)
  tree_bits type t e f h = found_bits (type_fields t) f (tree_once type t e) h

  -- structs of metadata

  abbrev pub struct_written : Member → List NamedField → Decl16
  struct_written m fields = decl16.Struct (record { name = m.type; fields = struct_fields_from ds x m.number 0 fields })

  pub struct_in : (m : Member) (n : Name) (fields : List NamedField) → Among m (members ds) → m.shown ≡ as_metadata n fields → Among (struct_written m fields) syntax.decls
  struct_in m n fields h e =
      of_structs (struct_written m fields) (among_some (struct_decl ds x) m (struct_written m fields) (members ds) (ap (λ (c : Shown). struct_decl ds x (record m { shown = c })) e) h)

  struct_sort : (m : Member) (n : Name) (fields : List NamedField) → Among m (members ds) → m.shown ≡ as_metadata n fields → type_sort (sort_in names m.type) ≡ struct m.type
  struct_sort m n fields h e =
      ap type_sort (found_sort syntax.decls built_in (struct_written m fields) s.once (struct_in m n fields h e))

  struct_fields : (m : Member) (n : Name) (fields : List NamedField) → Among m (members ds) → m.shown ≡ as_metadata n fields → fields_in (layouts_of syntax.decls) m.type ≡ map bit_kind (map bit_field fields)
  struct_fields m n fields h e =
      found_fields names syntax.decls (standard_layout ∷ []) (struct_written m fields) (record { called = m.type; fields = map (struct_kind names) (struct_fields_from ds x m.number 0 fields) }) s.once (struct_in m n fields h e) refl refl
      ∙ struct_kinds ds x names m.number 0 fields

  -- the two roots

  headers_fields : fields_in (layouts_of syntax.decls) (codes "hs") ≡ map (struct_kind names) (filter_map header_member (members ds))
  headers_fields =
      found_fields names syntax.decls (standard_layout ∷ []) (headers_decl ds) (record { called = codes "hs"; fields = map (struct_kind names) (filter_map header_member (members ds)) }) s.once (of_roots (headers_decl ds) (inl refl)) refl refl

  metadata_fields : fields_in (layouts_of syntax.decls) (codes "ms") ≡ map (struct_kind names) (filter_map metadata_member (members ds))
  metadata_fields =
      found_fields names syntax.decls (standard_layout ∷ []) (metadata_decl ds) (record { called = codes "ms"; fields = map (struct_kind names) (filter_map metadata_member (members ds)) }) s.once (of_roots (metadata_decl ds) (inr (inl refl))) refl refl

  header_kind : (m : Member) (f : StructField) → Among m (members ds) → header_member m ≡ Some f → field_kind_in (fields_in (layouts_of syntax.decls) (codes "hs")) f.name ≡ Some (kind_of_type names f.of)
  header_kind m f h e =
      ap (λ (fs : List FieldKind). field_kind_in fs f.name) headers_fields
      ∙ found_member names (filter_map header_member (members ds)) f (picked_once header_member header_named (members ds) (members_once ds s.names)) (among_some header_member m f (members ds) e h)

  metadata_kind : (m : Member) (f : StructField) → Among m (members ds) → metadata_member m ≡ Some f → field_kind_in (fields_in (layouts_of syntax.decls) (codes "ms")) f.name ≡ Some (kind_of_type names f.of)
  metadata_kind m f h e =
      ap (λ (fs : List FieldKind). field_kind_in fs f.name) metadata_fields
      ∙ found_member names (filter_map metadata_member (members ds)) f (picked_once metadata_member metadata_named (members ds) (members_once ds s.names)) (among_some metadata_member m f (members ds) e h)

  all_known : AllKnown ds ds
  all_known d h = (h, s.types d h)

  of_member : (m : Member) → Among m (members ds) → Origin ds m m.shown
  of_member m h = origin ds 0 0 ds all_known m h

  instance_by : (m : Member) (h : Among m (members ds)) (c : Shown) → m.shown ≡ c → Origin ds m c → field_kind_in (fields_in (layouts_of syntax.decls) (root_of c)) (name_of c) ≡ Some (instance_kind c m.type m.size)
  instance_by m h (as_header n fs) e o =
      header_kind m (member_field n m.type None) h (ap (λ (c : Shown). header_member (record m { shown = c })) e) ∙ ap (λ (k : Kind). Some k) (header_sort m o)
  instance_by m h (as_stack n fs) e o =
      header_kind m (member_field n m.type (Some (plain m.size))) h (ap (λ (c : Shown). header_member (record m { shown = c })) e) ∙ ap (λ (k : Kind). Some (stack_kind m.size k)) (header_sort m o)
  instance_by m h (as_metadata n fs) e o =
      metadata_kind m (member_field n m.type None) h (ap (λ (c : Shown). metadata_member (record m { shown = c })) e) ∙ ap (λ (k : Kind). Some k) (struct_sort m n fs h e)

  of_tree : (m : Member) (type : Name) (t : HeaderTypeTree) (c : Shown) → type_of ds type ≡ Some t → fields_of c ≡ type_fields t → fields_in (layouts_of syntax.decls) m.type ≡ map bit_kind (map bit_field (type_fields t))
      → (f : NamedField) → Among f (fields_of c) → field_kind_in (fields_in (layouts_of syntax.decls) m.type) f.called ≡ Some (bits f.width)
  of_tree m type t c found same layout f g =
      ap (λ (fs : List FieldKind). field_kind_in fs f.called) layout ∙ tree_bits type t found f (subst (λ (l : List NamedField). Among f l) same g)

  field_by : (m : Member) (h : Among m (members ds)) (c : Shown) → m.shown ≡ c → Origin ds m c → (f : NamedField) → Among f (fields_of c) → field_kind_in (fields_in (layouts_of syntax.decls) m.type) f.called ≡ Some (bits f.width)
  field_by m h (as_header n fs) e o f g = of_tree m o.type o.tree m.shown o.found o.fields (header_fields m o) f (subst (λ (c : Shown). Among f (fields_of c)) (sym e) g)
  field_by m h (as_stack n fs) e o f g = of_tree m o.type o.tree m.shown o.found o.fields (header_fields m o) f (subst (λ (c : Shown). Among f (fields_of c)) (sym e) g)
  field_by m h (as_metadata n fs) e o f g =
      let same : fs ≡ type_fields o.tree = ap fields_of (sym e) ∙ o.fields in
      of_tree m o.type o.tree (as_metadata n fs) o.found same (struct_fields m n fs h e ∙ ap (λ (l : List NamedField). map bit_kind (map bit_field l)) same) f g

  no_standard : NoneCalled standard_name syntax.decls
  no_standard = none_called syntax.decls built_in standard_name s.top (inr (inr (inl refl)))

  pub types_are_declared : TypesAreDeclared ds syntax
  types_are_declared = record {
    headers = ap type_sort (found_sort syntax.decls built_in (headers_decl ds) s.once (of_roots (headers_decl ds) (inl refl)));
    metadata = ap type_sort (found_sort syntax.decls built_in (metadata_decl ds) s.once (of_roots (metadata_decl ds) (inr (inl refl))));
    standard = ap type_sort (sort_behind syntax.decls built_in standard_name no_standard);
    standard_fields = fields_behind names syntax.decls (standard_layout ∷ []) standard_name no_standard;
    object = λ d e h is.
        found_sort syntax.decls built_in e s.once (subst (λ (l : List Decl16). Among e l) (sym s.decls) (among_left e (top_decls ds x) s.blocks (among_right e (type_decls ds x) (object_decls ds) (among_some (object_decl ds) d e ds is h))));
    instance = λ m h. instance_by m h m.shown refl (of_member m h);
    field = λ m h f g. field_by m h m.shown refl (of_member m h) f g;
  }
