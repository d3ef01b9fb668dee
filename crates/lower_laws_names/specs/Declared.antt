-- What the declarations of types say in a text that begins with them: under which names and with which kinds instances
-- and fields stand (this project's own; P4_14 1.0.5, "Header Type Declarations", "Header and Metadata Instances"; P4_16
-- 1.2, "Name resolution", "Header types", "Header stacks", "Derived types"; `v1model.p4`, `standard_metadata_t`,
-- `field_list`).
use Rattle.std.specs.Prelude.{◌≡◌, ◌⊎◌, ℕ, ◌+◌, ◌<◌, false, if◌then◌else◌, List, [], ◌∷◌, ◌++◌, length, map, codes, slice_index_or, Option, Some, None}
use Rattle.std.specs.List.{list_any}
use Rattle.std.specs.Str.{bytes_eq}
use Rattle.p414_syntax.specs.declared.syntax.Decl.{Decl}
use Rattle.p414_syntax.specs.declared.syntax.Decl.TheVariants as decl
use Rattle.p414_syntax.specs.declared.syntax.Sort.TheVariants as sort
use Rattle.p414_syntax.specs.Views.{HeaderTypeTree}
use Rattle.p414_syntax.specs.Names.{declared_in}
use Rattle.p414_syntax.specs.Totals.{elements_of, fields_of_type}
use Rattle.p414_syntax.specs.Fields.{type_of}
use Rattle.p414_sem.specs.Expanded.{Expanded, items_in_list}
use Rattle.p416_syntax.specs.declared.parts.StructField.{StructField}
use Rattle.p416_syntax.specs.declared.program.Decl16.{Decl16}
use Rattle.p416_syntax.specs.declared.program.Syntax16.{Syntax16}
use Rattle.p416_syntax.specs.Names.{Name, repeats}
use Rattle.p416_syntax.specs.Kinds.{Kind, bits, header, stack, struct}
use Rattle.p416_syntax.specs.Scopes.{called_of, sort_in, type_sort, fields_in}
use Rattle.p416_syntax.specs.BuiltIn.{standard_name, standard_layout}
use Rattle.p416_syntax.specs.Unknown.{declares_twice}
use Rattle.p416_syntax.specs.Declarations.{top_name, top_names, layouts_of}
use Rattle.p416_syntax.specs.Expressions.{field_kind_in}
use Rattle.v1_core.specs.Passes.{struct_called, is_in_list}
use Rattle.agreement_of_meanings.specs.Agrees.{mark_of, MarksNone}
use Rattle.agreement_of_meanings.specs.Shown.{NamedField, Shown, as_header, as_stack, as_metadata, name_of, fields_of}
use Rattle.lower_laws_names.specs.Instances.{shown_instances, HasNames}
use Rattle.lower_laws_names.specs.Marks.{marks, is_item}
use Rattle.lower_laws_names.specs.Types.{Member, members, member_field, struct_fields_from}
use Rattle.lower_laws_names.specs.Objects.{object_decl, top_decls}
use Rattle.lower_laws_states.specs.Expansions.{Has}

-- an element stands in a list
abbrev pub Among : {A : Type 0} → A → List A → Type 0
Among a bs = Has bs a

-- the name of a declaration at the top
abbrev pub decl_name : Decl16 → Name
decl_name d = called_of (top_name d)

-- the type of each instance is declared
abbrev pub TypeIsKnown : List Decl → Decl → Type 0
TypeIsKnown ds (decl.Header x) = (t : HeaderTypeTree) × (type_of ds x.header_type ≡ Some t)
TypeIsKnown ds (decl.Metadata x) = (t : HeaderTypeTree) × (type_of ds x.header_type ≡ Some t)
TypeIsKnown ds _ = Unit {0}

-- A text that begins as it is written here, and whose names at the top differ, of a program whose names are in order.
pub record BeginsSo (ds : List Decl) (x : Expanded) (syntax : Syntax16) : Type 0 where
  pub blocks : List Decl16
  pub decls : syntax.decls ≡ top_decls ds x ++ blocks
  pub once : repeats (map decl_name syntax.decls) ≡ false
  pub top : declares_twice syntax.decls ≡ false
  pub names : HasNames ds
  pub types : (d : Decl) → Among d ds → TypeIsKnown ds d

-- the struct in which an instance stands
abbrev pub root_of : Shown → Name
root_of (as_header name fields) = codes "hs"
root_of (as_stack name fields) = codes "hs"
root_of (as_metadata name fields) = codes "ms"

-- the kind of the member that an instance is: a header, a stack or a struct
abbrev pub instance_kind : Shown → Name → ℕ → Kind
instance_kind (as_header name fields) type size = header type
instance_kind (as_stack name fields) type size = stack type size
instance_kind (as_metadata name fields) type size = struct type

-- What the names stand for: both structs and standard metadata are structs, objects are objects, and each instance and
-- each of its fields is a member with its kind.
pub record TypesAreDeclared (ds : List Decl) (syntax : Syntax16) : Type 0 where
  pub headers : type_sort (sort_in (top_names syntax.decls) (codes "hs")) ≡ struct (codes "hs")
  pub metadata : type_sort (sort_in (top_names syntax.decls) (codes "ms")) ≡ struct (codes "ms")
  pub standard : type_sort (sort_in (top_names syntax.decls) standard_name) ≡ struct standard_name
  pub standard_fields : fields_in (layouts_of syntax.decls) standard_name ≡ standard_layout.fields
  pub object : (d : Decl) (e : Decl16) → Among d ds → object_decl ds d ≡ Some e → sort_in (top_names syntax.decls) (decl_name e) ≡ (top_name e).sort
  pub instance : (m : Member) → Among m (members ds) → field_kind_in (fields_in (layouts_of syntax.decls) (root_of m.shown)) (name_of m.shown) ≡ Some (instance_kind m.shown m.type m.size)
  pub field : (m : Member) → Among m (members ds) → (f : NamedField) → Among f (fields_of m.shown) → field_kind_in (fields_in (layouts_of syntax.decls) m.type) f.called ≡ Some (bits f.width)

-- the field of a struct with this name
abbrev pub field_named : List StructField → Name → Option StructField
field_named [] word = None
field_named (f ∷ fields) word = if bytes_eq f.name word then Some f else field_named fields word

-- What the structs of metadata say: which fields stand in that of an instance, and with which marks.
pub record MarksAreDeclared (ds : List Decl) (x : Expanded) (syntax : Syntax16) : Type 0 where
  pub struct : (m : Member) (n : Name) (fields : List NamedField) → Among m (members ds) → m.shown ≡ as_metadata n fields → field_named (struct_called syntax.decls (codes "ms")) n ≡ Some (member_field n m.type None)
  pub fields : (m : Member) (n : Name) (fields : List NamedField) → Among m (members ds) → m.shown ≡ as_metadata n fields → struct_called syntax.decls m.type ≡ struct_fields_from ds x m.number 0 fields
  pub zero : MarksNone (marks ds) 0
  pub count : (k : ℕ) (fields : List NamedField) → length (struct_fields_from ds x k 0 fields) ≡ length fields
  pub marked : (list number : ℕ) → mark_of (marks ds) list ≡ Some number → (k f : ℕ) (fields : List NamedField) (d : StructField) → f < length fields → is_in_list number (slice_index_or (struct_fields_from ds x k 0 fields) f d) ≡ list_any (is_item ds k f) (items_in_list x list)
  pub unmarked : (number : ℕ) → MarksNone (marks ds) number → (k f : ℕ) (fields : List NamedField) (d : StructField) → f < length fields → is_in_list number (slice_index_or (struct_fields_from ds x k 0 fields) f d) ≡ false

-- a declared header, stack or metadata instance is shown as what it is, with as many elements and fields
abbrev pub IsShownAs : List Decl → Decl → Shown → ℕ → Type 0
IsShownAs ds (decl.Header d) (as_header name fields) size = (size ≡ 1) × (elements_of d.size ≡ 1) × (fields_of_type ds d.header_type ≡ length fields)
IsShownAs ds (decl.Header d) (as_stack name fields) size = (elements_of d.size ≡ size) × (fields_of_type ds d.header_type ≡ length fields)
IsShownAs ds (decl.Metadata d) (as_metadata name fields) size = (size ≡ 1) × (fields_of_type ds d.header_type ≡ length fields)
IsShownAs ds _ _ size = ⊥

-- so is each, place by place, under its number
abbrev pub AreShownAs : List Decl → ℕ → List Decl → List Member → Type 0
AreShownAs ds k [] [] = Unit {0}
AreShownAs ds k (d ∷ es) (m ∷ ms) = (m.number ≡ k) × IsShownAs ds d m.shown m.size × AreShownAs ds (k + 1) es ms
AreShownAs ds k _ _ = ⊥

-- The members of both structs are the declared instances, place by place, as they are shown.
pub record MembersAreShown (ds : List Decl) : Type 0 where
  pub each : AreShownAs ds 0 (declared_in sort.Instance ds) (members ds)
  pub instances : map (λ (m : Member). m.shown) (members ds) ≡ shown_instances ds
