-- What the types that were written tell in a program that is put together.
use Rattle.std.proofs.Common.{◌≡◌, inl, inr, Option, ℕ, zero, suc, ◌<◌, Bool, true, false, cond, Some, List, [], ◌∷◌, length, map, refl, ap, ◌∙◌, subst, arith}
use Rattle.p414_syntax.specs.declared.syntax.Decl.{Decl}
use Rattle.p414_sem.specs.declared.standard.Standard.{Standard}
use Rattle.p414_sem.specs.declared.standard.Standard.TheVariants.{IngressPort, EgressSpec, EgressPort, PacketLength, InstanceType}
use Rattle.p414_sem.specs.Expanded.{Expanded}
use Rattle.p416_syntax.specs.declared.parts.Note.{Note}
use Rattle.p416_syntax.specs.declared.program.Decl16.{Decl16}
use Rattle.p416_syntax.specs.Names.{Name, repeats}
use Rattle.p416_syntax.specs.Kinds.{Kind, bits, struct, header}
use Rattle.p416_syntax.specs.Scopes.{Known, sort_in, type_sort, stack_kind, kind_of_type, FieldKind, Layout, fields_in}
use Rattle.p416_syntax.specs.BuiltIn.{built_in, standard_name, standard_layout, field}
use Rattle.p416_syntax.specs.Declarations.{top_name, top_names, layouts_of, bit_field, struct_field}
use Rattle.p416_syntax.specs.Expressions.{field_kind_in}
use Rattle.v1_core.specs.Frames.{of_headers, of_metadata}
use Rattle.agreement_of_meanings.specs.Shown.{NamedField, Shown, as_header, as_stack, as_metadata, is_metadata, name_of, fields_of, owner_of, field_at, FieldsDiffer, standard_word, standard_width}
use Rattle.agreement_of_meanings.proofs.Names.{same_name, other_name}
use Rattle.lower_laws_base.specs.Context.{StateLayout, shown_on, instance_kind}
use Rattle.lower_laws_program.specs.Program.{named_type, root_struct, Parts, blocks_of, decls_of, DeclaresOnce}
use Rattle.lower_laws_program.specs.TypesFit.{bit_field_of, marked_from, instance_type, member, TypeWords, struct_of, TypesFit}
use Rattle.lower_laws_program.proofs.Tops.{has_more, has_behind, has_mapped, sort_has, kind_has, decl_name, layout_has, layout_none, names_once, none_called}
use Rattle.lower_laws_states.specs.Expansions.{Has}

-- fields

abbrev pub as_kind : NamedField → FieldKind
as_kind f = field (bits f.width) f.called

pub header_kinds : (fields : List NamedField) → map bit_field (map bit_field_of fields) ≡ map as_kind fields
header_kinds [] = refl
header_kinds (f ∷ fields) = ap (λ (l : List FieldKind). as_kind f ∷ l) (header_kinds fields)

pub struct_kinds : (names : List Known) (notes : ℕ → List Note) (k : ℕ) (fields : List NamedField) → map (struct_field names) (marked_from notes k fields) ≡ map as_kind fields
struct_kinds names notes k [] = refl
struct_kinds names notes k (f ∷ fields) = ap (λ (l : List FieldKind). as_kind f ∷ l) (struct_kinds names notes (suc k) fields)

tail_differ : (f : NamedField) (fields : List NamedField) → FieldsDiffer (f ∷ fields) → FieldsDiffer fields
tail_differ f fields differ j k a b apart = differ (suc j) (suc k) (omega (arith, a)) (omega (arith, b)) (λ e. apart (omega (arith, e)))

pub kind_at : (fields : List NamedField) (j : ℕ) → FieldsDiffer fields → j < length fields → field_kind_in (map as_kind fields) (field_at fields j).called ≡ Some (bits (field_at fields j).width)
kind_at [] j differ lt = absurd (omega (arith, lt))
kind_at (f ∷ fields) zero differ lt = ap (λ b. cond b (Some (bits f.width)) (field_kind_in (map as_kind fields) f.called)) (same_name f.called)
kind_at (f ∷ fields) (suc j) differ lt =
    ap (λ b. cond b (Some (bits f.width)) (field_kind_in (map as_kind fields) (field_at fields j).called)) (other_name f.called (field_at fields j).called (differ 0 (suc j) (omega arith) lt (λ e. absurd (omega (arith, e)))))
    ∙ kind_at fields j (tail_differ f fields differ) (omega (arith, lt))

module _ (g : StateLayout) (ds : List Decl) (x : Expanded) (t : TypeWords) (p : Parts) (fits : TypesFit g ds x t p.types) (once : DeclaresOnce p) where
  abbrev pub names : List Known
  names = top_names (decls_of p)

  abbrev pub layouts : List Layout
  layouts = layouts_of (decls_of p)

  pub decls_once : repeats (map decl_name (decls_of p)) ≡ false
  decls_once = names_once (decls_of p) built_in once

  pub type_has : (d : Decl16) → Has p.types d → Has (decls_of p) d
  type_has d has = has_more p.types (blocks_of p) d has

  pub type_sorts : (d : Decl16) → Has p.types d → sort_in names (decl_name d) ≡ (top_name d).sort
  type_sorts d has = sort_has names (top_name d) once (has_more (map top_name (decls_of p)) built_in (top_name d) (has_mapped top_name (decls_of p) d (type_has d has)))

  pub built_sorts : (k : Known) → Has built_in k → sort_in names k.called ≡ k.sort
  built_sorts k has = sort_has names k once (has_behind (map top_name (decls_of p)) built_in k has)

  pub headers_layout : fields_in layouts (root_struct of_headers) ≡ map (struct_field names) t.headers
  headers_layout = layout_has names (decls_of p) (standard_layout ∷ []) (struct_of (root_struct of_headers) t.headers) _ decls_once (type_has _ fits.headers_struct) refl

  pub metadata_layout : fields_in layouts (root_struct of_metadata) ≡ map (struct_field names) t.metadata
  metadata_layout = layout_has names (decls_of p) (standard_layout ∷ []) (struct_of (root_struct of_metadata) t.metadata) _ decls_once (type_has _ fits.metadata_struct) refl

  pub standard_layout_is : fields_in layouts standard_name ≡ standard_layout.fields
  standard_layout_is =
      layout_none names (decls_of p) (standard_layout ∷ []) standard_name (none_called (decls_of p) built_in _ once (inr (inr (inl refl))))
      ∙ ap (λ b. cond b standard_layout.fields []) (same_name standard_name)

  -- the fields of a header or of metadata, by their number
  pub fields_layout : (k : ℕ) → k < length g.names.instances → fields_in layouts (t.type_of k) ≡ map as_kind (fields_of (shown_on g k))
  fields_layout k lt = by (is_metadata (shown_on g k)) refl where
    by : (b : Bool) → is_metadata (shown_on g k) ≡ b → fields_in layouts (t.type_of k) ≡ map as_kind (fields_of (shown_on g k))
    by false is =
        layout_has names (decls_of p) (standard_layout ∷ []) _ _ decls_once (type_has _ (fits.header k lt is)) refl ∙ header_kinds (fields_of (shown_on g k))
    by true is =
        layout_has names (decls_of p) (standard_layout ∷ []) _ _ decls_once (type_has _ (fits.struct k lt is)) refl ∙ struct_kinds names (t.notes k) 0 (fields_of (shown_on g k))

  pub field_there : (k j : ℕ) → k < length g.names.instances → j < length (fields_of (shown_on g k)) → field_kind_in (fields_in layouts (t.type_of k)) (field_at (fields_of (shown_on g k)) j).called ≡ Some (bits (field_at (fields_of (shown_on g k)) j).width)
  field_there k j lt within =
      ap (λ (l : List FieldKind). field_kind_in l (field_at (fields_of (shown_on g k)) j).called) (fields_layout k lt)
      ∙ kind_at (fields_of (shown_on g k)) j (fits.differ.fields k lt) within

  -- an instance in its struct

  struct_sort : (k : ℕ) → k < length g.names.instances → is_metadata (shown_on g k) ≡ true → type_sort (sort_in names (t.type_of k)) ≡ struct (t.type_of k)
  struct_sort k lt is = ap type_sort (type_sorts _ (fits.struct k lt is))

  header_sort : (k : ℕ) → k < length g.names.instances → is_metadata (shown_on g k) ≡ false → type_sort (sort_in names (t.type_of k)) ≡ header (t.type_of k)
  header_sort k lt is = ap type_sort (type_sorts _ (fits.header k lt is))

  member_kind_is : (y : Shown) (type : Name) (size : ℕ) → (is_metadata y ≡ true → type_sort (sort_in names type) ≡ struct type) → (is_metadata y ≡ false → type_sort (sort_in names type) ≡ header type) → kind_of_type names (instance_type y type size) ≡ instance_kind y type size
  member_kind_is (as_header called fields) type size a b = b refl
  member_kind_is (as_stack called fields) type size a b = ap (stack_kind size) (b refl)
  member_kind_is (as_metadata called fields) type size a b = a refl

  pub kind_there : (k : ℕ) → k < length g.names.instances → kind_of_type names (instance_type (shown_on g k) (t.type_of k) (g.size_of k)) ≡ instance_kind (shown_on g k) (t.type_of k) (g.size_of k)
  kind_there k lt = member_kind_is (shown_on g k) (t.type_of k) (g.size_of k) (struct_sort k lt) (header_sort k lt)

  pub header_there : (k : ℕ) → k < length g.names.instances → is_metadata (shown_on g k) ≡ false → field_kind_in (fields_in layouts (root_struct of_headers)) (name_of (shown_on g k)) ≡ Some (instance_kind (shown_on g k) (t.type_of k) (g.size_of k))
  header_there k lt is =
      ap (λ (l : List FieldKind). field_kind_in l (name_of (shown_on g k))) headers_layout
      ∙ kind_has (struct_field names) (λ f. refl) t.headers (member (instance_type (shown_on g k) (t.type_of k) (g.size_of k)) (name_of (shown_on g k))) fits.headers_once (fits.header_member k lt is)
      ∙ ap (λ (z : Kind). let o : Option Kind = Some z in o) (kind_there k lt)

  pub metadata_there : (k : ℕ) → k < length g.names.instances → is_metadata (shown_on g k) ≡ true → field_kind_in (fields_in layouts (root_struct of_metadata)) (name_of (shown_on g k)) ≡ Some (struct (t.type_of k))
  metadata_there k lt is =
      ap (λ (l : List FieldKind). field_kind_in l (name_of (shown_on g k))) metadata_layout
      ∙ kind_has (struct_field names) (λ f. refl) t.metadata (member (named_type (t.type_of k)) (name_of (shown_on g k))) fits.metadata_once (fits.metadata_member k lt is)
      ∙ ap (λ (z : Kind). let o : Option Kind = Some z in o) (struct_sort k lt is)

  pub instance_there : (k : ℕ) → k < length g.names.instances → field_kind_in (fields_in layouts (root_struct (owner_of (shown_on g k)))) (name_of (shown_on g k)) ≡ Some (instance_kind (shown_on g k) (t.type_of k) (g.size_of k))
  instance_there k lt = by (shown_on g k) refl where
    by : (y : Shown) → shown_on g k ≡ y → field_kind_in (fields_in layouts (root_struct (owner_of y))) (name_of y) ≡ Some (instance_kind y (t.type_of k) (g.size_of k))
    by (as_header called fields) e = subst (λ (z : Shown). is_metadata z ≡ false → field_kind_in (fields_in layouts (root_struct of_headers)) (name_of z) ≡ Some (instance_kind z (t.type_of k) (g.size_of k))) e (header_there k lt) refl
    by (as_stack called fields) e = subst (λ (z : Shown). is_metadata z ≡ false → field_kind_in (fields_in layouts (root_struct of_headers)) (name_of z) ≡ Some (instance_kind z (t.type_of k) (g.size_of k))) e (header_there k lt) refl
    by (as_metadata called fields) e = subst (λ (z : Shown). is_metadata z ≡ true → field_kind_in (fields_in layouts (root_struct of_metadata)) (name_of z) ≡ Some (struct (t.type_of k))) e (metadata_there k lt) refl

  pub standard_there : (which : Standard) → field_kind_in (fields_in layouts standard_name) (standard_word which) ≡ Some (bits (standard_width which))
  standard_there which = ap (λ (l : List FieldKind). field_kind_in l (standard_word which)) standard_layout_is ∙ by which where
    by : (which : Standard) → field_kind_in standard_layout.fields (standard_word which) ≡ Some (bits (standard_width which))
    by IngressPort = refl
    by EgressSpec = refl
    by EgressPort = refl
    by PacketLength = refl
    by InstanceType = refl
