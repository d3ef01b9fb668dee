-- The values that a pass begins with, from the types that were written.
use Rattle.std.proofs.Common.{◌≡◌, ℕ, zero, suc, ◌+◌, ◌<◌, ◌≤◌, Bool, true, false, cond, Some, List, [], ◌∷◌, length, map, inl, inr, refl, sym, ap, ap₂, ◌∙◌, subst, arith, length-append}
use Rattle.std.specs.Prelude.{flat_map, replicate, codes, get_or}
use Rattle.std.specs.Str.{bytes_eq}
use Rattle.std.proofs.lemmas.List.Concat.{flat_map-cons}
use Rattle.p414_syntax.specs.declared.syntax.Decl.{Decl}
use Rattle.p414_sem.specs.declared.standard.Standard.{Standard}
use Rattle.p414_sem.specs.declared.standard.Standard.TheVariants.{IngressPort, EgressSpec, EgressPort, PacketLength, InstanceType}
use Rattle.p414_sem.specs.State.{no_header, blank, blank_instance}
use Rattle.p414_sem.specs.Expanded.{Expanded}
use Rattle.p416_syntax.specs.declared.parts.StructField.{StructField}
use Rattle.p416_syntax.specs.declared.program.Decl16.{Decl16}
use Rattle.p416_syntax.specs.Names.{Name}
use Rattle.p416_syntax.specs.Kinds.{Kind, bits, struct}
use Rattle.p416_syntax.specs.Scopes.{Known, type_sort, FieldKind, Layout, fields_in}
use Rattle.p416_syntax.specs.BuiltIn.{standard, standard_name, standard_layout}
use Rattle.p416_syntax.specs.Declarations.{layout_in, struct_field}
use Rattle.p416_syntax.specs.Expressions.{field_kind_in}
use Rattle.p416_syntax.specs.Main.{block_of, block_kind, headers_kind, metadata_kind, parameter_shape, kind_at}
use Rattle.p416_syntax.specs.declared.parts.Param.{Param}
use Rattle.v1_core.specs.Values.{Value, Field, Header, a_number, a_header, a_stack, a_member, member_in, zero_field, zero_header, members_from, zero_within, zero_value}
use Rattle.v1_core.specs.Frames.{of_headers, of_metadata}
use Rattle.agreement_of_meanings.specs.Shown.{NamedField, Shown, as_header, as_stack, as_metadata, is_metadata, name_of, fields_of, shown_fields, shown_header, shown_members, shown_value, standard_word, standard_width}
use Rattle.lower_laws_base.specs.Context.{StateLayout, shown_on, instance_kind, HasMembers}
use Rattle.lower_laws_base.specs.Types.{ZerosAlike}
use Rattle.lower_laws_base.proofs.Blank.{SizeFits}
use Rattle.lower_laws_passes.specs.Types.{member_of}
use Rattle.lower_laws_program.specs.Program.{root_struct, Parts, decls_of, syntax_of, parser_parameters, DeclaresOnce}
use Rattle.lower_laws_program.specs.TypesFit.{TypeWords, struct_of, field_called, TypesFit}
use Rattle.lower_laws_program.proofs.Tops.{block_has, has_behind}
use Rattle.lower_laws_program.proofs.Layouts.{as_kind, names, layouts, decls_once, type_sorts, type_has, headers_layout, metadata_layout, standard_layout_is, fields_layout, header_there, metadata_there}
use Rattle.lower_laws_states.specs.Expansions.{Has}

-- members

members_value : (v : Kind → Value) (fields : List FieldKind) (word : Name) (k : Kind) → field_kind_in fields word ≡ Some k → member_in (members_from v fields) word ≡ v k
members_value v [] word k is = absurd (cc is)
members_value v (f ∷ fields) word k is = by (bytes_eq f.called word) is (members_value v fields word k) where
  by : (b : Bool) → cond b (Some f.kind) (field_kind_in fields word) ≡ Some k → (field_kind_in fields word ≡ Some k → member_in (members_from v fields) word ≡ v k) → cond b (v f.kind) (member_in (members_from v fields) word) ≡ v k
  by true same more = let is : f.kind ≡ k = cc same in ap v is
  by false other more = more other

members_stand : (v : Kind → Value) (known : List Known) (fields : List StructField) → HasMembers (map member_of fields) (members_from v (map (struct_field known) fields))
members_stand v known [] = tt
members_stand v known (f ∷ fields) = (refl, members_stand v known fields)

zero_fields : (fields : List NamedField) → map zero_field (map as_kind fields) ≡ shown_fields fields (replicate (length fields) 0)
zero_fields [] = refl
zero_fields (f ∷ fields) = ap (λ (l : List Field). let x : Field = record { called = f.called; width = f.width; number = 0 } in x ∷ l) (zero_fields fields)

zero_members : (v : Kind → Value) → ((w : ℕ) → v (bits w) ≡ a_number w 0) → (fields : List NamedField) → members_from v (map as_kind fields) ≡ shown_members fields (replicate (length fields) 0)
zero_members v zeros [] = refl
zero_members v zeros (f ∷ fields) = ap₂ (a_member f.called) (zeros f.width) (zero_members v zeros fields)

same_all : {A B : Type 0} (h : A → B) (n : ℕ) (a : A) → map h (replicate n a) ≡ replicate n (h a)
same_all h zero a = refl
same_all h (suc n) a = ap (λ l. h a ∷ l) (same_all h n a)

-- at least two types
more_layouts : (known : List Known) (ds : List Decl16) (name : Name) (fields : List StructField) → Has ds (struct_of name fields) → 1 ≤ length (flat_map (layout_in known) ds)
more_layouts known [] name fields has = absurd has
more_layouts known (d ∷ ds) name fields (inl same) =
    let e : length (flat_map (layout_in known) (d ∷ ds)) ≡ length (layout_in known (struct_of name fields)) + length (flat_map (layout_in known) ds) = ap length (flat_map-cons (layout_in known) d ds) ∙ length-append (layout_in known d) (flat_map (layout_in known) ds) ∙ ap (λ (y : Decl16). length (layout_in known y) + length (flat_map (layout_in known) ds)) same in
    omega (arith, e)
more_layouts known (d ∷ ds) name fields (inr more) =
    omega (arith, more_layouts known ds name fields more, ap length (flat_map-cons (layout_in known) d ds), length-append (layout_in known d) (flat_map (layout_in known) ds))

two_of : (n : ℕ) → 2 ≤ n → (m : ℕ) × (n ≡ suc (suc m))
two_of zero le = absurd (omega (arith, le))
two_of (suc zero) le = absurd (omega (arith, le))
two_of (suc (suc m)) le = (m, refl)

module _ (g : StateLayout) (ds : List Decl) (x : Expanded) (t : TypeWords) (p : Parts) (fits : TypesFit g ds x t p.types) (once : DeclaresOnce p) (parameters : p.parser.parameters ≡ parser_parameters) where
  abbrev known : List Known
  known = names g ds x t p fits once

  abbrev ls : List Layout
  ls = layouts g ds x t p fits once

  pub deep : (m : ℕ) × (length ls ≡ suc (suc m))
  deep = two_of (length ls) (omega (arith, length-append (flat_map (layout_in known) (decls_of p)) (standard_layout ∷ []), more_layouts known (decls_of p) (root_struct of_headers) t.headers (type_has g ds x t p fits once _ fits.headers_struct)))

  abbrev within : Kind → Value
  within k = zero_within ls (suc (deep.0)) k

  struct_zero : (type : Name) → zero_value ls (struct type) ≡ members_from within (fields_in ls type)
  struct_zero type = ap (λ n. zero_within ls n (struct type)) deep.1

  -- the kinds of headers and metadata

  kind_of_main : (n : ℕ) → block_kind n (block_of known (decls_of p) p.parser.name) ≡ kind_at n (map (parameter_shape known) parser_parameters)
  kind_of_main n =
      ap (block_kind n) (block_has known (decls_of p) p.parser (decls_once g ds x t p fits once) (has_behind p.types _ _ (inl refl)))
      ∙ ap (λ (l : List Param). kind_at n (map (parameter_shape known) l)) parameters

  pub headers_kind_is : headers_kind (syntax_of p) ≡ struct (root_struct of_headers)
  headers_kind_is = kind_of_main 1 ∙ ap type_sort (type_sorts g ds x t p fits once _ fits.headers_struct)

  pub metadata_kind_is : metadata_kind (syntax_of p) ≡ struct (root_struct of_metadata)
  metadata_kind_is = kind_of_main 2 ∙ ap type_sort (type_sorts g ds x t p fits once _ fits.metadata_struct)

  headers_zero : zero_value ls (headers_kind (syntax_of p)) ≡ members_from within (map (struct_field known) t.headers)
  headers_zero = ap (zero_value ls) headers_kind_is ∙ struct_zero (root_struct of_headers) ∙ ap (members_from within) (headers_layout g ds x t p fits once)

  metadata_zero : zero_value ls (metadata_kind (syntax_of p)) ≡ members_from within (map (struct_field known) t.metadata)
  metadata_zero = ap (zero_value ls) metadata_kind_is ∙ struct_zero (root_struct of_metadata) ∙ ap (members_from within) (metadata_layout g ds x t p fits once)

  standard_zero : zero_value ls standard ≡ members_from within standard_layout.fields
  standard_zero = struct_zero standard_name ∙ ap (members_from within) (standard_layout_is g ds x t p fits once)

  header_is : (k : ℕ) → k < length g.names.instances → zero_header ls (t.type_of k) ≡ shown_header (fields_of (shown_on g k)) (blank false (length (fields_of (shown_on g k))))
  header_is k lt =
      ap (λ (l : List FieldKind). let h : Header = record { valid = false; fields = map zero_field l } in h) (fields_layout g ds x t p fits once k lt)
      ∙ ap (λ (l : List Field). let h : Header = record { valid = false; fields = l } in h) (zero_fields (fields_of (shown_on g k)))

  -- what a header or a stack begins as
  value_is : (y : Shown) (type : Name) (size : ℕ) → is_metadata y ≡ false → SizeFits y size → zero_header ls type ≡ shown_header (fields_of y) (blank false (length (fields_of y))) → within (instance_kind y type size) ≡ shown_value y (blank_instance false size (length (fields_of y)))
  value_is (as_header called fields) type size plain one same =
      ap a_header same ∙ ap (λ n. a_header (shown_header fields (get_or (replicate n (blank false (length fields))) 0 no_header))) (sym one)
  value_is (as_stack called fields) type size plain one same =
      ap (λ (h : Header). a_stack 0 (replicate size h)) same ∙ ap (a_stack 0) (sym (same_all (shown_header fields) size (blank false (length fields))))
  value_is (as_metadata called fields) type size plain one same = absurd (cc plain)

  pub zeros_alike : ((k : ℕ) → k < length g.names.instances → SizeFits (shown_on g k) (g.size_of k)) → ZerosAlike g (syntax_of p)
  zeros_alike sized = record {
    headers = λ k lt is.
        ap (λ v. member_in v (name_of (shown_on g k))) (ap (zero_value ls) headers_kind_is ∙ struct_zero (root_struct of_headers))
        ∙ members_value within (fields_in ls (root_struct of_headers)) (name_of (shown_on g k)) (instance_kind (shown_on g k) (t.type_of k) (g.size_of k)) (header_there g ds x t p fits once k lt is)
        ∙ value_is (shown_on g k) (t.type_of k) (g.size_of k) is (sized k lt) (header_is k lt);
    metadata = λ k lt is.
        ap (λ v. member_in v (name_of (shown_on g k))) (ap (zero_value ls) metadata_kind_is ∙ struct_zero (root_struct of_metadata))
        ∙ members_value within (fields_in ls (root_struct of_metadata)) (name_of (shown_on g k)) (struct (t.type_of k)) (metadata_there g ds x t p fits once k lt is)
        ∙ ap (members_from (zero_within ls deep.0)) (fields_layout g ds x t p fits once k lt)
        ∙ zero_members (zero_within ls deep.0) (bits_zero deep.0) (fields_of (shown_on g k));
    numbers = λ which. ap (λ v. member_in v (standard_word which)) standard_zero ∙ number which;
    parser_error = ap (λ v. member_in v (codes "parser_error")) standard_zero;
    checksum_error = ap (λ v. member_in v (codes "checksum_error")) standard_zero;
    header_members = subst (λ (xs : List Name). HasMembers xs (zero_value ls (headers_kind (syntax_of p)))) (sym fits.header_members)
        (subst (HasMembers (map member_of t.headers)) (sym headers_zero) (members_stand within known t.headers));
    metadata_members = subst (λ (xs : List Name). HasMembers xs (zero_value ls (metadata_kind (syntax_of p)))) (sym fits.metadata_members)
        (subst (HasMembers (map member_of t.metadata)) (sym metadata_zero) (members_stand within known t.metadata));
    standard_members = subst (λ (xs : List Name). HasMembers xs (zero_value ls standard)) (sym fits.standard_members)
        (subst (HasMembers (map field_called standard_layout.fields)) (sym standard_zero) (refl, (refl, (refl, (refl, (refl, (refl, (refl, tt))))))));
  } where
    bits_zero : (n w : ℕ) → zero_within ls n (bits w) ≡ a_number w 0
    bits_zero zero w = refl
    bits_zero (suc n) w = refl

    number : (which : Standard) → member_in (members_from within standard_layout.fields) (standard_word which) ≡ a_number (standard_width which) 0
    number IngressPort = refl
    number EgressSpec = refl
    number EgressPort = refl
    number PacketLength = refl
    number InstanceType = refl
