-- Each initial value is one of a field that is there, of its width (C1, C2).
use Rattle.std.proofs.Common.{◌≡◌, inl, inr, ℕ, ◌<◌, Bool, true, false, ◌&&◌, cond, Option, Some, None, List, [], ◌∷◌, refl, sym, ap, ◌∙◌, subst}
use Rattle.std.specs.Prelude.{is_none, option_and_then, unwrap_or, slice_index}
use Rattle.std.specs.List.{list_any}
use Rattle.std.specs.Option.{option_map_or}
use Rattle.p414_syntax.specs.declared.headers.Initial.{Initial}
use Rattle.p414_syntax.specs.declared.headers.Metadata.{Metadata}
use Rattle.p414_syntax.specs.declared.parts.Ref.{Ref}
use Rattle.p414_syntax.specs.declared.syntax.Decl.{Decl}
use Rattle.p414_syntax.specs.declared.syntax.Decl.TheVariants as decl14
use Rattle.p414_syntax.specs.declared.syntax.Sort.TheVariants as sort
use Rattle.p414_syntax.specs.Attributes.{initials_of}
use Rattle.p414_syntax.specs.Views.{HeaderTypeTree}
use Rattle.p414_syntax.specs.Names.{declared_in, is_in}
use Rattle.p414_syntax.specs.Primitives.{is_standard, standard_width}
use Rattle.p414_syntax.specs.Fields.{instance_of, instance_type, type_of, type_name_in, width_in as width_in_type, size_in, is_instance}
use Rattle.p414_syntax.specs.Stacks.{is_bad_instance, is_bad_index}
use Rattle.p414_syntax.specs.Unknown.{is_unknown}
use Rattle.p414_syntax.specs.Uses.{of_type_field, use_of_initial, uses_of, uses}
use Rattle.p414_sem.specs.Slots.{Slot, standard, standard_field, slot_of, declared_slot, field_number, bits_of_ref}
use Rattle.p414_sem.specs.Parsing.{field_named as field_of_instance}
use Rattle.p414_sem.specs.Expanded.{Expanded}
use Rattle.p416_syntax.specs.declared.parsers.Parser16.{Parser16}
use Rattle.p416_syntax.specs.declared.program.Decl16.{Decl16}
use Rattle.v1_core.specs.Surroundings.{Setting}
use Rattle.lower_laws_base.specs.Context.{StateLayout, Lowering, words_of, IsSlot}
use Rattle.lower_laws_base.specs.Mirror.{width_in}
use Rattle.lower_laws_states.specs.Expansions.{Has}
use Rattle.lower_laws_states.specs.Fits.{slot_bits}
use Rattle.lower_laws_states.specs.Standing.{SlotStands}
use Rattle.lower_laws_states.specs.Laws.{BreaksNo}
use Rattle.lower_laws_states.proofs.Members.{has_joined, has_mapped, none_passes, neither}
use Rattle.lower_laws_states.proofs.Rules.{none_twice, none_unknown}
use Rattle.lower_laws_states.proofs.Declared.{named_not_standard, kept_has}
use Rattle.lower_laws_states.proofs.Named.{widths_named, field_named}
use Rattle.lower_laws_states.proofs.Standing.{found, placed_stands}
use Rattle.lower_laws_parser.specs.Starts.{InitialFits, InitialsFit, DeclFits, DeclsFit}
use Rattle.lower_laws_program.specs.TypesFit.{TypeWords, TypesFit}
use Rattle.lower_laws_program.specs.Fits.{parser_lowering}
use Rattle.lower_laws_program.proofs.Standing.{slot_is, bits_are}
use Rattle.lower_laws_declared.proofs.Found.{declaration_found}

module _ (ds : List Decl) (none : BreaksNo ds) (m : Metadata) (h : Has ds (decl14.Metadata m)) (i : Initial) (listed : Has (initials_of m.initials) i) where
  abbrev ref : Ref
  ref = field_of_instance m.name i.field

  not_standard : is_standard m.name ≡ false
  not_standard = named_not_standard ds (none_twice ds none) (decl14.Metadata m) m.name h refl

  instance_is : instance_of ds m.name ≡ Some (decl14.Metadata m)
  instance_is = declaration_found ds none sort.Instance (decl14.Metadata m) m.name h refl

  typed : instance_type ds m.name ≡ type_of ds m.header_type
  typed = ap (λ (o : Option Decl). option_and_then (type_of ds) (option_and_then type_name_in o)) instance_is

  -- C2: the field is one of the type
  there : is_none (option_and_then (λ (t : HeaderTypeTree). width_in_type t i.field) (instance_type ds m.name)) ≡ false
  there =
      ap (λ (o : Option HeaderTypeTree). is_none (option_and_then (λ (t : HeaderTypeTree). width_in_type t i.field) o)) typed
      ∙ none_passes (is_unknown ds) (uses ds) (of_type_field m.header_type i.field) (neither (list_any (is_unknown ds) (uses ds)) _ (none_unknown ds none)).0
      (has_joined uses_of ds (decl14.Metadata m) (of_type_field m.header_type i.field) h (inr (has_mapped (use_of_initial m.header_type) (initials_of m.initials) i listed)))

  no_index : is_bad_instance ds ref.instance ≡ false
  no_index = by (is_instance ds m.name) (ap (λ (o : Option Decl). is_bad_index (option_and_then size_in o) None) instance_is) where
    by : (b : Bool) {c : Bool} → c ≡ false → b && c ≡ false
    by true e = e
    by false e = refl

  stands : SlotStands ds (declared_slot ds ref)
  stands = placed_stands ds none ref (found ds m.name i.field there) no_index

  slot_here : slot_of ds ref ≡ declared_slot ds ref
  slot_here = ap (λ (b : Bool). cond b (option_map_or standard (standard_field i.field) (declared_slot ds ref)) (declared_slot ds ref)) not_standard

  bits_here : bits_of_ref ds ref ≡ slot_bits ds (declared_slot ds ref)
  bits_here =
      ap (λ (b : Bool). unwrap_or (cond b (standard_width i.field) (option_and_then (λ (t : HeaderTypeTree). width_in_type t i.field) (instance_type ds m.name))) 0) not_standard
      ∙ sym (ap (λ (l : List ℕ). slice_index l (field_number ds m.name i.field)) (widths_named ds m.name) ∙ field_named ds m.name i.field)

  initial_fits : (g : StateLayout) (x : Expanded) (t : TypeWords) (types : List Decl16) → TypesFit g ds x t types → (c16 : Setting) (q : Parser16) → InitialFits (parser_lowering g t c16 q) ds m.name i
  initial_fits g x t types fits c16 q =
      subst (λ (s : Slot). IsSlot (parser_lowering g t c16 q).layout s × (bits_of_ref ds ref ≡ width_in (words_of (parser_lowering g t c16 q)) s)) (sym slot_here)
      (slot_is g ds fits.shown fits.widths (declared_slot ds ref) stands, bits_here ∙ bits_are g ds fits.shown fits.widths (declared_slot ds ref) stands)

module _ (ds : List Decl) (none : BreaksNo ds) (g : StateLayout) (x : Expanded) (t : TypeWords) (types : List Decl16) (fits : TypesFit g ds x t types) (c16 : Setting) (q : Parser16) where
  abbrev c : Lowering
  c = parser_lowering g t c16 q

  all_initials : (m : Metadata) → Has ds (decl14.Metadata m) → (is : List Initial) → ((i : Initial) → Has is i → Has (initials_of m.initials) i) → InitialsFit c ds m.name is
  all_initials m h [] listed = tt
  all_initials m h (i ∷ is) listed = (initial_fits ds none m h i (listed i (inl refl)) g x t types fits c16 q, all_initials m h is (λ j there. listed j (inr there)))

  decl_fits : (d : Decl) → Has ds d → DeclFits c ds d
  decl_fits (decl14.Metadata m) h = all_initials m h (initials_of m.initials) (λ i there. there)
  decl_fits _ h = tt

  decls_fit : (es : List Decl) → ((d : Decl) → Has es d → Has ds d) → DeclsFit c ds es
  decls_fit [] among = tt
  decls_fit (d ∷ es) among = (decl_fits d (among d (inl refl)), decls_fit es (λ e h. among e (inr h)))

  -- C1, C2
  pub initials_fit : DeclsFit c ds (declared_in sort.Instance ds)
  initials_fit = decls_fit (declared_in sort.Instance ds) (λ d h. kept_has (is_in sort.Instance) ds d h)
