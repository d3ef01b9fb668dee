-- What stands in an accepted program stands on the layout of a lowering that shows it: fields, headers and stacks.
use Rattle.std.proofs.Common.{◌≡◌, ℕ, ◌<◌, ◌≤◌, false, Option, Some, None, List, [], length, map, get_or, refl, sym, ap, ◌∙◌, subst, arith}
use Rattle.std.specs.Prelude.{slice_index, is_some, nat_lt}
use Rattle.std.specs.List.{list_any}
use Rattle.std.proofs.lemmas.Bool.{ltb-false}
use Rattle.p414_syntax.specs.declared.lexeme.Literal.{Literal}
use Rattle.p414_syntax.specs.Stacks.{is_bad_size, declares_bad_size, has_bad_stack}
use Rattle.lower_laws_states.proofs.Members.{neither, none_passes}
use Rattle.lower_laws_states.proofs.Declared.{numbered_has}
use Rattle.std.specs.Option.{option_map_or}
use Rattle.std.proofs.lemmas.List.{get_or-map, length-map}
use Rattle.std.proofs.lemmas.Option.{slice_get_within, slice_get-get_or, get_or_from_slice_get}
use Rattle.p414_syntax.specs.declared.syntax.Decl.{Decl}
use Rattle.p414_syntax.specs.declared.syntax.Decl.TheVariants as decl
use Rattle.p414_syntax.specs.declared.syntax.Sort.TheVariants as sort
use Rattle.p414_syntax.specs.Names.{declared_in, numbered}
use Rattle.p414_syntax.specs.Fields.{size_in}
use Rattle.p414_syntax.specs.Totals.{elements_of}
use Rattle.p414_sem.specs.Slots.{Slot, standard, declared, Element}
use Rattle.p414_sem.specs.declared.standard.Standard.TheVariants.{IngressPort, EgressSpec, EgressPort, PacketLength, InstanceType}
use Rattle.agreement_of_meanings.specs.Shown.{Shown, as_header, as_stack, as_metadata, fields_of, owner_of, no_field, width_of}
use Rattle.lower_laws_states.specs.Fits.{widths_in, slot_bits}
use Rattle.lower_laws_states.specs.Standing.{SlotStands, HeaderStands, CopyStands, StackStands}
use Rattle.lower_laws_base.specs.Context.{Lowering, words_of, shown_in, instances_of, HasRoot, IsSlot, IsPart, IsHeaderPart}
use Rattle.lower_laws_base.specs.Mirror.{width_in}
use Rattle.lower_laws_base.specs.Types.{ShownDecl}
use Rattle.lower_laws_actions.specs.Fits.{IsStack}
use Rattle.lower_laws_program.specs.TypesFit.{StackShown}
use Rattle.lower_laws_program.proofs.Standing.{elements_are, is_plain}
use Rattle.lower_laws_premises.specs.Shown.{ShowsInstances, HasRoots}

root_there : (c : Lowering) → HasRoots c → (x : Shown) → HasRoot c.layout (owner_of x)
root_there c roots (as_header called fields) = roots.headers
root_there c roots (as_stack called fields) = roots.headers
root_there c roots (as_metadata called fields) = roots.metadata

module _ (c : Lowering) (ds : List Decl) (shows : ShowsInstances c ds) (roots : HasRoots c) where
  inside : (i : ℕ) (d : Decl) → numbered sort.Instance ds i ≡ Some d → i < length (instances_of c)
  inside i d is = omega (arith, slice_get_within (declared_in sort.Instance ds) i d is, shows.decls.all)

  its : (i : ℕ) (d : Decl) → numbered sort.Instance ds i ≡ Some d → ShownDecl ds d (shown_in c i) (c.layout.size_of i)
  its i d is = subst (λ (e : Decl). ShownDecl ds e (shown_in c i) (c.layout.size_of i)) (get_or_from_slice_get (declared_in sort.Instance ds) i d d is) (shows.decls.each i (inside i d is) d)

  pub part_there : (i e : ℕ) (d : Decl) → numbered sort.Instance ds i ≡ Some d → e < elements_of (size_in d) → IsPart c.layout (record { instance = i; element = e })
  part_there i e d is lt = (inside i d is, subst (λ z. e < z) (elements_are ds d (shown_in c i) (c.layout.size_of i) (its i d is)) lt, root_there c roots (shown_in c i))

  widths_are : (i : ℕ) (d : Decl) → numbered sort.Instance ds i ≡ Some d → widths_in ds d ≡ map width_of (fields_of (shown_in c i))
  widths_are i d is = ap (λ (o : Option Decl). option_map_or (widths_in ds) o []) (sym is) ∙ shows.widths i (inside i d is)

  field_within : (i f : ℕ) (d : Decl) → numbered sort.Instance ds i ≡ Some d → f < length (widths_in ds d) → f < length (fields_of (shown_in c i))
  field_within i f d is lt = omega (arith, lt, ap length (widths_are i d is), length-map (fields_of (shown_in c i)) width_of)

  -- a field that is there
  pub slot_is : (slot : Slot) → SlotStands ds slot → IsSlot c.layout slot
  slot_is (standard which) there = roots.standard
  slot_is (declared i e f) there =
      let part = part_there i e there.instance there.numbered_so there.element in
      (part.0, part.1, part.2, field_within i f there.instance there.numbered_so there.field)

  -- its bits
  pub bits_are : (slot : Slot) → SlotStands ds slot → slot_bits ds slot ≡ width_in (words_of c) slot
  bits_are (standard IngressPort) there = refl
  bits_are (standard EgressSpec) there = refl
  bits_are (standard EgressPort) there = refl
  bits_are (standard PacketLength) there = refl
  bits_are (standard InstanceType) there = refl
  bits_are (declared i e f) there =
      ap (λ l. slice_index l f) (shows.widths i (inside i there.instance there.numbered_so))
      ∙ get_or-map width_of (fields_of (shown_in c i)) f no_field 0 (field_within i f there.instance there.numbered_so there.field)

  -- and each field of the layout is one of the program
  pub slot_stands : (slot : Slot) → IsSlot c.layout slot → SlotStands ds slot
  slot_stands (standard which) is = tt
  slot_stands (declared i e f) is =
      let no : Decl = decl.Header (record { header_type = []; name = []; size = None }) in
      let d = get_or (declared_in sort.Instance ds) i no in
      let there : numbered sort.Instance ds i ≡ Some d = slice_get-get_or (declared_in sort.Instance ds) i no (omega (arith, is.0, shows.decls.all)) in
      record {
        instance = d;
        numbered_so = there;
        element = subst (λ z. e < z) (sym (elements_are ds d (shown_in c i) (c.layout.size_of i) (its i d there))) is.1;
        field = omega (arith, is.3, ap length (widths_are i d there), length-map (fields_of (shown_in c i)) width_of);
      }

  -- a header, or an element of a stack
  pub header_is : (at : Element) → HeaderStands ds at → IsHeaderPart c.layout at
  header_is at there =
      (part_there at.instance at.element (decl.Header there.header) there.numbered_so there.element, is_plain ds there.header (shown_in c at.instance) (c.layout.size_of at.instance) (its at.instance (decl.Header there.header) there.numbered_so))

  -- a stack
  pub stack_is : (i : ℕ) → StackStands ds i → IsStack c i
  stack_is i there =
      let d : Decl = decl.Header there.header in
      let lt = inside i d there.numbered_so in
      let shown = subst (λ (e : Decl). StackShown e (shown_in c i)) (get_or_from_slice_get (declared_in sort.Instance ds) i d d there.numbered_so) (shows.stacks i lt d) in
      let is = shown (ap is_some there.is_stack) in
      record { called = is.0; fields = is.1; within = lt; shown = is.2; root = roots.headers }

  -- both sides of a copy have the same fields and one type
  pub fields_same : (to from : Element) → CopyStands ds to from → fields_of (shown_in c from.instance) ≡ fields_of (shown_in c to.instance)
  fields_same to from is = shows.fields from.instance to.instance is.source.header is.to.header is.source.numbered_so is.to.numbered_so (sym is.same)

  pub type_same : (to from : Element) → CopyStands ds to from → c.type_of to.instance ≡ c.type_of from.instance
  type_same to from is = shows.types to.instance from.instance is.to.header is.source.header is.to.numbered_so is.source.numbered_so is.same

-- stacks have at most 256 elements (C4)
module _ (c : Lowering) (ds : List Decl) (stacks : has_bad_stack ds ≡ false) (shows : ShowsInstances c ds) (roots : HasRoots c) where
  few_elements : (size : Option Literal) → option_map_or is_bad_size size false ≡ false → elements_of size ≤ 256
  few_elements None right = omega arith
  few_elements (Some n) right = ltb-false 256 n.value (neither (nat_lt n.value 1) (nat_lt 256 n.value) right).1

  pub sizes_few : (i : ℕ) → i < length (instances_of c) → c.layout.size_of i ≤ 256
  sizes_few i lt =
      let no : Decl = decl.Header (record { header_type = []; name = []; size = None }) in
      let d = get_or (declared_in sort.Instance ds) i no in
      let there : numbered sort.Instance ds i ≡ Some d = slice_get-get_or (declared_in sort.Instance ds) i no (omega (arith, lt, shows.decls.all)) in
      subst (λ n. n ≤ 256) (elements_are ds d (shown_in c i) (c.layout.size_of i) (its c ds shows roots i d there)) (few_elements (size_in d) (none_passes declares_bad_size ds d (neither (list_any declares_bad_size ds) _ stacks).0 (numbered_has ds sort.Instance i d there)))
