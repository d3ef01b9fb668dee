-- What stands in an accepted program stands on the layout that shows it: fields, headers and stacks, with their widths.
use Rattle.std.proofs.Common.{◌≡◌, ℕ, ◌<◌, false, Option, Some, List, [], length, map, get_or, refl, sym, ap, ◌∙◌, subst, arith}
use Rattle.std.specs.Prelude.{slice_index}
use Rattle.std.specs.Option.{option_map_or}
use Rattle.std.proofs.lemmas.List.{get_or-map, length-map}
use Rattle.std.proofs.lemmas.Option.{slice_get_within, slice_get-get_or, get_or_from_slice_get}
use Rattle.p414_syntax.specs.declared.syntax.Decl.{Decl}
use Rattle.p414_syntax.specs.declared.syntax.Decl.TheVariants as decl
use Rattle.p414_syntax.specs.declared.syntax.Sort.TheVariants as sort
use Rattle.p414_syntax.specs.Names.{declared_in, numbered}
use Rattle.p414_syntax.specs.Fields.{size_in}
use Rattle.p414_syntax.specs.Totals.{elements_of}
use Rattle.p414_sem.specs.Slots.{Slot, standard, declared, Element}
use Rattle.p414_sem.specs.declared.standard.Standard.TheVariants.{IngressPort, EgressSpec, EgressPort, PacketLength, InstanceType}
use Rattle.agreement_of_meanings.specs.Shown.{Shown, as_header, as_stack, as_metadata, is_metadata, fields_of, owner_of, no_field, width_of, slot_width}
use Rattle.lower_laws_states.specs.Fits.{widths_in, widths_at, slot_bits}
use Rattle.lower_laws_states.specs.Standing.{SlotStands, HeaderStands}
use Rattle.lower_laws_base.specs.Context.{StateLayout, shown_on, HasRoot, IsSlot, IsPart, IsHeaderPart}
use Rattle.lower_laws_base.specs.Between.{between}
use Rattle.lower_laws_base.specs.Types.{ShownDecl, DeclsShown}
use Rattle.lower_laws_parser.specs.Deparsing.{WidthsAre, AllWidths}

pub elements_are : (ds : List Decl) (d : Decl) (x : Shown) (size : ℕ) → ShownDecl ds d x size → elements_of (size_in d) ≡ size
elements_are ds (decl.Header h) (as_header called fields) size is = is.1 ∙ sym is.0
elements_are ds (decl.Header h) (as_stack called fields) size is = is.0
elements_are ds (decl.Metadata m) (as_metadata called fields) size is = sym is.0
elements_are ds (decl.Header h) (as_metadata called fields) size is = absurd is
elements_are ds (decl.Metadata m) (as_header called fields) size is = absurd is
elements_are ds (decl.Metadata m) (as_stack called fields) size is = absurd is
elements_are ds _ x size is = absurd is

pub is_plain : (ds : List Decl) (h : _) (x : Shown) (size : ℕ) → ShownDecl ds (decl.Header h) x size → is_metadata x ≡ false
is_plain ds h (as_header called fields) size is = refl
is_plain ds h (as_stack called fields) size is = refl
is_plain ds h (as_metadata called fields) size is = absurd is

root_there : (g : StateLayout) (x : Shown) → HasRoot (between g) (owner_of x)
root_there g (as_header called fields) = refl
root_there g (as_stack called fields) = refl
root_there g (as_metadata called fields) = refl

module _ (g : StateLayout) (ds : List Decl) (shown : DeclsShown g ds) (widths : (k : ℕ) → k < length g.names.instances → widths_at ds k ≡ map width_of (fields_of (shown_on g k))) where
  pub inside : (i : ℕ) (d : Decl) → numbered sort.Instance ds i ≡ Some d → i < length g.names.instances
  inside i d is = omega (arith, slice_get_within (declared_in sort.Instance ds) i d is, shown.all)

  pub its : (i : ℕ) (d : Decl) → numbered sort.Instance ds i ≡ Some d → ShownDecl ds d (shown_on g i) (g.size_of i)
  its i d is = subst (λ (e : Decl). ShownDecl ds e (shown_on g i) (g.size_of i)) (get_or_from_slice_get (declared_in sort.Instance ds) i d d is) (shown.each i (inside i d is) d)

  part_there : (i e : ℕ) (d : Decl) → numbered sort.Instance ds i ≡ Some d → e < elements_of (size_in d) → IsPart (between g) (record { instance = i; element = e })
  part_there i e d is lt = (inside i d is, subst (λ z. e < z) (elements_are ds d (shown_on g i) (g.size_of i) (its i d is)) lt, root_there g (shown_on g i))

  pub widths_are : (i : ℕ) (d : Decl) → numbered sort.Instance ds i ≡ Some d → widths_in ds d ≡ map width_of (fields_of (shown_on g i))
  widths_are i d is = ap (λ (o : Option Decl). option_map_or (widths_in ds) o []) (sym is) ∙ widths i (inside i d is)

  field_within : (i f : ℕ) (d : Decl) → numbered sort.Instance ds i ≡ Some d → f < length (widths_in ds d) → f < length (fields_of (shown_on g i))
  field_within i f d is lt = omega (arith, lt, ap length (widths_are i d is), length-map (fields_of (shown_on g i)) width_of)

  -- a field that is there
  pub slot_is : (slot : Slot) → SlotStands ds slot → IsSlot (between g) slot
  slot_is (standard which) there = refl
  slot_is (declared i e f) there =
      let part = part_there i e there.instance there.numbered_so there.element in
      (part.0, part.1, part.2, field_within i f there.instance there.numbered_so there.field)

  -- its bits
  pub bits_are : (slot : Slot) → SlotStands ds slot → slot_bits ds slot ≡ slot_width g.names.instances slot
  bits_are (standard IngressPort) there = refl
  bits_are (standard EgressSpec) there = refl
  bits_are (standard EgressPort) there = refl
  bits_are (standard PacketLength) there = refl
  bits_are (standard InstanceType) there = refl
  bits_are (declared i e f) there =
      ap (λ l. slice_index l f) (widths i (inside i there.instance there.numbered_so))
      ∙ get_or-map width_of (fields_of (shown_on g i)) f no_field 0 (field_within i f there.instance there.numbered_so there.field)

  -- a header, or an element of a stack
  pub header_is : (at : Element) → HeaderStands ds at → IsHeaderPart (between g) at
  header_is at there =
      (part_there at.instance at.element (decl.Header there.header) there.numbered_so there.element, is_plain ds there.header (shown_on g at.instance) (g.size_of at.instance) (its at.instance (decl.Header there.header) there.numbered_so))

  -- the widths of headers, as the deparser asks for them
  pub all_widths : AllWidths g ds
  all_widths k lt d =
      let there = slice_get-get_or (declared_in sort.Instance ds) k d (omega (arith, lt, shown.all)) in
      by (get_or (declared_in sort.Instance ds) k d) (ap (λ (o : Option Decl). option_map_or (widths_in ds) o []) (sym there) ∙ widths k lt) where
        by : (e : Decl) → widths_in ds e ≡ map width_of (fields_of (shown_on g k)) → WidthsAre ds e (shown_on g k)
        by (decl.Header h) same = same
        by _ same = tt
