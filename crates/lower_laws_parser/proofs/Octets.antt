-- The octets of headers.
use Rattle.std.proofs.Common.{◌≡◌, ℕ, suc, ◌<◌, Bool, false, cond, List, [], ◌∷◌, ◌++◌, length, map, refl, sym, ap, ap₂, ◌∙◌, arith}
use Rattle.std.specs.Prelude.{flat_map, slice_index_or}
use Rattle.std.proofs.lemmas.List.{append-nil}
use Rattle.std.proofs.lemmas.List.Concat.{flat_map-cons}
use Rattle.p4x_bits.specs.BitLists.{num, bits}
use Rattle.p414_syntax.specs.declared.syntax.Decl.{Decl}
use Rattle.p414_syntax.specs.declared.syntax.Decl.TheVariants as decl
use Rattle.p414_sem.specs.State.{Header as Header14, Instance, no_header as no_header14}
use Rattle.p414_sem.specs.Packing.{bits_in, octets_in as octets14}
use Rattle.p414_sem.specs.Passes.{header_octets, octets_of as octets_of14}
use Rattle.v1_core.specs.Values.{a_header}
use Rattle.v1_core.specs.Externs.Packets.{bits_of_field, octets_in, octets_of_header, octets_of}
use Rattle.agreement_of_meanings.specs.Shown.{NamedField, Shown, as_header, as_stack, as_metadata, is_metadata, fields_of, width_of, shown_fields, shown_header, shown_value, element}
use Rattle.lower_laws_base.specs.Types.{ShownDecl}
use Rattle.lower_laws_parser.specs.Deparsing.{WidthsAre}

same_octets : (xs : List Bool) → octets_in xs ≡ octets14 xs
same_octets (a ∷ b ∷ c ∷ d ∷ e ∷ f ∷ g ∷ h ∷ rest) = ap (λ (l : List ℕ). num (a ∷ b ∷ c ∷ d ∷ e ∷ f ∷ g ∷ h ∷ []) ∷ l) (same_octets rest)
same_octets [] = refl
same_octets (a ∷ []) = refl
same_octets (a ∷ b ∷ []) = refl
same_octets (a ∷ b ∷ c ∷ []) = refl
same_octets (a ∷ b ∷ c ∷ d ∷ []) = refl
same_octets (a ∷ b ∷ c ∷ d ∷ e ∷ []) = refl
same_octets (a ∷ b ∷ c ∷ d ∷ e ∷ f ∷ []) = refl
same_octets (a ∷ b ∷ c ∷ d ∷ e ∷ f ∷ g ∷ []) = refl

same_bits : (fields : List NamedField) (numbers : List ℕ) → length numbers ≡ length fields → flat_map bits_of_field (shown_fields fields numbers) ≡ bits_in (map width_of fields) numbers
same_bits [] numbers count = refl
same_bits (f ∷ fields) [] count = absurd (omega (arith, count))
same_bits (f ∷ fields) (n ∷ numbers) count =
    flat_map-cons bits_of_field (record { called = f.called; width = f.width; number = n }) (shown_fields fields numbers)
    ∙ ap (λ (l : List Bool). bits f.width n ++ l) (same_bits fields numbers (omega (arith, count)))

pub header_alike : (fields : List NamedField) (h : Header14) → length h.numbers ≡ length fields → octets_of_header (shown_header fields h) ≡ header_octets (map width_of fields) h
header_alike fields h count =
    ap (λ (l : List ℕ). cond h.valid l []) (ap octets_in (same_bits fields h.numbers count) ∙ same_octets (bits_in (map width_of fields) h.numbers))

-- so many numbers in each element
abbrev pub AllCount : List NamedField → List Header14 → Type 0
AllCount fields [] = Unit {0}
AllCount fields (h ∷ hs) = (length h.numbers ≡ length fields) × AllCount fields hs

pub stack_alike : (fields : List NamedField) (hs : List Header14) → AllCount fields hs → flat_map octets_of_header (map (shown_header fields) hs) ≡ flat_map (header_octets (map width_of fields)) hs
stack_alike fields [] all = refl
stack_alike fields (h ∷ hs) all =
    flat_map-cons octets_of_header (shown_header fields h) (map (shown_header fields) hs)
    ∙ ap₂ (λ a b. a ++ b) (header_alike fields h all.0) (stack_alike fields hs all.1)
    ∙ sym (flat_map-cons (header_octets (map width_of fields)) h hs)

-- one element alone
pub alone : (fields : List NamedField) (i : Instance) → length i.elements ≡ 1 → AllCount fields i.elements → octets_of (a_header (shown_header fields (element i 0))) ≡ flat_map (header_octets (map width_of fields)) i.elements
alone fields i one all = by i.elements one all where
  by : (hs : List Header14) → length hs ≡ 1 → AllCount fields hs → octets_of (a_header (shown_header fields (slice_index_or hs 0 no_header14))) ≡ flat_map (header_octets (map width_of fields)) hs
  by [] one all = absurd (omega (arith, one))
  by (h ∷ []) one all =
      header_alike fields h all.0 ∙ sym (flat_map-cons (header_octets (map width_of fields)) h [] ∙ append-nil (header_octets (map width_of fields) h))
  by (h ∷ g ∷ hs) one all = absurd (omega (arith, one))

-- an instance as it is shown
pub instance_alike : (ds : List Decl) (d : Decl) (x : Shown) (size : ℕ) (i : Instance) → is_metadata x ≡ false → ShownDecl ds d x size → WidthsAre ds d x → length i.elements ≡ size → AllCount (fields_of x) i.elements → octets_of (shown_value x i) ≡ octets_of14 ds d i
instance_alike ds (decl.Header h) (as_header called fields) size i plain shown widths count all =
    alone fields i (count ∙ shown.0) all ∙ ap (λ w. flat_map (header_octets w) i.elements) (sym widths)
instance_alike ds (decl.Header h) (as_stack called fields) size i plain shown widths count all =
    stack_alike fields i.elements all ∙ ap (λ w. flat_map (header_octets w) i.elements) (sym widths)
instance_alike ds d (as_metadata called fields) size i plain shown widths count all = absurd (cc plain)
instance_alike ds (decl.Metadata m) (as_header called fields) size i plain shown widths count all = absurd shown
instance_alike ds (decl.Metadata m) (as_stack called fields) size i plain shown widths count all = absurd shown
instance_alike ds _ x size i plain shown widths count all = absurd shown

-- from what a state is
pub all_count : (fields : List NamedField) (hs : List Header14) → ((e : ℕ) → e < length hs → length (slice_index_or hs e no_header14).numbers ≡ length fields) → AllCount fields hs
all_count fields [] each = tt
all_count fields (h ∷ hs) each = (each 0 (omega arith), all_count fields hs (λ e lt. each (suc e) (omega (arith, lt))))
