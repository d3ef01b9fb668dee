-- Fields that are there have 1 to 128 bits (C3, C25).
use Rattle.std.proofs.Common.{◌≡◌, ℕ, zero, suc, ◌<◌, false, Option, Some, None, List, [], ◌∷◌, length, map, get_or, refl, sym, subst, arith}
use Rattle.std.specs.Prelude.{nat_lt, slice_index}
use Rattle.std.specs.List.{list_any}
use Rattle.std.specs.Option.{option_map_or}
use Rattle.std.proofs.lemmas.Bool.{ltb-false}
use Rattle.p414_syntax.specs.declared.headers.Field.{Field}
use Rattle.p414_syntax.specs.declared.headers.FieldWidth.{FieldWidth}
use Rattle.p414_syntax.specs.declared.headers.FieldWidth.TheVariants.{Bits, Rest}
use Rattle.p414_syntax.specs.declared.syntax.Decl.{Decl}
use Rattle.p414_syntax.specs.declared.syntax.Decl.TheVariants as decl
use Rattle.p414_syntax.specs.Views.{HeaderTypeTree}
use Rattle.p414_syntax.specs.Names.{Name}
use Rattle.p414_syntax.specs.Breaks.{BreaksNone, program_rules}
use Rattle.p414_syntax.specs.Fields.{type_of, field_bits, bits_of, is_rest, is_rest_field}
use Rattle.p414_syntax.specs.Widths.{is_bad_field_width, is_bad_field, declares_bad_width}
use Rattle.p414_sem.specs.declared.standard.Standard.TheVariants.{IngressPort, EgressSpec, EgressPort, PacketLength, InstanceType}
use Rattle.p414_sem.specs.Slots.{Slot, standard, declared}
use Rattle.p414_sem.specs.Packing.{type_widths, widths_of_type}
use Rattle.lower_laws_states.specs.Fits.{widths_in, slot_bits}
use Rattle.lower_laws_states.specs.Standing.{SlotStands, IsWide}
use Rattle.lower_laws_states.proofs.Members.{neither, none_passes}
use Rattle.lower_laws_states.proofs.Rules.{widths_right, all_supported}
use Rattle.lower_laws_states.proofs.Bounded.{type_has, no_rest}

pub width_wide : (w : FieldWidth) → is_bad_field_width w ≡ false → is_rest w ≡ false → IsWide (bits_of w)
width_wide Rest right whole = absurd (cc whole)
width_wide (Bits n) right whole =
    let parts = neither (nat_lt n.value 1) (nat_lt 128 n.value) right in
    (ltb-false n.value 1 parts.0, ltb-false 128 n.value parts.1)

fields_wide : (fields : List Field) → list_any is_bad_field fields ≡ false → list_any is_rest_field fields ≡ false → (k : ℕ) → k < length (map field_bits fields) → IsWide (get_or (map field_bits fields) k 0)
fields_wide [] right whole k lt = absurd (omega (arith, lt))
fields_wide (f ∷ fields) right whole zero lt = width_wide f.width (neither (is_bad_field f) (list_any is_bad_field fields) right).0 (neither (is_rest_field f) (list_any is_rest_field fields) whole).0
fields_wide (f ∷ fields) right whole (suc k) lt = fields_wide fields (neither (is_bad_field f) (list_any is_bad_field fields) right).1 (neither (is_rest_field f) (list_any is_rest_field fields) whole).1 k (omega (arith, lt))

module _ (ds : List Decl) (none : BreaksNone ds program_rules) where
  type_wide : (name : Name) (k : ℕ) → k < length (widths_of_type ds name) → IsWide (slice_index (widths_of_type ds name) k)
  type_wide name k lt = by (type_of ds name) refl lt where
    by : (o : Option HeaderTypeTree) → type_of ds name ≡ o → k < length (option_map_or type_widths o []) → IsWide (slice_index (option_map_or type_widths o []) k)
    by None e lt = absurd (omega (arith, lt))
    by (Some t) e lt =
        let h = type_has ds name t e in
        fields_wide t.fields (none_passes declares_bad_width ds (decl.HeaderType t) (widths_right ds none) h) (no_rest ds (all_supported ds none) t h) k lt

  pub instance_wide : (d : Decl) (k : ℕ) → k < length (widths_in ds d) → IsWide (slice_index (widths_in ds d) k)
  instance_wide (decl.Header x) k lt = type_wide x.header_type k lt
  instance_wide (decl.Metadata x) k lt = type_wide x.header_type k lt
  instance_wide _ k lt = absurd (omega (arith, lt))

  pub slot_wide : (slot : Slot) → SlotStands ds slot → IsWide (slot_bits ds slot)
  slot_wide (standard IngressPort) is = (omega arith, omega arith)
  slot_wide (standard EgressSpec) is = (omega arith, omega arith)
  slot_wide (standard EgressPort) is = (omega arith, omega arith)
  slot_wide (standard PacketLength) is = (omega arith, omega arith)
  slot_wide (standard InstanceType) is = (omega arith, omega arith)
  slot_wide (declared i e f) is = subst (λ (o : Option Decl). IsWide (slice_index (option_map_or (widths_in ds) o []) f)) (sym is.numbered_so) (instance_wide is.instance f is.field)
