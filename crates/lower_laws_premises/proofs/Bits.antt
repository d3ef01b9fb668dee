-- A reference has the bits of the slot that it stands at, if there is one; a target of a call, too.
use Rattle.std.proofs.Common.{◌≡◌, ℕ, Bool, true, false, cond, ◌||◌, Option, Some, None, List, [], length, refl, sym, ap, ◌∙◌, arith}
use Rattle.std.specs.Prelude.{codes, slice_get, slice_index, unwrap_or, option_and_then, option_map}
use Rattle.std.specs.Option.{option_map_or}
use Rattle.std.specs.Str.{bytes_eq}
use Rattle.std.proofs.lemmas.List.{length-map, get_or_past}
use Rattle.std.proofs.lemmas.Option.{slice_get_past, slice_get-map, unwrap_or-slice_get}
use Rattle.p414_syntax.specs.declared.parts.Ref.{Ref}
use Rattle.p414_syntax.specs.declared.syntax.Decl.{Decl}
use Rattle.p414_syntax.specs.declared.syntax.Sort.TheVariants as sort
use Rattle.p414_syntax.specs.Views.{HeaderTypeTree}
use Rattle.p414_syntax.specs.Names.{Name, has_name, find_name, field_name, names_in, declared_in}
use Rattle.p414_syntax.specs.Primitives.{is_standard, standard_width, left_out_fields}
use Rattle.p414_syntax.specs.Fields.{instance_type, field_bits, width_in}
use Rattle.p414_syntax.specs.Expansion.{type_fields}
use Rattle.p414_syntax.specs.Twice.{declares_twice}
use Rattle.p414_syntax.specs.Arguments.{Argument, number_argument, field_argument, parameter_argument, name_argument}
use Rattle.p414_sem.specs.declared.standard.Standard.TheVariants.{IngressPort, EgressSpec, EgressPort, PacketLength, InstanceType}
use Rattle.p414_sem.specs.Packing.{type_widths, widths_of}
use Rattle.p414_sem.specs.Slots.{standard, standard_field, declared_slot, slot_of, bits_of_ref, field_number}
use Rattle.p414_sem.specs.Operations.{target_in, no_target}
use Rattle.lower_laws_states.specs.Fits.{slot_bits, widths_in}
use Rattle.lower_laws_states.specs.Standing.{SlotStands}
use Rattle.lower_laws_states.proofs.Named.{names_long, widths_named}
use Rattle.lower_laws_states.proofs.Declared.{is_there, not_standard}
use Rattle.lower_laws_states.proofs.Accepted.{instance_is}
use Rattle.lower_laws_premises.specs.Counts.{HasBits}

field_there : (t : HeaderTypeTree) (field : Name) → slice_index (type_widths t) (unwrap_or (find_name (type_fields t) field) (length (type_fields t))) ≡ unwrap_or (width_in t field) 0
field_there t field = by (find_name (type_fields t) field) where
  by : (o : Option ℕ) → slice_index (type_widths t) (unwrap_or o (length (type_fields t))) ≡ unwrap_or (option_map field_bits (option_and_then (slice_get t.fields) o)) 0
  by None = get_or_past (type_widths t) (length (type_fields t)) 0 (omega (arith, length-map t.fields field_bits, length-map t.fields field_name))
  by (Some k) = sym (unwrap_or-slice_get (type_widths t) k 0) ∙ ap (λ (o : Option ℕ). unwrap_or o 0) (slice_get-map field_bits t.fields k)

field_named : (ds : List Decl) (name field : Name) → slice_index (widths_of ds name) (field_number ds name field) ≡ unwrap_or (option_and_then (λ t. width_in t field) (instance_type ds name)) 0
field_named ds name field = by (instance_type ds name) where
  by : (o : Option HeaderTypeTree) → slice_index (option_map_or type_widths o []) (unwrap_or (find_name (option_map_or type_fields o []) field) (length (option_map_or type_fields o []))) ≡ unwrap_or (option_and_then (λ t. width_in t field) o) 0
  by None = refl
  by (Some t) = field_there t field

-- a field that stands at a slot has its bits
pub bits_stand : (ds : List Decl) → declares_twice ds ≡ false → (r : Ref) → SlotStands ds (slot_of ds r) → bits_of_ref ds r ≡ slot_bits ds (slot_of ds r)
bits_stand ds once r stands = by (is_standard r.instance.name) refl stands where
  elsewhere : unwrap_or (option_and_then (λ t. width_in t r.field) (instance_type ds r.instance.name)) 0 ≡ slot_bits ds (declared_slot ds r)
  elsewhere = sym (ap (λ l. slice_index l (field_number ds r.instance.name r.field)) (widths_named ds r.instance.name) ∙ field_named ds r.instance.name r.field)

  -- no instance has the name of standard metadata
  nowhere : is_standard r.instance.name ≡ true → SlotStands ds (declared_slot ds r) → ⊥
  nowhere is there = cc (is, not_standard ds once r.instance.name (is_there ds r.instance.name there.instance (instance_is ds r.instance.name there.instance there.numbered_so)))

  at : is_standard r.instance.name ≡ true → (a b c d e f : Bool)
      → SlotStands ds (option_map_or standard (cond a (Some IngressPort) (cond b (Some EgressSpec) (cond c (Some EgressPort) (cond d (Some PacketLength) (cond e (Some InstanceType) None))))) (declared_slot ds r))
      → unwrap_or (cond (a || (b || (c || false))) (Some 9) (cond (d || (e || false)) (Some 32) (cond f (Some 0) None))) 0 ≡ slot_bits ds (option_map_or standard (cond a (Some IngressPort) (cond b (Some EgressSpec) (cond c (Some EgressPort) (cond d (Some PacketLength) (cond e (Some InstanceType) None))))) (declared_slot ds r))
  at is true b c d e f there = refl
  at is false true c d e f there = refl
  at is false false true d e f there = refl
  at is false false false true e f there = refl
  at is false false false false true f there = refl
  at is false false false false false f there = absurd (nowhere is there)

  by : (b : Bool) → is_standard r.instance.name ≡ b → SlotStands ds (cond b (option_map_or standard (standard_field r.field) (declared_slot ds r)) (declared_slot ds r)) → unwrap_or (cond b (standard_width r.field) (option_and_then (λ t. width_in t r.field) (instance_type ds r.instance.name))) 0 ≡ slot_bits ds (cond b (option_map_or standard (standard_field r.field) (declared_slot ds r)) (declared_slot ds r))
  by true is there = at is (bytes_eq r.field (codes "ingress_port")) (bytes_eq r.field (codes "egress_spec")) (bytes_eq r.field (codes "egress_port")) (bytes_eq r.field (codes "packet_length")) (bytes_eq r.field (codes "instance_type")) (has_name left_out_fields r.field) there
  by false is there = elsewhere

-- a target that isn't there has no bits
none_bits : (ds : List Decl) → HasBits ds (no_target ds)
none_bits ds = sym (ap (λ (o : Option Decl). slice_index (option_map_or (widths_in ds) o []) 0) (slice_get_past (declared_in sort.Instance ds) (length (names_in sort.Instance ds)) (omega (arith, names_long ds sort.Instance))))

pub target_bits : (ds : List Decl) → declares_twice ds ≡ false → (a : Argument) → SlotStands ds (target_in ds a).slot → HasBits ds (target_in ds a)
target_bits ds once (field_argument r) there = bits_stand ds once r there
target_bits ds once (number_argument n) there = none_bits ds
target_bits ds once (parameter_argument n) there = none_bits ds
target_bits ds once (name_argument i) there = none_bits ds
