-- What is found by a name: the widths of an instance, the bits of a field, the number of a list.
use Rattle.std.proofs.Common.{◌≡◌, ℕ, suc, ◌<◌, ◌^◌, Bool, true, false, cond, ◌||◌, Option, Some, None, List, [], ◌∷◌, length, map, slice_get, refl, sym, ap, ◌∙◌, subst, arith}
use Rattle.std.specs.Prelude.{filter, filter_map, is_some, codes, slice_index, unwrap_or, option_map, option_and_then, IfSome}
use Rattle.std.specs.List.{cons_option}
use Rattle.std.specs.Option.{option_map_or}
use Rattle.std.specs.Str.{bytes_eq}
use Rattle.std.proofs.lemmas.List.{length-map, get_or_past}
use Rattle.std.proofs.lemmas.List.Quantifiers.{position-Some}
use Rattle.std.proofs.lemmas.Nat.{pow_pos}
use Rattle.std.proofs.lemmas.Option.{slice_get_past, slice_get-map, unwrap_or-slice_get}
use Rattle.p414_syntax.specs.declared.parts.Ref.{Ref}
use Rattle.p414_syntax.specs.declared.syntax.Decl.{Decl}
use Rattle.p414_syntax.specs.declared.syntax.Decl.TheVariants as decl
use Rattle.p414_syntax.specs.declared.syntax.Sort.{Sort}
use Rattle.p414_syntax.specs.declared.syntax.Sort.TheVariants as sort
use Rattle.p414_syntax.specs.Views.{HeaderTypeTree}
use Rattle.p414_syntax.specs.Names.{Name, has_name, find_name, field_name, name_in, names_in, declared_in, number_of, numbered}
use Rattle.p414_syntax.specs.Primitives.{is_standard, left_out_fields, standard_width}
use Rattle.p414_sem.specs.declared.standard.Standard.TheVariants.{IngressPort, EgressSpec, EgressPort, PacketLength, InstanceType}
use Rattle.p414_syntax.specs.Fields.{type_of, type_name_in, instance_type, field_bits, width_in}
use Rattle.p414_syntax.specs.ParserGraph.{instance_number}
use Rattle.p414_syntax.specs.Expansion.{lists, list_name, list_number, type_fields}
use Rattle.p414_sem.specs.Slots.{standard, standard_field, declared_slot, field_target, field_number}
use Rattle.p414_sem.specs.Packing.{type_widths, widths_of}
use Rattle.lower_laws_states.specs.Fits.{widths_in, widths_at, slot_bits, FitsTarget}

both_long : {X Y : Type 0} (h : X → Option Y) (xs : List X) → length (filter_map h xs) ≡ length (filter (λ x. is_some (h x)) xs)
both_long h [] = refl
both_long {X} {Y} h (x ∷ xs) = by (h x) (both_long h xs) where
  by : (o : Option Y) → length (filter_map h xs) ≡ length (filter (λ x. is_some (h x)) xs) → length (cons_option o (filter_map h xs)) ≡ length (cond (is_some o) (x ∷ filter (λ x. is_some (h x)) xs) (filter (λ x. is_some (h x)) xs))
  by None rest = rest
  by (Some y) rest = ap suc rest

pub names_long : (ds : List Decl) (s : Sort) → length (names_in s ds) ≡ length (declared_in s ds)
names_long ds s = both_long (name_in s) ds

-- instances

type_there : (ds : List Decl) (d : Decl) → widths_in ds d ≡ option_map_or type_widths (option_and_then (type_of ds) (type_name_in d)) []
type_there ds (decl.Header x) = refl
type_there ds (decl.Metadata x) = refl
type_there ds _ = refl

pub widths_named : (ds : List Decl) (name : Name) → widths_at ds (instance_number ds name) ≡ widths_of ds name
widths_named ds name = by (number_of sort.Instance ds name) where
  here : (o : Option Decl) → option_map_or (widths_in ds) o [] ≡ option_map_or type_widths (option_and_then (type_of ds) (option_and_then type_name_in o)) []
  here None = refl
  here (Some d) = type_there ds d

  by : (o : Option ℕ) → widths_at ds (unwrap_or o (length (names_in sort.Instance ds))) ≡ option_map_or type_widths (option_and_then (type_of ds) (option_and_then type_name_in (option_and_then (numbered sort.Instance ds) o))) []
  by None =
      ap (λ (o : Option Decl). option_map_or (widths_in ds) o [])
      (slice_get_past (declared_in sort.Instance ds) (length (names_in sort.Instance ds)) (omega (arith, names_long ds sort.Instance)))
  by (Some k) = here (numbered sort.Instance ds k)

-- fields

field_there : (t : HeaderTypeTree) (field : Name) → slice_index (type_widths t) (unwrap_or (find_name (type_fields t) field) (length (type_fields t))) ≡ unwrap_or (width_in t field) 0
field_there t field = by (find_name (type_fields t) field) where
  by : (o : Option ℕ) → slice_index (type_widths t) (unwrap_or o (length (type_fields t))) ≡ unwrap_or (option_map field_bits (option_and_then (slice_get t.fields) o)) 0
  by None = get_or_past (type_widths t) (length (type_fields t)) 0 (omega (arith, length-map t.fields field_bits, length-map t.fields field_name))
  by (Some k) = sym (unwrap_or-slice_get (type_widths t) k 0) ∙ ap (λ (o : Option ℕ). unwrap_or o 0) (slice_get-map field_bits t.fields k)

pub field_named : (ds : List Decl) (name field : Name) → slice_index (widths_of ds name) (field_number ds name field) ≡ unwrap_or (option_and_then (λ t. width_in t field) (instance_type ds name)) 0
field_named ds name field = by (instance_type ds name) where
  by : (o : Option HeaderTypeTree) → slice_index (option_map_or type_widths o []) (unwrap_or (find_name (option_map_or type_fields o []) field) (length (option_map_or type_fields o []))) ≡ unwrap_or (option_and_then (λ t. width_in t field) o) 0
  by None = refl
  by (Some t) = field_there t field

-- what a field of a reference's width keeps fits where the reference stands
pub target_fits : (ds : List Decl) (r : Ref) → FitsTarget ds (field_target ds r)
target_fits ds r n lt = by (is_standard r.instance.name) lt where
  elsewhere : slot_bits ds (declared_slot ds r) ≡ unwrap_or (option_and_then (λ t. width_in t r.field) (instance_type ds r.instance.name)) 0
  elsewhere = ap (λ l. slice_index l (field_number ds r.instance.name r.field)) (widths_named ds r.instance.name) ∙ field_named ds r.instance.name r.field

  of_standard : (a b c d e f : Bool) → n < 2 ^ unwrap_or (cond (a || (b || (c || false))) (Some 9) (cond (d || (e || false)) (Some 32) (cond f (Some 0) None))) 0
      → n < 2 ^ slot_bits ds (option_map_or standard (cond a (Some IngressPort) (cond b (Some EgressSpec) (cond c (Some EgressPort) (cond d (Some PacketLength) (cond e (Some InstanceType) None))))) (declared_slot ds r))
  of_standard true b c d e f lt = lt
  of_standard false true c d e f lt = lt
  of_standard false false true d e f lt = lt
  of_standard false false false true e f lt = lt
  of_standard false false false false true f lt = lt
  of_standard false false false false false true lt = omega (arith, lt, pow_pos (slot_bits ds (declared_slot ds r)))
  of_standard false false false false false false lt = omega (arith, lt, pow_pos (slot_bits ds (declared_slot ds r)))

  by : (b : Bool) → n < 2 ^ unwrap_or (cond b (standard_width r.field) (option_and_then (λ t. width_in t r.field) (instance_type ds r.instance.name))) 0 → n < 2 ^ slot_bits ds (cond b (option_map_or standard (standard_field r.field) (declared_slot ds r)) (declared_slot ds r))
  by false lt = subst (λ k. n < 2 ^ k) (sym elsewhere) lt
  by true lt =
      of_standard (bytes_eq r.field (codes "ingress_port")) (bytes_eq r.field (codes "egress_spec")) (bytes_eq r.field (codes "egress_port")) (bytes_eq r.field (codes "packet_length")) (bytes_eq r.field (codes "instance_type"))
      (has_name left_out_fields r.field) lt

-- lists

pub list_within : (ds : List Decl) (name : Name) → IfSome (list_number ds name) (λ l. l < length (lists ds))
list_within ds name = by (list_number ds name) refl where
  by : (o : Option ℕ) → list_number ds name ≡ o → IfSome o (λ l. l < length (lists ds))
  by None e = tt
  by (Some l) e = omega (arith, (position-Some (bytes_eq name) (map list_name (lists ds)) l [] e).0, length-map (lists ds) list_name)
