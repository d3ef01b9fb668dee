-- What an expanded primitive of an accepted program names is there (C2, C4, C13, C25, C27).
use Rattle.std.proofs.Common.{◌∷◌, ◌≡◌, ℕ, ◌+◌, ◌<◌, Bool, true, false, cond, ◌||◌, ◌&&◌, Option, Some, None, List, [], length, slice_get, ◌==◌, refl, sym, ap, ◌∙◌, subst, arith, ⊎_elim}
use Rattle.std.specs.Prelude.{codes, nat_lt, is_some, is_none, unwrap_or, option_and_then, option_map, IfSome, flat_map}
use Rattle.std.specs.List.{AllByRecursion, list_any}
use Rattle.std.specs.Option.{option_map_or}
use Rattle.std.specs.Str.{bytes_eq}
use Rattle.std.proofs.lemmas.Bool.{cases_lt}
use Rattle.std.proofs.lemmas.List.{length-map, get_or_past}
use Rattle.std.proofs.lemmas.List.Quantifiers.{position-Some}
use Rattle.std.proofs.lemmas.Option.{slice_get-get_or}
use Rattle.p414_syntax.specs.declared.lexeme.Literal.{Literal}
use Rattle.p414_syntax.specs.declared.parts.Number.{Number}
use Rattle.p414_syntax.specs.declared.parts.Inst.{Inst}
use Rattle.p414_syntax.specs.declared.parts.Ref.{Ref}
use Rattle.p414_syntax.specs.declared.syntax.Decl.{Decl}
use Rattle.p414_syntax.specs.declared.syntax.Decl.TheVariants as decl
use Rattle.p414_syntax.specs.declared.syntax.Sort.TheVariants as sort
use Rattle.p414_syntax.specs.Views.{HeaderTypeTree}
use Rattle.p414_syntax.specs.declared.place.ArgumentPlace.{ArgumentPlace}
use Rattle.p414_syntax.specs.declared.place.ArgumentPlace.TheVariants as place
use Rattle.p414_syntax.specs.Names.{Name, has_name, find_name, field_name, is_declared}
use Rattle.p414_syntax.specs.Primitives.{is_standard, standard_width, places_of, hash, left_out_fields}
use Rattle.p414_syntax.specs.Breaks.{BreaksNone, program_rules}
use Rattle.p414_syntax.specs.Fields.{instance_of, type_of, type_name_in, instance_type, width_in, field_bits, size_in}
use Rattle.p414_syntax.specs.Arguments.{Argument, number_argument, field_argument, parameter_argument, name_argument, Invocation, actions}
use Rattle.p414_syntax.specs.Calls.{type_names, differ, optional_count, takes_number, takes_field, takes_name, is_wrong_call, is_object, is_indirect_counter, is_register, is_meter}
use Rattle.p414_syntax.specs.Expansion.{lists, type_fields}
use Rattle.p414_syntax.specs.Parameters.{is_read}
use Rattle.p414_syntax.specs.ParserGraph.{instance_number}
use Rattle.p414_syntax.specs.Stacks.{declares_bad_size, is_bad_instance, is_misplaced}
use Rattle.p414_syntax.specs.Unknown.{is_unknown}
use Rattle.p414_syntax.specs.Unsupported.{declares_unsupported, is_last, is_unsupported_standard, is_unsupported_use}
use Rattle.p414_syntax.specs.Uses.{of_field, uses}
use Rattle.p414_sem.specs.declared.standard.Standard.TheVariants.{IngressPort, EgressSpec, EgressPort, PacketLength, InstanceType}
use Rattle.p414_sem.specs.Packing.{type_widths, widths_of}
use Rattle.p414_sem.specs.Slots.{standard, standard_field, declared_slot, slot_of, field_number}
use Rattle.p414_sem.specs.Calculations.{calculation_named}
use Rattle.p414_sem.specs.Expanded.{Expanded, IsExpanded, primitives_at}
use Rattle.p414_sem.specs.Operations.{Primitive, argument_at, source_of, target_in, element_in, name_in_argument, object_number, source, target, primitive_of, list_at}
use Rattle.lower_laws_states.specs.Fits.{widths_in}
use Rattle.lower_laws_states.specs.Standing.{SlotStands, TargetStands, HeaderStands, CopyStands, StackStands, ObjectStands, CalculationStands, SourceStands, PrimitiveStands}
use Rattle.lower_laws_states.specs.Expansions.{Has, IsPrimitiveOf, IsBelow, IsFieldOfText}
use Rattle.lower_laws_states.proofs.Members.{neither, none_passes, each_has, has_each, has_at}
use Rattle.lower_laws_states.proofs.Named.{widths_named, target_fits, list_within}
use Rattle.lower_laws_states.proofs.Rules.{none_unknown, stacks_right, all_supported, parameters_right}
use Rattle.lower_laws_states.proofs.Declared.{numbered_so, within_stack}
use Rattle.lower_laws_states.proofs.Written.{IsJudged, judged}
use Rattle.lower_laws_states.proofs.Placed.{both, header_argument, stack_argument, same_type, alike}
use Rattle.lower_laws_states.proofs.Writable.{target_writable}
use Rattle.lower_laws_states.proofs.Accepted.{accepted_primitives, accepted_calls}

-- a field that has a width is there

pub record IsFound (ds : List Decl) (name field : Name) : Type 0 where
  pub instance : Decl
  pub is : instance_of ds name ≡ Some instance
  pub within : field_number ds name field < length (widths_of ds name)

pub found : (ds : List Decl) (name field : Name) → is_none (option_and_then (λ t. width_in t field) (instance_type ds name)) ≡ false → IsFound ds name field
found ds name field there = by (instance_of ds name) refl there where
  at : (t : HeaderTypeTree) → is_none (width_in t field) ≡ false → unwrap_or (find_name (type_fields t) field) (length (type_fields t)) < length (type_widths t)
  at t there = of (find_name (type_fields t) field) refl there where
    of : (o : Option ℕ) → find_name (type_fields t) field ≡ o → is_none (option_map field_bits (option_and_then (slice_get t.fields) o)) ≡ false → unwrap_or o (length (type_fields t)) < length (type_widths t)
    of None e there = absurd (cc there)
    of (Some k) e there = omega (arith, (position-Some (bytes_eq field) (type_fields t) k [] e).0, length-map t.fields field_bits, length-map t.fields field_name)

  typed : (o : Option HeaderTypeTree) → is_none (option_and_then (λ t. width_in t field) o) ≡ false → unwrap_or (find_name (option_map_or type_fields o []) field) (length (option_map_or type_fields o [])) < length (option_map_or type_widths o [])
  typed None there = absurd (cc there)
  typed (Some t) there = at t there

  by : (o : Option Decl) → instance_of ds name ≡ o → is_none (option_and_then (λ t. width_in t field) (option_and_then (type_of ds) (option_and_then type_name_in o))) ≡ false → IsFound ds name field
  by None e there = absurd (cc there)
  by (Some d) e there = record { instance = d; is = e; within = typed (instance_type ds name) (ap (λ (o : Option Decl). is_none (option_and_then (λ t. width_in t field) (option_and_then (type_of ds) (option_and_then type_name_in o)))) e ∙ there) }

-- a field of standard metadata that isn't left out
standard_there : (ds : List Decl) (r : Ref) → is_none (standard_width r.field) ≡ false → has_name left_out_fields r.field ≡ false → SlotStands ds (option_map_or standard (standard_field r.field) (declared_slot ds r))
standard_there ds r there kept =
    by (bytes_eq r.field (codes "ingress_port")) (bytes_eq r.field (codes "egress_spec")) (bytes_eq r.field (codes "egress_port")) (bytes_eq r.field (codes "packet_length")) (bytes_eq r.field (codes "instance_type")) (has_name left_out_fields r.field) there kept
  where
    by : (a b c d e f : Bool) → is_none {T = ℕ} (cond (a || (b || (c || false))) (Some 9) (cond (d || (e || false)) (Some 32) (cond f (Some 0) None))) ≡ false → f ≡ false
        → SlotStands ds (option_map_or standard (cond a (Some IngressPort) (cond b (Some EgressSpec) (cond c (Some EgressPort) (cond d (Some PacketLength) (cond e (Some InstanceType) None))))) (declared_slot ds r))
    by true b c d e f there kept = tt
    by false true c d e f there kept = tt
    by false false true d e f there kept = tt
    by false false false true e f there kept = tt
    by false false false false true f there kept = tt
    by false false false false false true there kept = absurd (cc kept)
    by false false false false false false there kept = absurd (cc there)

module _ (ds : List Decl) (none : BreaksNone ds program_rules) where
  -- a field of an instance that isn't misplaced
  pub placed_stands : (r : Ref) → IsFound ds r.instance.name r.field → is_bad_instance ds r.instance ≡ false → SlotStands ds (declared_slot ds r)
  placed_stands r is right = record {
    instance = is.instance;
    numbered_so = numbered_so ds r.instance.name is.instance is.is;
    element = within_stack ds (stacks_right ds none) r.instance is.instance is.is right;
    field =
        subst (λ (o : Option Decl). field_number ds r.instance.name r.field < length (option_map_or (widths_in ds) o [])) (numbered_so ds r.instance.name is.instance is.is)
        (subst (λ widths. field_number ds r.instance.name r.field < length widths) (sym (widths_named ds r.instance.name)) is.within);
  }

  -- a field that the text uses
  pub field_stands : (r : Ref) → Has (uses ds) (of_field r) → SlotStands ds (slot_of ds r)
  field_stands r used =
      by (is_standard r.instance.name) (none_passes (is_unknown ds) (uses ds) (of_field r) (neither (list_any (is_unknown ds) (uses ds)) _ (none_unknown ds none)).0 used)
      (neither (is_last r.instance) (is_unsupported_standard r) (none_passes is_unsupported_use (uses ds) (of_field r) (neither _ _ (neither (list_any declares_unsupported ds) _ (all_supported ds none)).1).0 used)).1
    where
      by : (b : Bool) → is_none (cond b (standard_width r.field) (option_and_then (λ t. width_in t r.field) (instance_type ds r.instance.name))) ≡ false → b && has_name left_out_fields r.field ≡ false → SlotStands ds (cond b (option_map_or standard (standard_field r.field) (declared_slot ds r)) (declared_slot ds r))
      by true there kept = standard_there ds r there kept
      by false there kept =
          placed_stands r (found ds r.instance.name r.field there) (none_passes (is_misplaced ds) (uses ds) (of_field r) (neither (list_any declares_bad_size ds) _ (stacks_right ds none)).1 used)

  -- arguments

  target_stands : (a : Argument) → IsFieldOfText ds a → IsJudged ds place.Target a → TargetStands ds (target_in ds a)
  target_stands (field_argument r) used right = record {
    slot = field_stands r used;
    fits = target_fits ds r;
    writable = target_writable ds none (field_argument r) right.written;
  }
  target_stands (number_argument n) used right = absurd (cc right.takes_it)
  target_stands (parameter_argument n) used right = absurd (cc (right.written refl).1)
  target_stands (name_argument i) used right = absurd (by (is_none i.index) right.takes_it) where
    by : (b : Bool) → b && false ≡ true → ⊥
    by true e = absurd (cc e)
    by false e = absurd (cc e)

  source_stands : (count : ℕ) (a : Argument) → IsBelow count a → IsFieldOfText ds a → SourceStands ds count (source_of ds a)
  source_stands count (number_argument n) below used = tt
  source_stands count (field_argument r) below used = field_stands r used
  source_stands count (parameter_argument n) below used = below
  source_stands count (name_argument i) below used = tt

  header_stands : (a : Argument) → IsJudged ds place.Header a → HeaderStands ds (element_in ds a)
  header_stands a right =
      let h = header_argument ds (stacks_right ds none) a right in
      subst (λ (b : Argument). HeaderStands ds (element_in ds b)) (sym h.is) (record { header = h.header; numbered_so = numbered_so ds h.inst.name (decl.Header h.header) h.declared; element = h.within })

  stack_stands : (a : Argument) → IsJudged ds place.Stack a → StackStands ds (instance_number ds (name_in_argument a))
  stack_stands a right =
      let s = stack_argument ds (stacks_right ds none) a right in
      let size = sized s.header.size (ap (λ (o : Option Decl). is_some (option_and_then size_in o)) (sym s.declared) ∙ s.sized) in
      subst (λ (b : Argument). StackStands ds (instance_number ds (name_in_argument b))) (sym s.is)
      (record { header = s.header; size = size.0; numbered_so = numbered_so ds s.inst.name (decl.Header s.header) s.declared; is_stack = size.1 })
    where
      sized : (o : Option Literal) → is_some o ≡ true → (n : Literal) × (o ≡ Some n)
      sized None e = absurd (cc e)
      sized (Some n) e = (n, refl)

  copy_stands : (a b : Argument) → IsJudged ds place.Header a → IsJudged ds place.Header b → differ (flat_map (type_names ds) (a ∷ b ∷ [])) ≡ false → CopyStands ds (element_in ds a) (element_in ds b)
  copy_stands a b right from same =
      let h = header_argument ds (stacks_right ds none) a right in
      let k = header_argument ds (stacks_right ds none) b from in
      let pair : (a, b) ≡ (name_argument h.inst, name_argument k.inst) = cc (h.is, k.is) in
      subst (λ (p : Argument × Argument). CopyStands ds (element_in ds p.0) (element_in ds p.1)) (sym pair) (record {
        to = record { header = h.header; numbered_so = numbered_so ds h.inst.name (decl.Header h.header) h.declared; element = h.within };
        source = record { header = k.header; numbered_so = numbered_so ds k.inst.name (decl.Header k.header) k.declared; element = k.within };
        same = same_type ds (stacks_right ds none) h.inst k.inst h.header k.header h.declared k.declared (subst (λ (p : Argument × Argument). differ (flat_map (type_names ds) (p.0 ∷ p.1 ∷ [])) ≡ false) pair same);
      })

  list_fits : (i : Invocation) (n : ℕ) → IfSome (list_at ds i n) (λ l. l < length (lists ds))
  list_fits i n = by (slice_get i.arguments n) refl where
    by : (o : Option Argument) → slice_get i.arguments n ≡ o → IfSome (list_at ds i n) (λ l. l < length (lists ds))
    by None e = rw e tt
    by (Some (name_argument l)) e = rw e (list_within ds l.name)
    by (Some (number_argument k)) e = rw e tt
    by (Some (field_argument r)) e = rw e tt
    by (Some (parameter_argument k)) e = rw e tt

  -- a name in a place where nothing else is taken
  named_there : (p : ArgumentPlace) → is_read p ≡ false → ((n : Number) → takes_number p n ≡ false) → takes_field p ≡ false → (a : Argument) → IsJudged ds p a → (i : Inst) × (a ≡ name_argument i) × (takes_name ds p i ≡ true)
  named_there p unread none_number no_field (number_argument n) right = absurd (cc (right.takes_it, none_number n))
  named_there p unread none_number no_field (field_argument r) right = absurd (cc (right.takes_it, no_field))
  named_there p unread none_number no_field (parameter_argument n) right = absurd (cc (right.written unread).1)
  named_there p unread none_number no_field (name_argument i) right = (i, refl, right.takes_it)

  counter_stands : (a : Argument) → IsJudged ds place.Counter a → ObjectStands ds is_indirect_counter (object_number ds (name_in_argument a))
  counter_stands a right =
      let n = named_there place.Counter refl (λ n. refl) refl a right in
      record { name = name_in_argument a; is_number = refl; is_one = ap (λ (b : Argument). is_object is_indirect_counter ds (name_in_argument b)) n.1 ∙ both (is_none n.0.index) _ n.2 }

  register_stands : (a : Argument) → IsJudged ds place.Register a → ObjectStands ds is_register (object_number ds (name_in_argument a))
  register_stands a right =
      let n = named_there place.Register refl (λ n. refl) refl a right in
      record { name = name_in_argument a; is_number = refl; is_one = ap (λ (b : Argument). is_object is_register ds (name_in_argument b)) n.1 ∙ both (is_none n.0.index) _ n.2 }

  meter_stands : (a : Argument) → IsJudged ds place.Meter a → ObjectStands ds is_meter (object_number ds (name_in_argument a))
  meter_stands a right =
      let n = named_there place.Meter refl (λ n. refl) refl a right in
      record { name = name_in_argument a; is_number = refl; is_one = ap (λ (b : Argument). is_object is_meter ds (name_in_argument b)) n.1 ∙ both (is_none n.0.index) _ n.2 }

  calculation_stands : (x : Expanded) (a : Argument) → IsJudged ds place.Calculation a → CalculationStands ds x (calculation_named ds x (name_in_argument a))
  calculation_stands x a right =
      let n = named_there place.Calculation refl (λ n. refl) refl a right in
      record { name = name_in_argument a; is = refl; is_there = ap (λ (b : Argument). is_declared sort.Calculation ds (name_in_argument b)) n.1 ∙ both (is_none n.0.index) _ n.2 }

  -- a primitive of an action with so many parameters

  module _ (x : Expanded) (count : ℕ) (i : Invocation) (of : IsPrimitiveOf ds count i) (right : is_wrong_call ds i ≡ false) where
    choose : (p q : Primitive) (b : Bool) → (b ≡ true → PrimitiveStands ds x count p) → PrimitiveStands ds x count q → PrimitiveStands ds x count (cond b p q)
    choose p q true this other = this refl
    choose p q false this other = other

    skip : (p q : Primitive) (b : Bool) → PrimitiveStands ds x count p → PrimitiveStands ds x count q → PrimitiveStands ds x count (cond b p q)
    skip p q true this other = this
    skip p q false this other = other

    abbrev is : Name → Bool
    is name = bytes_eq i.callee name

    at : (name : Name) (ps : List ArgumentPlace) (k : ℕ) (p : ArgumentPlace) → places_of name ≡ Some ps → slice_get ps k ≡ Some p → nat_lt (k + optional_count name) (length ps) ≡ true → is name ≡ true → IsJudged ds p (argument_at i k)
    at name ps k p places wants there e = judged ds (parameters_right ds none) i of.of_text right name ps k p places wants there e

    -- an argument that is left out counts as the number 0
    there : (k : ℕ) → IsBelow count (argument_at i k) × IsFieldOfText ds (argument_at i k)
    there k = ⊎_elim (λ lt.
        let h = has_at i.arguments k (argument_at i k) (slice_get-get_or i.arguments k _ lt) in
        (has_each (IsBelow count) i.arguments (argument_at i k) of.below h, has_each (IsFieldOfText ds) i.arguments (argument_at i k) of.fields h)) (λ past.
        subst (λ (a : Argument). IsBelow count a × IsFieldOfText ds a) (sym (get_or_past i.arguments k _ past)) (tt, tt)) (cases_lt k (length i.arguments))

    from : (k : ℕ) → SourceStands ds count (source ds i k)
    from k = source_stands count (argument_at i k) (there k).0 (there k).1

    to : (name : Name) (ps : List ArgumentPlace) (k : ℕ) → places_of name ≡ Some ps → slice_get ps k ≡ Some place.Target → nat_lt (k + optional_count name) (length ps) ≡ true → is name ≡ true → TargetStands ds (target ds i k)
    to name ps k places wants there_is e = target_stands (argument_at i k) (there k).1 (at name ps k place.Target places wants there_is e)

    pub primitive_stands : PrimitiveStands ds x count (primitive_of ds x i)
    primitive_stands =
        choose _ _ (is (codes "modify_field")) (λ e. skip _ _ (length i.arguments == 3) (to (codes "modify_field") _ 0 refl refl refl e, (from 1, from 2)) (to (codes "modify_field") _ 0 refl refl refl e, from 1))
        (choose _ _ (is (codes "add")) (λ e. (to (codes "add") _ 0 refl refl refl e, (from 1, from 2)))
        (choose _ _ (is (codes "subtract")) (λ e. (to (codes "subtract") _ 0 refl refl refl e, (from 1, from 2)))
        (choose _ _ (is (codes "add_to_field")) (λ e. let t = to (codes "add_to_field") _ 0 refl refl refl e in (t, (t.slot, from 1)))
        (choose _ _ (is (codes "subtract_from_field")) (λ e. let t = to (codes "subtract_from_field") _ 0 refl refl refl e in (t, (t.slot, from 1)))
        (choose _ _ (is (codes "bit_and")) (λ e. (to (codes "bit_and") _ 0 refl refl refl e, (from 1, from 2)))
        (choose _ _ (is (codes "bit_or")) (λ e. (to (codes "bit_or") _ 0 refl refl refl e, (from 1, from 2)))
        (choose _ _ (is (codes "bit_xor")) (λ e. (to (codes "bit_xor") _ 0 refl refl refl e, (from 1, from 2)))
        (choose _ _ (is (codes "shift_left")) (λ e. (to (codes "shift_left") _ 0 refl refl refl e, (from 1, from 2)))
        (choose _ _ (is (codes "shift_right")) (λ e. (to (codes "shift_right") _ 0 refl refl refl e, (from 1, from 2)))
        (choose _ _ (is (codes "add_header")) (λ e. header_stands (argument_at i 0) (at (codes "add_header") _ 0 _ refl refl refl e))
        (choose _ _ (is (codes "remove_header")) (λ e. header_stands (argument_at i 0) (at (codes "remove_header") _ 0 _ refl refl refl e))
        (choose _ _ (is (codes "copy_header")) (λ e. copy_stands (argument_at i 0) (argument_at i 1) (at (codes "copy_header") _ 0 _ refl refl refl e) (at (codes "copy_header") _ 1 _ refl refl refl e) (alike ds i right e))
        (choose _ _ (is (codes "push")) (λ e. stack_stands (argument_at i 0) (at (codes "push") _ 0 _ refl refl refl e))
        (choose _ _ (is (codes "pop")) (λ e. stack_stands (argument_at i 0) (at (codes "pop") _ 0 _ refl refl refl e))
        (choose _ _ (is (codes "count")) (λ e. (counter_stands (argument_at i 0) (at (codes "count") _ 0 _ refl refl refl e), from 1))
        (choose _ _ (is (codes "register_read")) (λ e. (to (codes "register_read") _ 0 refl refl refl e, (register_stands (argument_at i 1) (at (codes "register_read") _ 1 _ refl refl refl e), from 2)))
        (choose _ _ (is (codes "register_write")) (λ e. (register_stands (argument_at i 0) (at (codes "register_write") _ 0 _ refl refl refl e), from 1, from 2))
        (choose _ _ (is (codes "execute_meter")) (λ e. (meter_stands (argument_at i 0) (at (codes "execute_meter") _ 0 _ refl refl refl e), from 1, to (codes "execute_meter") _ 2 refl refl refl e))
        (choose _ _ (is hash) (λ e. (to hash _ 0 refl refl refl e, (from 1, calculation_stands x (argument_at i 2) (at hash _ 2 _ refl refl refl e), from 3)))
        (skip _ _ (is (codes "drop")) (record { slot = tt; fits = λ n lt. lt; writable = tt }, tt)
        (skip _ _ (is (codes "resubmit")) (tt, list_fits i 0)
        (skip _ _ (is (codes "recirculate")) (tt, list_fits i 0)
        (skip _ _ (is (codes "clone_ingress_pkt_to_egress")) (from 0, list_fits i 1)
        (skip _ _ (is (codes "clone_i2e")) (from 0, list_fits i 1)
        (skip _ _ (is (codes "clone_egress_pkt_to_egress")) (from 0, list_fits i 1)
        (skip _ _ (is (codes "clone_e2e")) (from 0, list_fits i 1) tt))))))))))))))))))))))))))

  -- each primitive that an action comes to names what is there
  pub accepted_stands : (x : Expanded) (is : IsExpanded ds x) (n : ℕ) (lt : n < length (actions ds)) → AllByRecursion (λ i. PrimitiveStands ds x (length (is.each_action n lt).action.parameters) (primitive_of ds x i)) (primitives_at x n)
  accepted_stands x is n lt = each_has _ (primitives_at x n) (λ i h.
      primitive_stands x (length (is.each_action n lt).action.parameters) i (has_each _ (primitives_at x n) i (accepted_primitives ds none x is n lt) h) (accepted_calls ds none x is n lt i h))
