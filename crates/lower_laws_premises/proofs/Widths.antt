-- The parameters of an action have 1 to 128 bits: what a use asks is 32, the bits of a register or of a field that is written (C3),
-- or the width of another action's parameter.
use Rattle.std.proofs.Common.{◌≡◌, inl, ℕ, zero, suc, ◌+◌, Bool, true, false, cond, ◌&&◌, not, Option, Some, None, List, [], ◌∷◌, length, slice_get, refl, sym, ap, ◌∙◌, subst, arith}
use Rattle.std.specs.Prelude.{codes, is_some, is_none, unwrap_or, flat_map, filter_map, option_map, option_and_then}
use Rattle.std.specs.List.{AllByRecursion}
use Rattle.std.specs.Option.{option_map_or}
use Rattle.std.specs.Str.{bytes_eq}
use Rattle.p414_syntax.specs.declared.actions.Action.{Action}
use Rattle.p414_syntax.specs.declared.actions.Arg.{Arg}
use Rattle.p414_syntax.specs.declared.actions.Arg.TheVariants as arg
use Rattle.p414_syntax.specs.declared.parts.Ref.{Ref}
use Rattle.p414_syntax.specs.declared.syntax.Decl.{Decl}
use Rattle.p414_syntax.specs.declared.syntax.Decl.TheVariants as decl
use Rattle.p414_syntax.specs.declared.syntax.Sort.TheVariants as sort
use Rattle.p414_syntax.specs.declared.place.ArgumentPlace.{ArgumentPlace}
use Rattle.p414_syntax.specs.declared.place.ArgumentPlace.TheVariants as place
use Rattle.p414_syntax.specs.Names.{Name, has_name, find_name, declaration_of}
use Rattle.p414_syntax.specs.Primitives.{places_of}
use Rattle.p414_syntax.specs.Breaks.{BreaksNone, program_rules}
use Rattle.p414_syntax.specs.Cells.{literal_value}
use Rattle.p414_syntax.specs.Arguments.{Argument, number_argument, field_argument, parameter_argument, name_argument, Invocation, PlacedArgument, parameter_or_name, argument_of, invocation_of, invocations_of, actions, action_number, action_of, all_invocations, placed_argument, placed, placed_in, placed_arguments, wanted_by, wanted_of}
use Rattle.p414_syntax.specs.Calls.{is_register, is_object, takes, is_wrong_call}
use Rattle.p414_syntax.specs.Parameters.{is_parameter, is_read, is_misused_parameter}
use Rattle.p414_syntax.specs.Uses.{of_field, uses}
use Rattle.p414_sem.specs.Slots.{slot_of, bits_of_ref}
use Rattle.p414_sem.specs.Signatures.{indexed, target_bits, register_in, register_width, register_bits, first_of, is_unsigned, bits_asked, is_use_of, greatest, use_width, use_widths, calls_of, width_within, widths_from, parameter_widths}
use Rattle.lower_laws_states.specs.Expansions.{Has}
use Rattle.lower_laws_states.proofs.Members.{none_passes, each_has, has_each, has_at, has_joined, joined_has, mapped_has, same_name}
use Rattle.lower_laws_states.proofs.Rules.{none_twice, calls_right, parameters_right}
use Rattle.lower_laws_states.proofs.Standing.{field_stands}
use Rattle.lower_laws_states.proofs.Used.{field_used}
use Rattle.lower_laws_states.proofs.Widths.{slot_wide}
use Rattle.lower_laws_states.proofs.Written.{taken}
use Rattle.lower_laws_states.proofs.Placed.{both}
use Rattle.lower_laws_rules.specs.Acting.{IsWidth}
use Rattle.lower_laws_premises.specs.Literals.{IsSpelt}
use Rattle.lower_laws_premises.proofs.Bits.{bits_stand}
use Rattle.lower_laws_premises.proofs.Registers.{register_wide, declared_at}
use Rattle.lower_laws_premises.proofs.Parameters.{greatest_wide, uses_wide, Takes, to_target, to_register, to_index, to_nothing, IsTaking, taking}

field_written : (parameters : List Name) (x : Arg) (r : Ref) → argument_of parameters x ≡ field_argument r → x ≡ arg.Field r
field_written parameters (arg.Field s) r e = ap arg.Field (cc e)
field_written parameters (arg.Number m) r e = absurd (cc e)
field_written parameters (arg.Instance i) r e = absurd (by (is_some i.index) (find_name parameters i.name) e) where
  by : (b : Bool) (o : Option ℕ) → cond b (name_argument i) (parameter_or_name o i) ≡ field_argument r → ⊥
  by true o e = cc e
  by false None e = cc e
  by false (Some k) e = cc e

-- the place of an argument
its_place : (ps : List ArgumentPlace) (xs : List Argument) (k : ℕ) (a : PlacedArgument) → slice_get (placed ps xs) k ≡ Some a → slice_get ps k ≡ Some a.wanted
its_place [] xs k a e = absurd (cc e)
its_place (p ∷ ps) [] k a e = absurd (cc e)
its_place (p ∷ ps) (x ∷ xs) zero a e = ap (λ (o : Option PlacedArgument). option_map (λ (b : PlacedArgument). b.wanted) o) e
its_place (p ∷ ps) (x ∷ xs) (suc k) a e = its_place ps xs k a e

use_is_parameter : (p : ℕ) (a : Argument) → is_use_of p a ≡ true → is_parameter a ≡ true
use_is_parameter p (parameter_argument n) e = refl
use_is_parameter p (number_argument n) e = absurd (cc e)
use_is_parameter p (field_argument r) e = absurd (cc e)
use_is_parameter p (name_argument i) e = absurd (cc e)

of_both : (a b : Bool) → a && not b ≡ false → a ≡ true → b ≡ true
of_both true true e f = refl
of_both true false e f = absurd (cc e)
of_both false b e f = absurd (cc f)

module _ (ds : List Decl) (none : BreaksNone ds program_rules) (spelt : IsSpelt ds) where
  text_field : (i : Invocation) → Has (all_invocations ds) i → (r : Ref) → Has i.arguments (field_argument r) → Has (uses ds) (of_field r)
  text_field i h r there =
      let a = joined_has invocations_of (actions ds) i h in
      let c = mapped_has (invocation_of a.0.parameters) a.0.calls i a.2 in
      let x = mapped_has (argument_of a.0.parameters) c.0.arguments (field_argument r) (subst (λ (j : Invocation). Has j.arguments (field_argument r)) (sym c.2) there) in
      field_used ds a.0 a.1 c.0 c.1 r (subst (Has c.0.arguments) (field_written a.0.parameters x.0 r x.2) x.1)

  field_wide : (r : Ref) → Has (uses ds) (of_field r) → IsWidth (bits_of_ref ds r)
  field_wide r used =
      let stands = field_stands ds none r used in
      let w = slot_wide ds none (slot_of ds r) stands in
      subst IsWidth (sym (bits_stand ds (none_twice ds none) r stands)) (w.0, w.1)

  -- the field that a call writes
  target_wide : (i : Invocation) → Has (all_invocations ds) i → (rest : List ArgumentPlace) (xs : List Argument) → ((r : Ref) → Has xs (field_argument r) → Has i.arguments (field_argument r)) → AllByRecursion (λ a. takes ds a.wanted a.argument ≡ true) (placed (place.Target ∷ rest) xs) → ((a : PlacedArgument) → Has (placed (place.Target ∷ rest) xs) a → is_misused_parameter a ≡ false) → (k : ℕ) (a : PlacedArgument) → slice_get (placed (place.Target ∷ rest) xs) k ≡ Some a → IsWidth (first_of (filter_map (target_bits ds) (placed (place.Target ∷ rest) xs)))
  target_wide i h rest [] its each right k a e = absurd (cc e)
  target_wide i h rest (field_argument r ∷ xs) its each right k a e = field_wide r (text_field i h r (its r (inl refl)))
  target_wide i h rest (number_argument n ∷ xs) its each right k a e = absurd (cc each.0)
  target_wide i h rest (parameter_argument n ∷ xs) its each right k a e = absurd (cc (right (placed_argument place.Target (parameter_argument n)) (inl refl)))
  target_wide i h rest (name_argument j ∷ xs) its each right k a e = absurd (cc (both (is_none j.index) _ each.0))

  -- the register that a call writes
  object_wide : (name : Name) → is_object is_register ds name ≡ true → IsWidth (register_width ds name)
  object_wide name e = by (declaration_of sort.Object ds name) refl e where
    by : (o : Option Decl) → declaration_of sort.Object ds name ≡ o → option_map_or is_register o false ≡ true → IsWidth (option_map_or literal_value (option_and_then register_in o) 0)
    by (Some (decl.Register s)) f e = register_wide ds none spelt s (declared_at ds none spelt name (decl.Register s) f)
    by (Some _) f e = absurd (cc e)
    by None f e = absurd (cc e)

  written_wide : (rest : List ArgumentPlace) (xs : List Argument) → AllByRecursion (λ a. takes ds a.wanted a.argument ≡ true) (placed (place.Register ∷ rest) xs) → ((a : PlacedArgument) → Has (placed (place.Register ∷ rest) xs) a → is_misused_parameter a ≡ false) → (k : ℕ) (a : PlacedArgument) → slice_get (placed (place.Register ∷ rest) xs) k ≡ Some a → IsWidth (first_of (filter_map (register_bits ds) (placed (place.Register ∷ rest) xs)))
  written_wide rest [] each right k a e = absurd (cc e)
  written_wide rest (name_argument j ∷ xs) each right k a e = object_wide j.name (both (is_none j.index) _ each.0)
  written_wide rest (number_argument n ∷ xs) each right k a e = absurd (cc each.0)
  written_wide rest (field_argument r ∷ xs) each right k a e = absurd (cc each.0)
  written_wide rest (parameter_argument n ∷ xs) each right k a e = absurd (cc (right (placed_argument place.Register (parameter_argument n)) (inl refl)))

  -- what a primitive of the text asks of a source
  module _ (i : Invocation) (h : Has (all_invocations ds) i) (ps : List ArgumentPlace) (places : places_of i.callee ≡ Some ps) (k : ℕ) (a : PlacedArgument) (at : slice_get (placed_in ds i) k ≡ Some a) (read : is_read a.wanted ≡ true) where
    wanted : wanted_of ds i.callee ≡ Some ps
    wanted = ap (λ (o : Option (List ArgumentPlace)). wanted_by o (action_of ds i.callee)) places

    placed_so : placed_in ds i ≡ placed ps i.arguments
    placed_so = ap (λ (o : Option (List ArgumentPlace)). placed (unwrap_or o []) i.arguments) wanted

    each : AllByRecursion (λ a. takes ds a.wanted a.argument ≡ true) (placed ps i.arguments)
    each = (taken ds i ps wanted (none_passes (is_wrong_call ds) (all_invocations ds) i (calls_right ds none) h)).each

    right : (b : PlacedArgument) → Has (placed ps i.arguments) b → is_misused_parameter b ≡ false
    right b there = none_passes is_misused_parameter (placed_arguments ds) b (parameters_right ds none) (has_joined (placed_in ds) (all_invocations ds) i b h (subst (λ (l : List PlacedArgument). Has l b) (sym placed_so) there))

    at_place : slice_get (placed ps i.arguments) k ≡ Some a
    at_place = subst (λ (l : List PlacedArgument). slice_get l k ≡ Some a) placed_so at

    -- by the first place
    to_field : (qs rest : List ArgumentPlace) → qs ≡ ps → qs ≡ place.Target ∷ rest → IsWidth (first_of (filter_map (target_bits ds) (placed_in ds i)))
    to_field qs rest same is =
        let all : ps ≡ place.Target ∷ rest = sym same ∙ is in
        subst (λ (l : List PlacedArgument). IsWidth (first_of (filter_map (target_bits ds) l))) (sym (placed_so ∙ ap (λ (l : List ArgumentPlace). placed l i.arguments) all))
        (target_wide i h rest i.arguments (λ r there. there) (subst (λ (l : List ArgumentPlace). AllByRecursion (λ a. takes ds a.wanted a.argument ≡ true) (placed l i.arguments)) all each)
        (λ b there. right b (subst (λ (l : List ArgumentPlace). Has (placed l i.arguments) b) (sym all) there)) k a (subst (λ (l : List ArgumentPlace). slice_get (placed l i.arguments) k ≡ Some a) all at_place))

    to_cell : bytes_eq i.callee (codes "register_write") ≡ true → IsWidth (first_of (filter_map (register_bits ds) (placed_in ds i)))
    to_cell e =
        let own : Some ps ≡ Some (place.Register ∷ place.Unsigned ∷ place.Source ∷ []) = sym places ∙ ap places_of (same_name i.callee (codes "register_write") e) in
        let all : ps ≡ place.Register ∷ place.Unsigned ∷ place.Source ∷ [] = cc own in
        subst (λ (l : List PlacedArgument). IsWidth (first_of (filter_map (register_bits ds) l))) (sym (placed_so ∙ ap (λ (l : List ArgumentPlace). placed l i.arguments) all))
        (written_wide (place.Unsigned ∷ place.Source ∷ []) i.arguments (subst (λ (l : List ArgumentPlace). AllByRecursion (λ a. takes ds a.wanted a.argument ≡ true) (placed l i.arguments)) all each)
        (λ b there. right b (subst (λ (l : List ArgumentPlace). Has (placed l i.arguments) b) (sym all) there)) k a (subst (λ (l : List ArgumentPlace). slice_get (placed l i.arguments) k ≡ Some a) all at_place))

    joined : (a b : Bool) → a ≡ true → b ≡ true → a && b ≡ true
    joined true b e f = f
    joined false b e f = absurd (cc e)

    asked_wide : IsWidth (bits_asked ds i a.wanted)
    asked_wide = by (is_unsigned a.wanted && has_name indexed i.callee) (bytes_eq i.callee (codes "register_write")) refl refl where
      of : Takes i.callee ps → is_unsigned a.wanted && has_name indexed i.callee ≡ false → bytes_eq i.callee (codes "register_write") ≡ false → IsWidth (first_of (filter_map (target_bits ds) (placed_in ds i)))
      of (to_target rest is) e f = to_field ps rest refl is
      of (to_register is) e f = absurd (cc (is, f))
      of (to_index is indexes) e f = absurd (cc (e, joined (is_unsigned a.wanted) (has_name indexed i.callee) (indexes k a.wanted (its_place ps i.arguments k a at_place) read) is))
      of (to_nothing unread) e f = absurd (cc (read, unread k a.wanted (its_place ps i.arguments k a at_place)))

      by : (b d : Bool) → is_unsigned a.wanted && has_name indexed i.callee ≡ b → bytes_eq i.callee (codes "register_write") ≡ d → IsWidth (cond b 32 (cond d (first_of (filter_map (register_bits ds) (placed_in ds i))) (first_of (filter_map (target_bits ds) (placed_in ds i)))))
      by true d e f = (omega arith, omega arith)
      by false true e f = to_cell f
      by false false e f = of (subst (IsTaking i.callee) places (taking i.callee)) e f

  -- a use of a parameter in the text
  use_wide : (inner : ℕ → ℕ → ℕ) → ((callee k : ℕ) → IsWidth (inner callee k)) → (i : Invocation) → Has (all_invocations ds) i → (k p : ℕ) (a : PlacedArgument) → slice_get (placed_in ds i) k ≡ Some a → is_use_of p a.argument ≡ true → IsWidth (use_width ds inner i (action_number ds i.callee) k)
  use_wide inner wide i h k p a at used = by (action_number ds i.callee) refl where
    read : is_read a.wanted ≡ true
    read = of_both (is_parameter a.argument) (is_read a.wanted) (none_passes is_misused_parameter (placed_arguments ds) a (parameters_right ds none) (has_joined (placed_in ds) (all_invocations ds) i a h (has_at (placed_in ds i) k a at))) (use_is_parameter p a.argument used)

    of : action_number ds i.callee ≡ None → (o : Option (List ArgumentPlace)) → places_of i.callee ≡ o → IsWidth (bits_asked ds i a.wanted)
    of e (Some ps) f = asked_wide i h ps f k a at read
    of e None f = absurd (cc (at, ap (λ (o : Option (List ArgumentPlace)). slice_get (placed (unwrap_or o []) i.arguments) k) (ap (λ (o : Option (List ArgumentPlace)). wanted_by o (action_of ds i.callee)) f ∙ ap (λ (o : Option ℕ). wanted_by None (option_and_then (slice_get (actions ds)) o)) e)))

    by : (o : Option ℕ) → action_number ds i.callee ≡ o → IsWidth (use_width ds inner i o k)
    by (Some callee) e = wide callee k
    by None e = subst (λ (o : Option PlacedArgument). IsWidth (bits_asked ds i (option_map_or (λ (b : PlacedArgument). b.wanted) o place.Source))) (sym at) (of e (places_of i.callee) refl)

  called_has : (action : ℕ) (i : Invocation) → Has (calls_of ds action) i → Has (all_invocations ds) i
  called_has action i h = by (slice_get (actions ds) action) refl h where
    by : (o : Option Action) → slice_get (actions ds) action ≡ o → Has (option_map_or invocations_of o []) i → Has (all_invocations ds) i
    by None e h = absurd h
    by (Some a) e h = has_joined invocations_of (actions ds) a i (has_at (actions ds) action a e) h

  -- a parameter
  pub parameter_wide : (calls action p : ℕ) → IsWidth (width_within ds calls action p)
  parameter_wide zero action p = (omega arith, omega arith)
  parameter_wide (suc calls) action p = by (λ callee k. parameter_wide calls callee k) where
    by : ((callee k : ℕ) → IsWidth (width_within ds calls callee k)) → IsWidth (greatest (flat_map (use_widths ds (width_within ds calls) p) (calls_of ds action)))
    by wide = greatest_wide _ (each_has IsWidth (flat_map (use_widths ds (width_within ds calls) p) (calls_of ds action)) (λ n there.
        let call = joined_has (use_widths ds (width_within ds calls) p) (calls_of ds action) n there in
        has_each IsWidth (use_widths ds (width_within ds calls) p call.0) n
        (uses_wide (use_width ds (width_within ds calls) call.0 (action_number ds call.0.callee)) p (placed_in ds call.0) 0 (λ j a at used. subst (λ m. IsWidth (use_width ds (width_within ds calls) call.0 (action_number ds call.0.callee) m)) (from_zero j) (use_wide (width_within ds calls) wide call.0 (called_has action call.0 call.1) j p a at used))) call.2)) where
          from_zero : (j : ℕ) → j ≡ 0 + j
          from_zero j = omega arith

  some_wide : (action p : ℕ) (names : List Name) → AllByRecursion IsWidth (widths_from ds action p names)
  some_wide action p [] = tt
  some_wide action p (name ∷ names) = (parameter_wide (length (actions ds)) action p, some_wide action (p + 1) names)

  -- all parameters of an action
  pub parameters_wide : (action : ℕ) → AllByRecursion IsWidth (parameter_widths ds action)
  parameters_wide action = by (slice_get (actions ds) action) where
    by : (o : Option Action) → AllByRecursion IsWidth (option_map_or (λ (a : Action). widths_from ds action 0 a.parameters) o [])
    by None = tt
    by (Some a) = some_wide action 0 a.parameters

-- as many widths as parameters

widths_long : (ds : List Decl) (action p : ℕ) (names : List Name) → length (widths_from ds action p names) ≡ length names
widths_long ds action p [] = refl
widths_long ds action p (name ∷ names) = ap suc (widths_long ds action (p + 1) names)

pub parameters_long : (ds : List Decl) (action : ℕ) (a : Action) → slice_get (actions ds) action ≡ Some a → length (parameter_widths ds action) ≡ length a.parameters
parameters_long ds action a e = ap (λ (o : Option Action). length (option_map_or (λ (b : Action). widths_from ds action 0 b.parameters) o [])) e ∙ widths_long ds action 0 a.parameters
