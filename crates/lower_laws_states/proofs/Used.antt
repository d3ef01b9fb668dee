-- A header in an action is a use of one instance, and a field a use of a field, so that C2 and C4 judge them.
use Rattle.std.proofs.Common.{◌≡◌, inl, inr, ℕ, suc, ◌+◌, ◌<◌, not, length, arith, Bool, true, false, cond, ◌||◌, Option, Some, None, List, [], ◌∷◌, map, refl, sym, ap, subst}
use Rattle.std.specs.Prelude.{is_some, unwrap_or}
use Rattle.std.specs.List.{list_any, position_or_len}
use Rattle.std.proofs.lemmas.Bool.{lt-ltb}
use Rattle.std.specs.Str.{bytes_eq}
use Rattle.p414_syntax.specs.declared.actions.Action.{Action}
use Rattle.p414_syntax.specs.declared.actions.Arg.{Arg}
use Rattle.p414_syntax.specs.declared.actions.Arg.TheVariants as arg
use Rattle.p414_syntax.specs.declared.actions.Call.{Call}
use Rattle.p414_syntax.specs.declared.parts.Ref.{Ref}
use Rattle.p414_syntax.specs.declared.parts.Inst.{Inst}
use Rattle.p414_syntax.specs.declared.syntax.Decl.{Decl}
use Rattle.p414_syntax.specs.declared.syntax.Decl.TheVariants as decl
use Rattle.p414_syntax.specs.declared.place.ArgumentPlace.{ArgumentPlace}
use Rattle.p414_syntax.specs.declared.place.ArgumentPlace.TheVariants as place
use Rattle.p414_syntax.specs.Names.{Name, has_name, find_name}
use Rattle.p414_syntax.specs.Primitives.{places_of, is_any_primitive, left_out_primitives, primitive_places}
use Rattle.p414_syntax.specs.Arguments.{Argument, Invocation, PlacedArgument, name_argument, parameter_or_name, argument_of, invocation_of, invocations_of, action_in, actions, action_of, all_invocations, placed_argument, placed, placed_in, placed_arguments, place_of_parameter, wanted_by}
use Rattle.p414_syntax.specs.Uses.{Use, of_instance, of_field, first_place, further_places, uses_of_arg, uses_of_args, uses_of_arguments, uses_of_sources, uses_of_call, uses_of_declared_action, uses_of, uses}
use Rattle.lower_laws_states.specs.Expansions.{Has}
use Rattle.lower_laws_states.proofs.Members.{has_left, has_right, has_joined, joined_has, mapped_has, picked_has}

found_within : {X : Type 0} (p : X → Bool) (xs : List X) → list_any p xs ≡ true → position_or_len p xs < length xs
found_within p [] e = absurd (cc e)
found_within {X} p (y ∷ ys) e = by (p y) e (found_within p ys) where
  by : (b : Bool) → b || list_any p ys ≡ true → (list_any p ys ≡ true → position_or_len p ys < length ys) → cond (not b) (1 + position_or_len p ys) 0 < suc (length ys)
  by true e rest = omega arith
  by false e rest = omega (arith, rest e)

pub none_found : (names : List Name) (name : Name) → find_name names name ≡ None → has_name names name ≡ false
none_found names name e = by (has_name names name) refl where
  by : (b : Bool) → has_name names name ≡ b → b ≡ false
  by true any = absurd (cc (e, ap (λ (b : Bool). cond b (Some (position_or_len (bytes_eq name) names)) None) (lt-ltb _ _ (found_within (bytes_eq name) names any))))
  by false any = refl

-- one argument
arg_used : (parameters : List Name) (a : Arg) (i : Inst) → argument_of parameters a ≡ name_argument i → Has (uses_of_arg (has_name parameters) (Some place.Header) a) (of_instance i)
arg_used parameters (arg.Number n) i e = absurd (cc e)
arg_used parameters (arg.Field r) i e = absurd (cc e)
arg_used parameters (arg.Instance j) i e = by (is_some j.index) (find_name parameters j.name) refl e where
  by : (b : Bool) (o : Option ℕ) → find_name parameters j.name ≡ o → cond b (name_argument j) (parameter_or_name o j) ≡ name_argument i → Has (cond b (of_instance j ∷ []) (cond (has_name parameters j.name) [] (of_instance j ∷ []))) (of_instance i)
  by true o is e = inl (cc e)
  by false None is e = subst (λ (b : Bool). Has (cond b [] (of_instance j ∷ [])) (of_instance i)) (sym (none_found parameters j.name is)) (inl (cc e))
  by false (Some n) is e = absurd (cc e)

args_used : (parameters : List Name) (ps : List ArgumentPlace) (args : List Arg) (i : Inst) → Has (placed ps (map (argument_of parameters) args)) (placed_argument place.Header (name_argument i)) → Has (uses_of_args (has_name parameters) ps args) (of_instance i)
args_used parameters [] args i h = absurd h
args_used parameters (p ∷ ps) [] i h = absurd h
args_used parameters (p ∷ ps) (a ∷ args) i (inl e) =
    has_left _ (uses_of_args (has_name parameters) ps args) (of_instance i)
    (subst (λ (q : ArgumentPlace). Has (uses_of_arg (has_name parameters) (Some q) a) (of_instance i)) (sym (ap (λ (x : PlacedArgument). x.wanted) e)) (arg_used parameters a i (ap (λ (x : PlacedArgument). x.argument) e)))
args_used parameters (p ∷ ps) (a ∷ args) i (inr h) = has_right _ (uses_of_args (has_name parameters) ps args) (of_instance i) (args_used parameters ps args i h)

-- an action wants sources alone
sources_only : (ps : List Name) (xs : List Argument) (i : Inst) → Has (placed (map place_of_parameter ps) xs) (placed_argument place.Header (name_argument i)) → ⊥
sources_only [] xs i h = h
sources_only (p ∷ ps) [] i h = h
sources_only (p ∷ ps) (x ∷ xs) i (inl e) = absurd (cc (ap (λ (y : PlacedArgument). y.wanted) e))
sources_only (p ∷ ps) (x ∷ xs) i (inr h) = sources_only ps xs i h

call_used : (ds : List Decl) (parameters : List Name) (c : Call) (i : Inst) → Has (placed_in ds (invocation_of parameters c)) (placed_argument place.Header (name_argument i)) → Has (uses_of_call (has_name parameters) c) (of_instance i)
call_used ds parameters c i h = inr (by (places_of c.name) refl h) where
  given : List Argument
  given = map (argument_of parameters) c.arguments

  by : (o : Option (List ArgumentPlace)) → places_of c.name ≡ o → Has (placed (unwrap_or (wanted_by o (action_of ds c.name)) []) (map (argument_of parameters) c.arguments)) (placed_argument place.Header (name_argument i)) → Has (uses_of_arguments (has_name parameters) c.name c.arguments) (of_instance i)
  by (Some ps) e h =
      subst (λ (o : Option (List ArgumentPlace)). Has (cond (is_some o || has_name left_out_primitives c.name) (uses_of_args (has_name parameters) (unwrap_or o []) c.arguments) (uses_of_sources (has_name parameters) c.arguments)) (of_instance i)) (sym e)
      (args_used parameters ps c.arguments i h)
  by None e h = absurd (of_action_only (action_of ds c.name) h) where
    of_action_only : (o : Option Action) → Has (placed (unwrap_or (wanted_by None o) []) (map (argument_of parameters) c.arguments)) (placed_argument place.Header (name_argument i)) → ⊥
    of_action_only None h = h
    of_action_only (Some a) h = sources_only a.parameters (map (argument_of parameters) c.arguments) i h

-- a field in whatever place
fields_used : (is_parameter : Name → Bool) (ps : List ArgumentPlace) (args : List Arg) (r : Ref) → Has args (arg.Field r) → Has (uses_of_args is_parameter ps args) (of_field r)
fields_used is_parameter ps [] r h = absurd h
fields_used is_parameter ps (a ∷ args) r (inl e) =
    has_left (uses_of_arg is_parameter (first_place ps) a) _ (of_field r) (subst (λ (x : Arg). Has (uses_of_arg is_parameter (first_place ps) x) (of_field r)) (sym e) (inl refl))
fields_used is_parameter ps (a ∷ args) r (inr h) = has_right (uses_of_arg is_parameter (first_place ps) a) _ (of_field r) (fields_used is_parameter (further_places ps) args r h)

either_used : (b : Bool) (us vs : List Use) (u : Use) → Has us u → Has vs u → Has (cond b us vs) u
either_used true us vs u h k = h
either_used false us vs u h k = k

declared_action : (d : Decl) (a : Action) → action_in d ≡ Some a → d ≡ decl.Action a
declared_action (decl.Action x) a e = ap decl.Action (cc e)
declared_action _ a e = absurd (cc e)

-- a name in the place of a header
pub header_used : (ds : List Decl) (i : Inst) → Has (placed_arguments ds) (placed_argument place.Header (name_argument i)) → Has (uses ds) (of_instance i)
header_used ds i h =
    let call = joined_has (placed_in ds) (all_invocations ds) (placed_argument place.Header (name_argument i)) h in
    let action = joined_has invocations_of (actions ds) call.0 call.1 in
    let text = mapped_has (invocation_of action.0.parameters) action.0.calls call.0 action.2 in
    let declared = picked_has action_in ds action.0 action.1 in
    let used : Has (uses_of_declared_action action.0) (of_instance i) =
    has_joined (uses_of_call (has_name action.0.parameters)) action.0.calls text.0 (of_instance i) text.1
    (call_used ds action.0.parameters text.0 i (subst (λ (j : Invocation). Has (placed_in ds j) (placed_argument place.Header (name_argument i))) (sym text.2) call.2)) in
    has_joined uses_of ds declared.0 (of_instance i) declared.1 (subst (λ (d : Decl). Has (uses_of d) (of_instance i)) (sym (declared_action declared.0 action.0 declared.2)) used)

-- a field in an action
pub field_used : (ds : List Decl) (a : Action) → Has (actions ds) a → (c : Call) → Has a.calls c → (r : Ref) → Has c.arguments (arg.Field r) → Has (uses ds) (of_field r)
field_used ds a declared c called r h =
    let d = picked_has action_in ds a declared in
    let p = has_name a.parameters in
    let used : Has (uses_of_declared_action a) (of_field r) =
    has_joined (uses_of_call p) a.calls c (of_field r) called
    (inr (either_used (is_any_primitive c.name) (uses_of_args p (primitive_places c.name) c.arguments) (uses_of_sources p c.arguments) (of_field r)
    (fields_used p (primitive_places c.name) c.arguments r h)
    (has_joined (uses_of_arg p (Some place.Source)) c.arguments (arg.Field r) (of_field r) h (inl refl)))) in
    has_joined uses_of ds d.0 (of_field r) d.1 (subst (λ (x : Decl). Has (uses_of x) (of_field r)) (sym (declared_action d.0 a d.2)) used)
