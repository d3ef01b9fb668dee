-- What an action comes to.
use Rattle.std.proofs.Common.{◌≡◌, ℕ, suc, zero, List, [], ◌∷◌, ◌++◌, map, slice_get, Option, Some, None, option_and_then, refl, sym, ap, ◌∙◌, subst}
use Rattle.std.specs.List.{cons_option}
use Rattle.std.specs.Option.{option_map_or}
use Rattle.std.specs.Prelude.{filter_map}
use Rattle.digraph.specs.Graphs.{Among}
use Rattle.p414_syntax.specs.declared.actions.Action.{Action}
use Rattle.p414_syntax.specs.declared.syntax.Decl.{Decl}
use Rattle.p414_syntax.specs.Arguments.{Argument, Invocation, invocations_of, actions, action_number, action_of}
use Rattle.p414_syntax.specs.ActionExpansion.{actions_called_by, body_with, callee_number, called_in, invoked_with, CallsExpand, NoCalls, OfPrimitive, OfAction}
use Rattle.p414_laws.specs.Expansion.{calls_within}
use Rattle.p414_laws.proofs.Depths.{IsDeep}
use Rattle.p414_laws.proofs.Members.{among_first, among_rest}

module _ (ds : List Decl) where
  -- the actions that calls call
  abbrev pub called : List Invocation → List ℕ
  called calls = filter_map (callee_number ds) calls

  called_same : (given : List Argument) (calls : List Invocation) → called (map (invoked_with given) calls) ≡ called calls
  called_same given [] = refl
  called_same given (i ∷ rest) = ap (cons_option (callee_number ds i)) (called_same given rest)

  abbrev pub CallDeep : ℕ → List Invocation → Type 0
  CallDeep levels calls = (n : ℕ) → Among n (called calls) → IsDeep (actions_called_by ds) levels n

  -- calls that call as an action does come to something
  abbrev Comes : ℕ → Type 0
  Comes levels =
      (n : ℕ) (a : Action) (given : List Argument) → IsDeep (actions_called_by ds) levels n → slice_get (actions ds) n ≡ Some a
      → CallsExpand ds (body_with given a) (calls_within ds levels (body_with given a))

  abbrev Found : Invocation → Action → Type 0
  Found i a = (n : ℕ) × (action_number ds i.callee ≡ Some n) × (slice_get (actions ds) n ≡ Some a)

  found_by : (i : Invocation) (a : Action) (o : Option ℕ) → action_number ds i.callee ≡ o → option_and_then (slice_get (actions ds)) o ≡ Some a → Found i a
  found_by i a None is e = absurd (cc e)
  found_by i a (Some n) is e = (n, is, e)

  one_more : (levels : ℕ) (i : Invocation) (rest : List Invocation) (o : Option Action) → action_of ds i.callee ≡ o → Comes levels → CallDeep levels (i ∷ rest)
      → CallsExpand ds rest (calls_within ds (suc levels) rest)
      → CallsExpand ds (i ∷ rest) (option_map_or (λ (a : Action). calls_within ds levels (body_with i.arguments a)) o (i ∷ []) ++ calls_within ds (suc levels) rest)
  one_more levels i rest None is comes deep behind = OfPrimitive i rest (calls_within ds (suc levels) rest) is behind
  one_more levels i rest (Some a) is comes deep behind =
      let f = found_by i a (action_number ds i.callee) refl is in
      OfAction i rest (calls_within ds levels (body_with i.arguments a)) (calls_within ds (suc levels) rest) a is
      (comes f.0 a i.arguments (deep f.0 (among_first f.0 (action_number ds i.callee) (called rest) f.1)) f.2) behind

  all_come : (levels : ℕ) → Comes levels → (calls : List Invocation) → CallDeep levels calls → CallsExpand ds calls (calls_within ds (suc levels) calls)
  all_come levels comes [] deep = NoCalls
  all_come levels comes (i ∷ rest) deep =
      one_more levels i rest (action_of ds i.callee) refl comes deep
      (all_come levels comes rest (λ n h. deep n (among_rest n (action_number ds i.callee) (called rest) h)))

  called_by : (n : ℕ) (a : Action) (given : List Argument) → slice_get (actions ds) n ≡ Some a → actions_called_by ds n ≡ called (body_with given a)
  called_by n a given e =
      ap (λ (o : Option Action). option_map_or (called_in ds) o []) e ∙ sym (called_same given (invocations_of a))

  action_comes : (levels : ℕ) → Comes levels
  action_comes zero n a given deep is = absurd deep
  action_comes (suc levels) n a given deep is =
      all_come levels (action_comes levels) (body_with given a) (λ m h. deep m (subst (Among m) (sym (called_by n a given is)) h))

  pub calls_come : (levels : ℕ) (calls : List Invocation) → CallDeep levels calls → CallsExpand ds calls (calls_within ds (suc levels) calls)
  calls_come levels calls deep = all_come levels (action_comes levels) calls deep
