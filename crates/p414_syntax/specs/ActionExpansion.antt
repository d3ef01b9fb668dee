-- What the calls of an action come to when calls of actions are expanded (P4_14 1.0.5, "Actions"): its primitives,
-- in order. In the place of a call of an action stand that action's calls, with the arguments in the places of its
-- parameters. The parameters of the outermost action stay.
use Rattle.std.specs.Prelude.{◌≡◌, ℕ, List, [], ◌∷◌, ◌++◌, map, filter_map, slice_get, Option, Some, None, unwrap_or}
use Rattle.std.specs.Option.{option_map_or}
use Rattle.p414_syntax.specs.declared.actions.Action.{Action}
use Rattle.p414_syntax.specs.declared.syntax.Decl.{Decl}
use Rattle.p414_syntax.specs.Arguments.{Argument, parameter_argument, Invocation, invocations_of, actions, action_number, action_of}

-- what an argument within an action stands for, where the action is called with these arguments
abbrev pub given_for : List Argument → Argument → Argument
given_for given (parameter_argument n) = unwrap_or (slice_get given n) (parameter_argument n)
given_for given other = other

abbrev pub invoked_with : List Argument → Invocation → Invocation
invoked_with given i = record { callee = i.callee; arguments = map (given_for given) i.arguments }

-- the calls of an action that is called with these arguments
abbrev pub body_with : List Argument → Action → List Invocation
body_with given a = map (invoked_with given) (invocations_of a)

-- The primitives that calls come to: a primitive by itself, and in the place of an action what its own calls come to.
pub data CallsExpand (ds : List Decl) : List Invocation → List Invocation → Type 0 where
  NoCalls : CallsExpand ds [] []
  OfPrimitive : (i : Invocation) (rest all : List Invocation) → action_of ds i.callee ≡ None
      → CallsExpand ds rest all → CallsExpand ds (i ∷ rest) (i ∷ all)
  OfAction : (i : Invocation) (rest within all : List Invocation) (a : Action) → action_of ds i.callee ≡ Some a
      → CallsExpand ds (body_with i.arguments a) within → CallsExpand ds rest all
      → CallsExpand ds (i ∷ rest) (within ++ all)

-- the action with this number comes to these primitives
pub record ActionExpands (ds : List Decl) (number : ℕ) (all : List Invocation) : Type 0 where
  pub action : Action
  pub numbered : slice_get (actions ds) number ≡ Some action
  pub expands : CallsExpand ds (invocations_of action) all

-- actions as a graph: the actions that an action calls, by their numbers, in order

abbrev pub callee_number : List Decl → Invocation → Option ℕ
callee_number ds i = action_number ds i.callee

abbrev pub called_in : List Decl → Action → List ℕ
called_in ds a = filter_map (callee_number ds) (invocations_of a)

abbrev pub actions_called_by : List Decl → ℕ → List ℕ
actions_called_by ds n = option_map_or (called_in ds) (slice_get (actions ds) n) []
