-- Where the parameters of actions end, when calls of actions are expanded, and what is given for them.
use Rattle.std.specs.Prelude.{◌≡◌, ◌⊎◌, ℕ, Bool, true, false, not, List, [], ◌∷◌, slice_get, Some, None}
use Rattle.p414_syntax.specs.declared.actions.Action.{Action}
use Rattle.p414_syntax.specs.declared.syntax.Decl.{Decl}
use Rattle.p414_syntax.specs.declared.place.ArgumentPlace.{ArgumentPlace}
use Rattle.p414_syntax.specs.Primitives.{primitive_places}
use Rattle.p414_syntax.specs.Arguments.{Argument, number_argument, field_argument, parameter_argument, Invocation, invocations_of, actions, action_number, placed, placed_argument}
use Rattle.p414_syntax.specs.Calls.{takes_number, takes_field}

-- x stands in the list
abbrev pub In : {X : Type 0} → X → List X → Type 0
In x [] = ⊥
In x (y ∷ ys) = (x ≡ y) ⊎ In x ys

-- a place doesn't take this number or field
abbrev pub refuses : ArgumentPlace → Argument → Bool
refuses p (number_argument n) = not (takes_number p n)
refuses p (field_argument r) = not (takes_field p)
refuses p _ = false

-- the parameter m of the action with number n comes to stand at this place of a primitive: it stands there, or is passed on
-- for a parameter that comes to stand there
pub data Ends (ds : List Decl) (p : ArgumentPlace) : ℕ → ℕ → Type 0 where
  Stands : (n m : ℕ) (a : Action) (i : Invocation) → slice_get (actions ds) n ≡ Some a → In i (invocations_of a)
      → action_number ds i.callee ≡ None → In (placed_argument p (parameter_argument m)) (placed (primitive_places i.callee) i.arguments)
      → Ends ds p n m
  Passed : (n m k j : ℕ) (a : Action) (i : Invocation) → slice_get (actions ds) n ≡ Some a → In i (invocations_of a)
      → action_number ds i.callee ≡ Some k → slice_get i.arguments j ≡ Some (parameter_argument m) → Ends ds p k j
      → Ends ds p n m

-- what is given for a parameter that comes to stand at this place isn't taken there
pub record IsRefused (ds : List Decl) (p : ArgumentPlace) : Type 0 where
  pub caller : ℕ
  pub action : Action
  pub call : Invocation
  pub callee : ℕ
  pub position : ℕ
  pub given : Argument
  pub there : slice_get (actions ds) caller ≡ Some action
  pub within : In call (invocations_of action)
  pub calls : action_number ds call.callee ≡ Some callee
  pub passes : slice_get call.arguments position ≡ Some given
  pub ends : Ends ds p callee position
  pub refused : refuses p given ≡ true
