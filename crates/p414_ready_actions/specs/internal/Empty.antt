-- Actions that come to no primitive.
use Rattle.std.specs.Prelude.{◌≡◌, ℕ, Bool, true, false, List, [], slice_index_or, slice_get, Some}
use Rattle.std.specs.Option.{option_map_or}
use Rattle.p414_syntax.specs.declared.actions.Action.{Action}
use Rattle.p414_syntax.specs.declared.syntax.Decl.{Decl}
use Rattle.p414_syntax.specs.Arguments.{Argument, Invocation, actions, action_number}
use Rattle.p414_syntax.specs.ActionExpansion.{CallsExpand, body_with}

abbrev pub is_marked : List Bool → ℕ → Bool
is_marked marks n = slice_index_or marks n false

-- there is such an action, and it comes to nothing, whatever it is called with
pub record IsEmpty (ds : List Decl) (n : ℕ) : Type 0 where
  pub action : Action
  pub there : slice_get (actions ds) n ≡ Some action
  pub empty : (a : Action) → slice_get (actions ds) n ≡ Some a
      → (given : List Argument) (all : List Invocation) → CallsExpand ds (body_with given a) all → all ≡ []

-- the actions that are marked come to nothing
pub record AreEmpty (ds : List Decl) (marks : List Bool) : Type 0 where
  pub empty : (n : ℕ) → is_marked marks n ≡ true → IsEmpty ds n

-- a call of an action that is marked
abbrev pub is_empty_call : List Decl → List Bool → Invocation → Bool
is_empty_call ds marks i = option_map_or (is_marked marks) (action_number ds i.callee) false
