-- C15: an action calls itself, through others or directly, expands to over 4,096 primitives, or all expansions,
-- counted once for each table that lists the action, come to over 65,536 (P4_14 1.0.5, "Actions"; the limits, and
-- that actions don't call themselves, are this project's own). A hash counts as many as its calculation has items,
-- and at least one. Each declared action is judged, also one that nothing lists; a table that lists an action twice
-- counts it once.
use Rattle.std.specs.Prelude.{◌≡◌, ℕ, ◌+◌, ◌<◌, ◌⊎◌, max, List, [], ◌∷◌, ◌++◌, length, flat_map, Some}
use Rattle.std.specs.Option.{option_map_or}
use Rattle.p414_syntax.specs.declared.calculations.Item.{Item}
use Rattle.p414_syntax.specs.declared.tables.Table.{Table}
use Rattle.p414_syntax.specs.declared.syntax.Decl.{Decl}
use Rattle.p414_syntax.specs.declared.place.ArgumentPlace.{ArgumentPlace}
use Rattle.p414_syntax.specs.declared.place.ArgumentPlace.TheVariants as place
use Rattle.p414_syntax.specs.Names.{Name}
use Rattle.p414_syntax.specs.Walks.{IsCycle}
use Rattle.p414_syntax.specs.Expansion.{Joins}
use Rattle.p414_syntax.specs.Lists.{input_names, calculation_of}
use Rattle.p414_syntax.specs.Distinct.{distinct}
use Rattle.p414_syntax.specs.Arguments.{Argument, name_argument, Invocation, PlacedArgument, action_number, placed_in}
use Rattle.p414_syntax.specs.ActionExpansion.{ActionExpands, actions_called_by}
use Rattle.p414_syntax.specs.Tables.{tables, listed_in}

-- an action calls itself
abbrev pub ActionCallsItself : List Decl → Type 0
ActionCallsItself ds = (a : ℕ) × (between : List ℕ) × IsCycle (actions_called_by ds) a between

-- the field lists that a hash is over: those of the calculation that it names; of any other call none

abbrev pub lists_at : List Decl → ArgumentPlace → Argument → List Name
lists_at ds place.Calculation (name_argument i) = option_map_or input_names (calculation_of ds i.name) []
lists_at ds _ _ = []

abbrev pub lists_hashed_at : List Decl → PlacedArgument → List Name
lists_hashed_at ds a = lists_at ds a.wanted a.argument

abbrev pub hashed_lists : List Decl → Invocation → List Name
hashed_lists ds i = flat_map (lists_hashed_at ds) (placed_in ds i)

-- what primitives count together: each as many as the items of its hash, and at least one
abbrev pub Count : List Decl → List Invocation → ℕ → Type 0
Count ds [] total = total ≡ 0
Count ds (i ∷ rest) total =
    (items : List Item) × (more : ℕ) × Joins ds (hashed_lists ds i) items × Count ds rest more
    × (total ≡ max 1 (length items) + more)

-- an action expands to over 4,096 primitives
pub record ActionTooLong (ds : List Decl) : Type 0 where
  pub number : ℕ
  pub all : List Invocation
  pub total : ℕ
  pub expands : ActionExpands ds number all
  pub counts : Count ds all total
  pub long : 4096 < total

-- the actions with these names, expanded and joined in order
abbrev pub ActionsJoin : List Decl → List Name → List Invocation → Type 0
ActionsJoin ds [] all = all ≡ []
ActionsJoin ds (name ∷ names) all =
    (number : ℕ) × (first : List Invocation) × (rest : List Invocation) × (action_number ds name ≡ Some number)
    × ActionExpands ds number first × ActionsJoin ds names rest × (all ≡ first ++ rest)

-- the names of the actions that tables list, table after table
abbrev pub distinct_listed : Table → List Name
distinct_listed t = distinct (listed_in t)

abbrev pub all_listed : List Decl → List Name
all_listed ds = flat_map distinct_listed (tables ds)

-- all these together come to over 65,536
pub record ActionsTooLong (ds : List Decl) : Type 0 where
  pub all : List Invocation
  pub total : ℕ
  pub joined : ActionsJoin ds (all_listed ds) all
  pub counts : Count ds all total
  pub long : 65536 < total

abbrev pub HasBadAction : List Decl → Type 0
HasBadAction ds = ActionCallsItself ds ⊎ ActionTooLong ds ⊎ ActionsTooLong ds
