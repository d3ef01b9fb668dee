-- What the asks, plans and parts of code are.
use Rattle.std.specs.Prelude.{◌≡◌, ℕ, ◌<◌, List, [], ◌∷◌, length, map, option_map, Option, Some, None, IfSome}
use Rattle.p416_calls.specs.Seen.{seen_place}
use Rattle.v1_core.specs.Values.{a_number, a_truth, an_error}
use Rattle.v1_core.specs.Ready as ready
use Rattle.v1_core.specs.Ready.{Ready}
use Rattle.v1_core.specs.Nodes.{ready_at, ready_of}
use Rattle.v1_ready_forms.specs.Ways.{Way, its_value, its_validity}
use Rattle.v1_ready_program.specs.declared.leaves.Leaf.{Leaf}
use Rattle.v1_ready_program.specs.declared.leaves.Leaf.TheVariants as leaf_of
use Rattle.v1_ready_program.specs.declared.asks.Ask.{Ask as CodeAsk}
use Rattle.v1_ready_program.specs.declared.asks.Ask.TheVariants as ask_of
use Rattle.v1_ready_program.specs.declared.plans.Plan.{Plan as CodePlan}
use Rattle.v1_ready_program.specs.declared.plans.Plan.TheVariants as plan_of
use Rattle.v1_ready_program.specs.declared.build.Parts.{Parts as CodeParts}
use Rattle.v1_ready_program.specs.declared.build.Outcome.{Outcome}
use Rattle.v1_ready_program.specs.declared.build.Outcome.TheVariants as made_of
use Rattle.node_lists.specs.Trees.{grow, AllInOrder}
use Rattle.v1_ready_program.specs.declared.ways.Ways.{Ways}
use Rattle.v1_ready_program.specs.declared.ways.Taken.{Taken}
use Rattle.v1_ready_program.specs.declared.ways.Taken.TheVariants as taken
use Rattle.p416_syntax.specs.Scopes.{Layout}
use Rattle.v1_ready_forms.specs.Spots.{way_ready}
use Rattle.v1_ready_program.specs.Seen.{seen_spot}
use Rattle.v1_ready_program.specs.internal.Ways.{IsStep, way_at, way_of}
use Rattle.v1_ready_program.specs.internal.Passes.{Ask, passed, asked, called, Plan, nothing, leaf, same, sliced, to_bits, to_truth, unary_by, binary_by, choice_by, Parts}

abbrev pub seen_leaf : Leaf → Ready
seen_leaf (leaf_of.Number width number) = ready.constant (a_number width number)
seen_leaf (leaf_of.Truth holds) = ready.constant (a_truth holds)
seen_leaf (leaf_of.Error number) = ready.constant (an_error number)
seen_leaf (leaf_of.Slot of number) = ready.slot of number
seen_leaf (leaf_of.ElementSlot of) = ready.element_slot of
seen_leaf (leaf_of.Valid header) = ready.valid header
seen_leaf (leaf_of.ElementValid of) = ready.element_valid of
seen_leaf (leaf_of.Ahead width) = ready.ahead width

abbrev pub seen_ask : List Way → CodeAsk → Ask
seen_ask ways ask_of.Passed = passed
seen_ask ways (ask_of.Asked place way) = asked (seen_place place) (way_at ways way)
seen_ask ways (ask_of.Called way) = called (way_at ways way)

abbrev pub seen_asks : List Way → List CodeAsk → List Ask
seen_asks ways asks = map (seen_ask ways) asks

-- the ways of these stand among so many
abbrev pub IsAskIn : ℕ → CodeAsk → Type 0
IsAskIn n ask_of.Passed = Unit {0}
IsAskIn n (ask_of.Asked place way) = way < n
IsAskIn n (ask_of.Called way) = way < n

abbrev pub AreAsksIn : ℕ → List CodeAsk → Type 0
AreAsksIn n [] = Unit {0}
AreAsksIn n (q ∷ asks) = IsAskIn n q × AreAsksIn n asks

-- the ways of steps, of which each is over earlier ones, and the first two are the value and the validity

abbrev pub seen_ways : Ways → List Way
seen_ways w = grow way_of [] w.steps.items

pub record HasEnds (ways : List Way) : Type 0 where
  pub value : way_at ways 0 ≡ its_value
  pub validity : way_at ways 1 ≡ its_validity
  pub two : 1 < length ways

pub record AreWays (w : Ways) : Type 0 where
  pub order : AllInOrder IsStep 0 w.steps.items
  pub ends : HasEnds (seen_ways w)

abbrev pub seen_plan : CodePlan → Plan
seen_plan plan_of.Nothing = nothing
seen_plan (plan_of.Leaf is) = leaf (seen_leaf is)
seen_plan plan_of.Same = same
seen_plan (plan_of.Sliced place width) = sliced place width
seen_plan (plan_of.ToBits width) = to_bits width
seen_plan plan_of.ToTruth = to_truth
seen_plan (plan_of.Unary operator) = unary_by operator
seen_plan (plan_of.Binary operator) = binary_by operator
seen_plan plan_of.Choice = choice_by

-- values by their places
abbrev pub seen_value : List Ready → Option ℕ → Option Ready
seen_value es place = option_map (ready_at es) place

abbrev pub seen_values : List Ready → List (Option ℕ) → List (Option Ready)
seen_values es places = map (seen_value es) places

abbrev pub seen_parts : List Ready → CodeParts → Parts
seen_parts es x = record { first = seen_value es x.first; second = seen_value es x.second; third = seen_value es x.third }

-- these values stand among so many
abbrev pub IsValueIn : ℕ → Option ℕ → Type 0
IsValueIn n place = IfSome place (λ i. i < n)

abbrev pub AreValuesIn : ℕ → List (Option ℕ) → Type 0
AreValuesIn n [] = Unit {0}
AreValuesIn n (v ∷ values) = IsValueIn n v × AreValuesIn n values

-- what a step leads to, given the ways that stand before it
abbrev pub taken_ready : List Layout → List Way → Taken → Option Ready
taken_ready types ways (taken.On next behind) = way_ready types (way_at ways behind) (seen_spot next)
taken_ready types ways (taken.End found) = option_map seen_leaf found

-- the way on from there stands before this place
abbrev pub IsBefore : ℕ → Taken → Type 0
IsBefore n (taken.On next behind) = behind < n
IsBefore n (taken.End found) = Unit {0}

abbrev pub ArePartsIn : ℕ → CodeParts → Type 0
ArePartsIn n x = IsValueIn n x.first × IsValueIn n x.second × IsValueIn n x.third

-- what a plan with these parts comes to, over these expressions
abbrev pub made_ready : List Ready → CodeParts → Outcome → Option Ready
made_ready es x made_of.Nothing = None
made_ready es x made_of.First = seen_value es x.first
made_ready es x (made_of.New node) = Some (ready_of es node)
