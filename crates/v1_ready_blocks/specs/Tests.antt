-- Expressions in which tables may be applied, and choices between headers, stacks or structs (P4_16 1.2, "Expressions",
-- "Match-action unit invocation"). They are evaluated from left to right; `&&`, `||` and `? :` evaluate what they need; and
-- the first error ends that.
use Rattle.std.specs.Prelude.{ℕ, Bool, false, not, if◌then◌else◌, Option, Some, None}
use Rattle.p416_syntax.specs.declared.node.BinaryOperator.{BinaryOperator}
use Rattle.v1_core.specs.declared.parser_error.ParserError.{ParserError}
use Rattle.v1_core.specs.declared.parser_error.ParserError.TheVariants.{StackOutOfBounds}
use Rattle.v1_core.specs.Values.{Value, a_number, a_truth, number_in, is_true, sliced}
use Rattle.v1_core.specs.Numbers.{unary_value}
use Rattle.v1_core.specs.Scalars.{bits_value, truth_value, pair_value}
use Rattle.v1_core.specs.Ready.{Ready, Ended, given, failed, slice_at}
use Rattle.v1_ready_blocks.specs.declared.nodes.Single.{Single}
use Rattle.v1_ready_blocks.specs.declared.nodes.Single.TheVariants as single
use Rattle.v1_ready_blocks.specs.declared.places.Range.{Range}
use Rattle.v1_ready_blocks.specs.declared.places.RangePlace.{RangePlace}
use Rattle.v1_ready_blocks.specs.Places.{range_at}
use Rattle.v1_ready_blocks.specs.Moments.{Moment, value_at, raised}

-- what an application of a table tells, and what it leaves; of the action that ran its number, if one ran
pub record Applied : Type 0 where
  pub hit : Bool
  pub action : Option ℕ
  pub moment : Moment

-- what actions and tables do, by their numbers
pub record World : Type 0 where
  pub act : ℕ → Moment → Moment
  pub apply : ℕ → Moment → Applied

-- no table is applied: so in actions and in parsers
abbrev pub no_table_applies : ℕ → Moment → Applied
no_table_applies table m = record { hit = false; action = None; moment = m }

-- no action is called: so in parsers
abbrev pub no_action_runs : ℕ → Moment → Moment
no_action_runs action m = m

abbrev pub quiet_world : World
quiet_world = record { act = no_action_runs; apply = no_table_applies }

-- single values

-- a slice, a cast, or an operator on one value
abbrev pub single_value : Single → Value → Value
single_value (single.Slice place width) v = a_number width (sliced (slice_at place width) (number_in v))
single_value (single.ToBits width) v = bits_value width v
single_value single.ToTruth v = truth_value v
single_value (single.Operator of) v = unary_value of v

pub data Test : Type 0 where
  -- what applies no table
  plain : (e : Ready) → Test
  -- what `t.apply().hit` and `t.apply().miss` tell
  hits : (table : ℕ) → Test
  misses : (table : ℕ) → Test
  alone : (of : Single) (operand : Test) → Test
  both : (left right : Test) → Test
  either : (left right : Test) → Test
  pair : (of : BinaryOperator) (left right : Test) → Test
  choice : (condition positive negative : Test) → Test

-- a value, or the error that ended its evaluation, and what that leaves
pub record Valued : Type 0 where
  pub value : Ended
  pub moment : Moment

abbrev pub valued : Ended → Moment → Valued
valued x m = record { value = x; moment = m }

abbrev pub and_then : Valued → (Value → Moment → Valued) → Valued
and_then x further = of x.value
  where
    of : Ended → Valued
    of (given v) = further v x.moment
    of (failed e) = x

-- with another value in place of a value
abbrev pub turned : Valued → (Value → Value) → Valued
turned x f = and_then x (λ v m. valued (given (f v)) m)

-- the value, where tables do this when they are applied
abbrev pub test_value : (ℕ → Moment → Applied) → Test → Moment → Valued
test_value runs (plain e) m = valued (value_at m e) m
test_value runs (hits table) m = let a = runs table m in valued (given (a_truth a.hit)) a.moment
test_value runs (misses table) m = let a = runs table m in valued (given (a_truth (not a.hit))) a.moment
test_value runs (alone of e) m = turned (test_value runs e m) (single_value of)
test_value runs (both a b) m =
    and_then (test_value runs a m) (λ x n. if is_true x then test_value runs b n else valued (given x) n)
test_value runs (either a b) m =
    and_then (test_value runs a m) (λ x n. if is_true x then valued (given x) n else test_value runs b n)
test_value runs (pair of a b) m =
    and_then (test_value runs a m) (λ x n. and_then (test_value runs b n) (λ y o. valued (given (pair_value of x y)) o))
test_value runs (choice c a b) m =
    and_then (test_value runs c m) (λ x n. if is_true x then test_value runs a n else test_value runs b n)

-- what a statement does with a value; an error stops the parser
abbrev pub with_test : Valued → (Value → Moment → Moment) → Moment
with_test x further = of x.value
  where
    of : Ended → Moment
    of (given v) = further v x.moment
    of (failed e) = raised e x.moment

-- headers, stacks and structs

pub data Source : Type 0 where
  parts : (of : RangePlace) → Source
  chosen : (condition : Test) (positive negative : Source) → Source

-- the parts, or the error that there is in place of them, and what finding them leaves

pub data Sought : Type 0 where
  these : (of : Range) → Sought
  nowhere : (error : ParserError) → Sought

pub record Reached : Type 0 where
  pub range : Sought
  pub moment : Moment

abbrev pub reached : Sought → Moment → Reached
reached x m = record { range = x; moment = m }

abbrev pub sought : Option Range → Sought
sought None = nowhere StackOutOfBounds
sought (Some r) = these r

abbrev pub when_tested : Valued → (Value → Moment → Reached) → Reached
when_tested x further = of x.value
  where
    of : Ended → Reached
    of (given v) = further v x.moment
    of (failed e) = reached (nowhere e) x.moment

abbrev pub source_range : (ℕ → Moment → Applied) → Source → Moment → Reached
source_range runs (parts of) m = reached (sought (range_at m.cells of)) m
source_range runs (chosen c a b) m =
    when_tested (test_value runs c m) (λ x n. if is_true x then source_range runs a n else source_range runs b n)

abbrev pub with_source : Reached → (Range → Moment → Moment) → Moment
with_source x further = of x.range
  where
    of : Sought → Moment
    of (these r) = further r x.moment
    of (nowhere e) = raised e x.moment

-- what a statement does with the place that it writes to; there is an error in place of an element that isn't there

abbrev pub with_slot_at : Option ℕ → Moment → (ℕ → Moment) → Moment
with_slot_at None m further = raised StackOutOfBounds m
with_slot_at (Some slot) m further = further slot

abbrev pub with_range : Option Range → Moment → (Range → Moment) → Moment
with_range None m further = raised StackOutOfBounds m
with_range (Some r) m further = further r
