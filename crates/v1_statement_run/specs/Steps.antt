-- What steps of statements over a frame, a store and a run come to.
use Rattle.std.specs.Prelude.{◌≡◌, ℕ, ◌≤◌, List, length, Option, Some, None, Result, Ok, Err, IfOk}
use Rattle.p416_syntax.specs.declared.node.BinaryOperator.{BinaryOperator}
use Rattle.v1_core.specs.declared.parser_error.ParserError.{ParserError}
use Rattle.v1_core.specs.Values.{Value}
use Rattle.v1_core.specs.declared.scalar.Scalar.{Scalar}
use Rattle.v1_core.specs.Scalars.{FitsScalar, pair_value}
use Rattle.v1_core.specs.Ready.{Ready, Ended, given, failed}
use Rattle.v1_core.specs.Kept.{trees as expressions_of}
use Rattle.v1_core.specs.Results.{seen_end}
use Rattle.v1_ready_blocks.specs.declared.nodes.Single.{Single}
use Rattle.v1_ready_blocks.specs.declared.places.Range.{Range}
use Rattle.v1_ready_blocks.specs.Moments.{Moment}
use Rattle.v1_ready_blocks.specs.Tests.{Applied, single_value, Valued, valued, Reached, reached, Sought, these, nowhere}
use Rattle.v1_ready_blocks.specs.Nodes.{Tree, trees, Ground, IsRange, arguments_at}
use Rattle.v1_ready_blocks.specs.Externs.{Given}
use Rattle.v1_ready_blocks.specs.Arguments.{Gathered, gathered}
use Rattle.v1_statement_run.specs.declared.run.Run.{Run}
use Rattle.v1_statement_run.specs.Seen.{given_of, with_list}
use Rattle.v1_statement_run.specs.declared.code.Code.{Code}
use Rattle.v1_statement_run.specs.declared.tables.Told.{Told}

-- the code

abbrev pub expressions_in : Code → List Ready
expressions_in c = expressions_of c.expressions

abbrev pub trees_of : Code → List Tree
trees_of c = trees (expressions_in c) c.statements.nodes

abbrev pub ground_of : Code → Ground
ground_of c = c.statements.ground

-- the expressions that statements name are there, over the same frames
pub record IsCode (c : Code) : Type 0 where
  pub layout : c.expressions.layout ≡ (ground_of c).layout
  pub expressions : (ground_of c).expressions ≤ length c.expressions.nodes

-- a moment over the parts of frames and the objects of a program
pub record IsOver (g : Ground) (m : Moment) : Type 0 where
  pub cells : m.cells.layout ≡ g.layout
  pub waiting : m.waiting.layout ≡ g.layout
  pub shapes : m.store.shapes ≡ g.shapes

-- what is due came, over the same parts and objects

pub record Comes (g : Ground) (due now : Moment) : Type 0 where
  pub over : IsOver g now
  pub comes : due ≡ now

abbrev pub told_of : Told → Moment → Applied
told_of t m = record { hit = t.hit; action = t.action; moment = m }

pub record Tells (g : Ground) (due : Applied) (now : Moment) (told : Told) : Type 0 where
  pub over : IsOver g now
  pub tells : due ≡ told_of told now

pub record Gives (g : Ground) (due : Valued) (now : Moment) (answer : Result Scalar ParserError) : Type 0 where
  pub over : IsOver g now
  pub gives : due ≡ valued (seen_end answer) now
  pub fits : IfOk answer FitsScalar

abbrev pub seen_sought : Result Range ParserError → Sought
seen_sought (Ok r) = these r
seen_sought (Err e) = nowhere e

pub record Finds (g : Ground) (due : Reached) (now : Moment) (range : Result Range ParserError) : Type 0 where
  pub over : IsOver g now
  pub finds : due ≡ reached (seen_sought range) now
  pub is : IfOk range (IsRange g.layout)

-- parts of evaluation

abbrev pub turned_by : Single → Ended → Ended
turned_by of (given v) = given (single_value of v)
turned_by of (failed e) = failed e

abbrev pub paired : BinaryOperator → Value → Ended → Ended
paired of a (given b) = given (pair_value of a b)
paired of a (failed e) = failed e

-- an error stops a run, if none did yet

abbrev pub first_error : Option ParserError → ParserError → ParserError
first_error None e = e
first_error (Some earlier) e = earlier

abbrev pub stopped_by : ParserError → Run → Run
stopped_by e r = record r { stopped = Some (first_error r.stopped e) }

-- arguments

abbrev pub with_values : List Scalar → Run → Run
with_values values r = record r { values = values }

pub record Gathers (g : Ground) (due : Gathered) (gathered : Given) (now : Moment) : Type 0 where
  pub over : IsOver g now
  pub gathers : due ≡ record { given = gathered; moment = now }

-- evaluating the arguments at a place comes to what evaluating those at another one does, behind what is given by then
pub record Goes (runs : ℕ → Moment → Applied) (ts : List Tree) (place : ℕ) (now : Moment) (old new : Run) (behind : ℕ) : Type 0 where
  pub order : behind ≤ place
  pub run : new ≡ with_list new.list old
  pub same :
      gathered runs (arguments_at ts place) (record { given = given_of old; moment = now })
      ≡ gathered runs (arguments_at ts behind) (record { given = given_of new; moment = now })
