-- That a ready test gives the value of an expression (P4_16 1.2, "Expressions", "Expression evaluation order").
use Rattle.std.specs.Prelude.{◌≡◌, None}
use Rattle.p416_syntax.specs.Tree.{Exp16}
use Rattle.p416_syntax.specs.Scopes.{Scope}
use Rattle.p416_syntax.specs.Calls.{Place}
use Rattle.v1_core.specs.declared.parser_error.ParserError.{ParserError}
use Rattle.v1_core.specs.Values.{Value}
use Rattle.v1_core.specs.Frames as sem
use Rattle.v1_core.specs.Surroundings as meaning
use Rattle.v1_core.specs.Numbered.{InScope}
use Rattle.v1_core.specs.Expressions.{value_of}
use Rattle.v1_core.specs.Cells.{Cells}
use Rattle.v1_ready_laws.specs.Asked.{stopped_by}
use Rattle.v1_ready_blocks.specs.Moments.{Moment}
use Rattle.v1_ready_blocks.specs.Tests.{World, Test, test_value}
use Rattle.v1_ready_statements.specs.Around.{Around}
use Rattle.v1_statement_laws.specs.Behind.{Shown, ValuedShows}

-- In moments that are one and that nothing stopped the test gives the value of the expression at its place, of which this
-- holds, or the same error; and in a moment that an error stopped evaluating changes nothing.
pub record Evaluates (P : Cells → Type 0) (b : Around) (w : meaning.World) (z : World) (s : Scope) (who : InScope) (p : Place) (e : Exp16) (Q : Value → Type 0) (t : Test) : Type 0 where
  pub gives : (m : sem.Moment) (k : Moment) → Shown P b.syntax who m k → m.stopped ≡ None → ValuedShows P b.syntax who (value_of w s p e m) (test_value z.apply t k)
  pub holds : (m : sem.Moment) (k : Moment) → Shown P b.syntax who m k → m.stopped ≡ None → (value_of w s p e m).moment.stopped ≡ None → Q (value_of w s p e m).value
  pub stays : (m : sem.Moment) (k : Moment) (error : ParserError) → Shown P b.syntax who m k → m.stopped ≡ None → (value_of w s p e (stopped_by error m)).moment ≡ stopped_by error m
