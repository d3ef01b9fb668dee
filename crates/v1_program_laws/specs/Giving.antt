-- What tests give of expressions, and what the rules find nothing in (P4_16 1.2, "Expressions").
use Rattle.std.specs.Prelude.{◌≡◌, List, [], ◌∷◌, IfSome, None}
use Rattle.p416_syntax.specs.declared.controls.Local.{Local}
use Rattle.p416_syntax.specs.declared.controls.Local.TheVariants as local
use Rattle.p416_syntax.specs.Tree.{Exp16, member, index, choice}
use Rattle.p416_syntax.specs.Scopes.{Scope}
use Rattle.p416_syntax.specs.Calls.{Place}
use Rattle.v1_core.specs.Values.{Value}
use Rattle.v1_core.specs.Frames as sem
use Rattle.v1_core.specs.Surroundings as meaning
use Rattle.v1_core.specs.Numbered.{InScope}
use Rattle.v1_core.specs.Expressions.{value_of}
use Rattle.v1_core.specs.Cells.{Cells}
use Rattle.v1_ready_blocks.specs.Moments.{Moment}
use Rattle.v1_ready_blocks.specs.Tests.{World, Test, test_value}
use Rattle.v1_ready_statements.specs.Around.{Around}
use Rattle.v1_statement_laws.specs.Behind.{Shown, ValuedShows}
use Rattle.v1_statement_laws.specs.Meeting.{Judged}
use Rattle.v1_call_laws.specs.Telling.{ToldNone}
use Rattle.v1_control_laws.specs.Controls.{rule_tests}

-- in moments that are one and that nothing stopped a test gives the value of the expression at its place, of which this holds, or
-- the same error
pub record Gives (P : Cells → Type 0) (b : Around) (w : meaning.World) (z : World) (s : Scope) (who : InScope) (p : Place) (e : Exp16) (Q : Value → Type 0) (t : Test) : Type 0 where
  pub gives : (m : sem.Moment) (k : Moment) → Shown P b.syntax who m k → m.stopped ≡ None → ValuedShows P b.syntax who (value_of w s p e m) (test_value z.apply t k)
  pub holds : (m : sem.Moment) (k : Moment) → Shown P b.syntax who m k → m.stopped ≡ None → (value_of w s p e m).moment.stopped ≡ None → Q (value_of w s p e m).value

-- the rules find nothing in an expression at its place, and no stack tells anything in it
abbrev pub Kept : Scope → Place → Exp16 → Type 0
Kept s p e = Judged rule_tests s p e × ToldNone s e

-- nor in the initial values of the variables of a control
abbrev pub LocalsTold : Scope → List Local → Type 0
LocalsTold s [] = Unit {0}
LocalsTold s (local.Var v ∷ locals) = IfSome v.initial (ToldNone s) × LocalsTold s locals
LocalsTold s (x ∷ locals) = LocalsTold s locals

-- nor in the conditions of choices between values with parts
abbrev pub ConditionsTold : Scope → Exp16 → Type 0
ConditionsTold s (member e word) = ConditionsTold s e
ConditionsTold s (index e at) = ConditionsTold s e
ConditionsTold s (choice c a d) = ToldNone s c × ConditionsTold s a × ConditionsTold s d
ConditionsTold s e = Unit {0}
