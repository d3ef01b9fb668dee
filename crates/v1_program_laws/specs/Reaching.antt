-- That the parts which are reached by a source are those of the header, the stack or the struct that an expression is (P4_16
-- 1.2, "Expressions", "Operations on header stacks", "Conditional operator").
use Rattle.std.specs.Prelude.{◌≡◌, List, Some, None, IfSome}
use Rattle.p416_syntax.specs.declared.program.Syntax16.{Syntax16}
use Rattle.p416_syntax.specs.Tree.{Exp16, member, index, choice}
use Rattle.p416_syntax.specs.Kinds.{Kind, boolean}
use Rattle.p416_syntax.specs.Scopes.{Layout, Scope}
use Rattle.p416_syntax.specs.Calls.{Place, value}
use Rattle.p416_syntax.specs.Declarations.{layouts_of}
use Rattle.p416_syntax.specs.Expressions.{known_kind, member_kind, element_kind}
use Rattle.v1_core.specs.declared.parser_error.ParserError.{ParserError}
use Rattle.v1_core.specs.declared.parser_error.ParserError.TheVariants.{StackOutOfBounds}
use Rattle.v1_core.specs.Values.{Value}
use Rattle.v1_core.specs.Frames as sem
use Rattle.v1_core.specs.Slots.{FramePart}
use Rattle.v1_core.specs.Surroundings as meaning
use Rattle.v1_core.specs.Numbered.{InScope}
use Rattle.v1_core.specs.Expressions as sem_expressions
use Rattle.v1_core.specs.Expressions.{value_of}
use Rattle.v1_core.specs.Cells.{Cells}
use Rattle.v1_core.specs.Seats.{Seat}
use Rattle.v1_core.specs.PackedValues.{seat_value}
use Rattle.v1_core.specs.Programs.{part_seat}
use Rattle.v1_core.specs.Ready.{given, failed}
use Rattle.v1_ready_forms.specs.Named.{seats_in}
use Rattle.v1_ready_forms.specs.Ways.{Way, its_value, its_validity, through_member, through_element, through_told}
use Rattle.v1_ready_laws.specs.Asked.{asked_value}
use Rattle.v1_ready_blocks.specs.declared.places.Range.{Range}
use Rattle.v1_ready_blocks.specs.Moments.{Moment, raised}
use Rattle.v1_ready_blocks.specs.Tests.{World, Test, test_value, Reached, these, nowhere}
use Rattle.v1_parser_laws.specs.Ranges.{IsRangeOf}
use Rattle.v1_ready_statements.specs.Around.{Around, table_found}
use Rattle.v1_ready_statements.specs.Tested.{ready_test}
use Rattle.v1_value_laws.specs.Kinds.{FormIs}
use Rattle.v1_statement_laws.specs.Behind.{Shown, ValuedShows}

-- a value of a kind that stands in the frame, with its parts
pub record IsPart (syntax : Syntax16) (k : Kind) (v : Value) (c : Cells) (r : Range) : Type 0 where
  pub part : FramePart
  pub seat : Seat
  pub at : part_seat syntax part ≡ Some seat
  pub form : FormIs (layouts_of syntax.decls) k seat.form
  pub ranged : IsRangeOf (layouts_of syntax.decls) seat r
  pub stands : v ≡ seat_value (layouts_of syntax.decls) c seat

-- the kind of what a way leads to
abbrev pub way_kind : List Layout → Way → Kind → Kind
way_kind types its_value k = k
way_kind types its_validity k = k
way_kind types (through_member word way) k = way_kind types way (known_kind (member_kind types k word))
way_kind types (through_element number way) k = way_kind types way (element_kind k)
way_kind types (through_told which way) k = way_kind types way (element_kind k)

-- What is reached of a value by a way: parts that are those of it; none, where a stack has no such element; or evaluating the
-- value itself failed.
pub data Seeks (P : Cells → Type 0) (syntax : Syntax16) (who : InScope) (way : Way) (k : Kind) (x : sem_expressions.Valued) (y : Reached) : Type 0 where
  found : (r : Range) (u : Value) → y.range ≡ these r → x.moment.stopped ≡ None → asked_value way x.value ≡ given u → IsPart syntax k u y.moment.cells r → Shown P syntax who x.moment y.moment → Seeks P syntax who way k x y
  beyond : y.range ≡ nowhere StackOutOfBounds → x.moment.stopped ≡ None → asked_value way x.value ≡ failed StackOutOfBounds → Shown P syntax who x.moment y.moment → Seeks P syntax who way k x y
  erred : (e : ParserError) → y.range ≡ nowhere e → x.moment.stopped ≡ Some e → Shown P syntax who x.moment (raised e y.moment) → Seeks P syntax who way k x y

-- in a moment that an error stopped evaluating changes nothing
abbrev pub Still : meaning.World → Scope → Type 0
Still w s =
    (p : Place) (e : Exp16) (m : sem.Moment) (error : ParserError) → m.stopped ≡ Some error → (value_of w s p e m).moment ≡ m

-- a condition and its test; where evaluating it can fail, nothing changes behind that
pub record Asks (P : Cells → Type 0) (b : Around) (w : meaning.World) (z : World) (s : Scope) (who : InScope) (c : Exp16) (t : Test) : Type 0 where
  pub gives : (m : sem.Moment) (k : Moment) → Shown P b.syntax who m k → m.stopped ≡ None → ValuedShows P b.syntax who (value_of w s (value boolean) c m) (test_value z.apply t k)
  pub ends : (m : sem.Moment) (k : Moment) (error : ParserError) → Shown P b.syntax who m k → m.stopped ≡ None → (value_of w s (value boolean) c m).moment.stopped ≡ Some error → Still w s

-- the conditions of all choices between headers, stacks or structs
abbrev pub ConditionsAsk : (Cells → Type 0) → Around → meaning.World → World → Scope → InScope → Exp16 → Type 0
ConditionsAsk P b w z s who (member e word) = ConditionsAsk P b w z s who e
ConditionsAsk P b w z s who (index e at) = ConditionsAsk P b w z s who e
ConditionsAsk P b w z s who (choice c a d) =
    IfSome (ready_test s (seats_in b.syntax w.around.roots who) (table_found b) (value boolean) c) (Asks P b w z s who c)
    × ConditionsAsk P b w z s who a × ConditionsAsk P b w z s who d
ConditionsAsk P b w z s who e = Unit {0}
