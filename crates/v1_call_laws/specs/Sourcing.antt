-- What sources tell of headers, stacks and structs where no error comes: their parts among those of the frame (P4_16 1.2,
-- "Expressions", "Assignment statement").
use Rattle.std.specs.Prelude.{◌≡◌, IfSome, Some, None}
use Rattle.p416_syntax.specs.declared.program.Syntax16.{Syntax16}
use Rattle.p416_syntax.specs.Tree.{Exp16}
use Rattle.p416_syntax.specs.Kinds.{Kind}
use Rattle.p416_syntax.specs.Scopes.{Scope}
use Rattle.p416_syntax.specs.Calls.{Place}
use Rattle.p416_syntax.specs.Expressions.{kind_of}
use Rattle.p416_syntax.specs.Declarations.{layouts_of}
use Rattle.v1_core.specs.Frames as sem
use Rattle.v1_core.specs.Slots.{FramePart}
use Rattle.v1_core.specs.Surroundings as meaning
use Rattle.v1_core.specs.Numbered.{InScope}
use Rattle.v1_core.specs.Expressions as sem_expressions
use Rattle.v1_core.specs.Expressions.{value_of}
use Rattle.v1_core.specs.Cells.{Cells}
use Rattle.v1_core.specs.Seats.{Seat}
use Rattle.v1_core.specs.PackedValues.{seat_value}
use Rattle.v1_core.specs.Programs.{part_seat}
use Rattle.v1_ready_forms.specs.Named.{seats_in}
use Rattle.v1_ready_laws.specs.Rules.{Keeps}
use Rattle.v1_ready_blocks.specs.declared.places.Range.{Range}
use Rattle.v1_ready_blocks.specs.Moments.{Moment}
use Rattle.v1_ready_blocks.specs.Tests.{World, Reached, these, source_range}
use Rattle.v1_parser_laws.specs.Ranges.{IsRangeOf}
use Rattle.v1_ready_statements.specs.Around.{Around, table_found}
use Rattle.v1_ready_statements.specs.Tested.{ready_source}
use Rattle.v1_value_laws.specs.Kinds.{FormIs}
use Rattle.v1_statement_laws.specs.Behind.{Shown}
use Rattle.v1_statement_laws.specs.Laws.{HasParts}
use Rattle.v1_deed_laws.specs.Forms.{IsParted, OneForm}
use Rattle.v1_call_laws.specs.Telling.{ToldNone}

-- evaluating and reaching came to one value of a kind that stands in the frame with these parts, and left moments that are one
-- and that nothing stopped
pub record PartTold (P : Cells → Type 0) (b : Around) (who : InScope) (k : Kind) (x : sem_expressions.Valued) (y : Reached) : Type 0 where
  pub range : Range
  pub reaches : y.range ≡ these range
  pub runs : x.moment.stopped ≡ None
  pub shown : Shown P b.syntax who x.moment y.moment
  pub part : FramePart
  pub seat : Seat
  pub at : part_seat b.syntax part ≡ Some seat
  pub form : FormIs (layouts_of b.syntax.decls) k seat.form
  pub parted : IsParted seat.form
  pub ranged : IsRangeOf (layouts_of b.syntax.decls) seat range
  pub stands : x.value ≡ seat_value (layouts_of b.syntax.decls) y.moment.cells seat

-- so the sources of all headers, stacks and structs that keep the rules on types and sizes, and in which no stack tells anything
abbrev pub SourcesTell : (Cells → Type 0) → Around → meaning.World → World → Scope → InScope → Type 0
SourcesTell P b w z s who =
    (p q : Place) (e : Exp16) → HasParts (kind_of s e) → Keeps s q e → ToldNone s e →
    IfSome (ready_source s (seats_in b.syntax w.around.roots who) (table_found b) e)
    (λ source. (m : sem.Moment) (k : Moment) → Shown P b.syntax who m k → m.stopped ≡ None →
    PartTold P b who (kind_of s e) (value_of w s p e m) (source_range z.apply source k))

-- what stands at two seats of one form in a frame has one form, however deep they are looked into
abbrev pub FormsAgree : Syntax16 → Type 0
FormsAgree syntax =
    (p q : FramePart) (t u : Seat) → part_seat syntax p ≡ Some t → part_seat syntax q ≡ Some u → u.form ≡ t.form →
    IsParted t.form → OneForm (layouts_of syntax.decls) t u
