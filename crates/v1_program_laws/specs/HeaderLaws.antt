-- That headers are whole octets wherever they stand in the frames of a program (P4_16 1.2, "Header types"; T2).
use Rattle.std.specs.Prelude.{◌≡◌, Some}
use Rattle.p416_syntax.specs.declared.program.Syntax16.{Syntax16}
use Rattle.p416_syntax.specs.Declarations.{layouts_of}
use Rattle.p416_syntax.specs.Breaks.{BreaksNone, program_rules}
use Rattle.v1_core.specs.Slots.{FramePart}
use Rattle.v1_core.specs.Seats.{Form, header_form, stack_form, Seat}
use Rattle.v1_core.specs.Programs.{part_seat}
use Rattle.v1_deed_laws.specs.Forms.{IsEmitted}

-- of a header, or of a stack of headers
abbrev pub IsHeaded : Form → Type 0
IsHeaded (header_form type) = Unit {0}
IsHeaded (stack_form type size) = Unit {0}
IsHeaded form = ⊥

-- in a program that breaks no rule
abbrev pub HeadersAreWhole : Type 0
HeadersAreWhole =
    (syntax : Syntax16) → BreaksNone syntax program_rules → (p : FramePart) (t : Seat) → part_seat syntax p ≡ Some t →
    IsHeaded t.form → IsEmitted (layouts_of syntax.decls) t.form
