-- The slot of `parser_error` has an error in it.
use Rattle.std.proofs.Common.{◌≡◌, ℕ, zero, suc, ◌^◌, ◌<◌, Option, Some, None, IfSome, List, get_or, refl, sym, ap, ◌∙◌, subst, arith}
use Rattle.std.specs.Prelude.{codes}
use Rattle.p416_syntax.specs.declared.program.Syntax16.{Syntax16}
use Rattle.p416_syntax.specs.BuiltIn.{standard_name, standard_layout}
use Rattle.p416_syntax.specs.Scopes.{FieldKind, Layout as TypeLayout, fields_in}
use Rattle.p416_syntax.specs.Declarations.{layouts_of}
use Rattle.p416_syntax.specs.Breaks.{BreaksNone, program_rules}
use Rattle.v1_core.specs.declared.parser_error.ParserError.{ParserError}
use Rattle.v1_core.specs.declared.parser_error.ParserError.TheVariants.{NoError, PacketTooShort, StackOutOfBounds, NoMatch}
use Rattle.v1_core.specs.Values.{to_member}
use Rattle.v1_core.specs.Frames as sem
use Rattle.v1_core.specs.Frames.{error_number}
use Rattle.v1_core.specs.Surroundings.{Setting}
use Rattle.v1_core.specs.Numbered.{nobody}
use Rattle.v1_core.specs.Parsing as parsing
use Rattle.v1_core.specs.Layouts.{Layout}
use Rattle.v1_core.specs.Seats.{an_error, Form, slot_form, struct_form, Start, behind, Seat, member_seat, stepped_seat, seat_behind}
use Rattle.v1_core.specs.Programs.{layout16, part_seat}
use Rattle.v1_ready_laws.specs.Widths.{IsWide}
use Rattle.v1_ready_laws.proofs.Steps.{Stands}
use Rattle.v1_ready_laws.proofs.Accepted.{accepted_narrow}
use Rattle.v1_ready_blocks.specs.Moments.{Moment}
use Rattle.v1_ready_states.specs.States as ready
use Rattle.v1_parser_laws.specs.Shown.{Shows}
use Rattle.v1_parser_laws.specs.Ranges.{error_part}
use Rattle.v1_parser_laws.proofs.Begins.{error_stands}
use Rattle.v1_place_laws.proofs.Writing.{part_stands}
use Rattle.v1_ready_statements.specs.Around.{slot_of_seat}
use Rattle.v1_program_laws.proofs.Depths.{standard_fields}
use Rattle.v1_program_laws.proofs.Shapes.{declared_once, holds_apart}

abbrev IsError : Seat → Type 0
IsError t = t.form ≡ slot_form an_error

stepped_error : (types : List TypeLayout) (n : ℕ) (b : Start) → fields_in types standard_name ≡ standard_layout.fields → IfSome (stepped_seat types n (struct_form standard_name) b (to_member (codes "parser_error"))) IsError
stepped_error types zero b is = tt
stepped_error types (suc n) b is = subst (λ (fields : List FieldKind). IfSome (member_seat (λ k s. behind types n k s) n fields b (codes "parser_error")) IsError) (sym is) refl

one_step : (o : Option Seat) → IfSome o IsError → IfSome (seat_behind (λ t. Some t) o) IsError
one_step None h = tt
one_step (Some t) h = h

error_formed : (syntax : Syntax16) → BreaksNone syntax program_rules → IfSome (part_seat syntax error_part) IsError
error_formed syntax accepted = one_step _ (stepped_error (layouts_of syntax.decls) _ _ (standard_fields syntax.decls (declared_once syntax accepted) (holds_apart syntax accepted)))

small : (e : ParserError) → error_number e < 2 ^ 2
small NoError = omega arith
small PacketTooShort = omega arith
small StackOutOfBounds = omega arith
small NoMatch = omega arith

-- the slot of a seat of an error
slot_there : (t : Seat) → IsError t → slot_of_seat (Some t) ≡ Some t.start.slot
slot_there t is = ap (λ (f : Form). slot_of_seat (Some (record { depth = t.depth; form = f; start = t.start; owner = t.owner }))) is

pub error_put : (c : Setting) (slot : ℕ) → BreaksNone c.syntax program_rules → slot_of_seat (part_seat c.syntax error_part) ≡ Some slot → (m : sem.Moment) (n : Moment) (e : ParserError) → Shows c.syntax nobody m n → Shows c.syntax nobody (parsing.with_error (Some e) m) (ready.with_error slot (Some e) n)
error_put c slot accepted is m n e h = by (part_seat c.syntax error_part) refl (error_formed c.syntax accepted) is where
  by : (o : Option Seat) → part_seat c.syntax error_part ≡ o → IfSome o IsError → slot_of_seat o ≡ Some slot → Shows c.syntax nobody (parsing.with_error (Some e) m) (ready.with_error slot (Some e) n)
  by None there formed there_is = absurd (cc there_is)
  by (Some t) there formed there_is =
      let narrow = accepted_narrow c.syntax accepted in
      let stands : Stands n.cells.layout (layouts_of c.syntax.decls) t = part_stands c.syntax n.cells error_part t h.whole.layout narrow.0 narrow.2 there in
      let wide : get_or n.cells.layout.widths t.start.slot 0 ≡ 2 = subst (λ (f : Form). IsWide n.cells.layout (layouts_of c.syntax.decls) t.depth f t.start) formed stands.wide in
      let fits : error_number e < 2 ^ get_or (layout16 c.syntax).widths t.start.slot 0 = subst (λ (l : Layout). error_number e < 2 ^ get_or l.widths t.start.slot 0) h.whole.layout (subst (λ (w : ℕ). error_number e < 2 ^ w) (sym wide) (small e)) in
      subst (λ (i : ℕ). Shows c.syntax nobody (parsing.with_error (Some e) m) (ready.with_error i (Some e) n)) (same t (slot_there t formed) there_is) (error_stands c nobody t e m n there formed fits h)
    where
      same : (t : Seat) → slot_of_seat (Some t) ≡ Some t.start.slot → slot_of_seat (Some t) ≡ Some slot → t.start.slot ≡ slot
      same t x y = some_is (sym x ∙ y) where
        some_is : Some t.start.slot ≡ Some slot → t.start.slot ≡ slot
        some_is h = cc
