-- The slot of a field of the standard metadata.
use Rattle.std.proofs.Common.{◌≡◌, ℕ, ◌^◌, ◌<◌, ◌≤◌, List, [], ◌∷◌, map, Option, Some, None, slice_get, refl, sym, subst, ap, ◌∙◌, arith}
use Rattle.std.proofs.Math.Pow.{pow_mono}
use Rattle.std.specs.Prelude.{slice_index}
use Rattle.p416_syntax.specs.declared.program.Syntax16.{Syntax16}
use Rattle.p416_syntax.specs.Names.{Name}
use Rattle.p416_syntax.specs.Scopes.{Layout}
use Rattle.p416_syntax.specs.Declarations.{layouts_of}
use Rattle.v1_core.specs.declared.parser_error.ParserError.{ParserError}
use Rattle.v1_core.specs.declared.parser_error.ParserError.TheVariants.{NoError, PacketTooShort, StackOutOfBounds, NoMatch}
use Rattle.v1_core.specs.Frames.{error_number}
use Rattle.v1_core.specs.Values.{to_member}
use Rattle.v1_core.specs.Layouts.{Layout as FrameLayout}
use Rattle.v1_core.specs.Seats as seats
use Rattle.v1_core.specs.Seats.{seat_at, seat_behind, stepped_seat}
use Rattle.v1_core.specs.Programs.{frame_kinds, first_start}
use Rattle.v1_seats.specs.declared.seat.Seat.{Seat}
use Rattle.v1_seats.specs.Seen.{seen_seat}
use Rattle.v1_seats.specs.Frame.{seats_from}
use Rattle.v1_ready_blocks.specs.Nodes.{IsSlot}
use Rattle.v1_ready_statements.specs.Around.{slot_of_seat}
use Rattle.v1_parse_run.specs.Made.{HoldsErrors}
use Rattle.v1_ready_controls.specs.Program.{slot_in_standard}

some_same : (o : Option seats.Seat) → seat_behind (λ (u : seats.Seat). Some u) o ≡ o
some_same None = refl
some_same (Some t) = refl

pub slot_is : (syntax : Syntax16) (types : List Layout) (all : List Seat) (t : seats.Seat) (found field : Option seats.Seat) (word : Name) (slot : Option ℕ) → types ≡ layouts_of syntax.decls → map seen_seat all ≡ seats_from (layouts_of syntax.decls) (frame_kinds syntax) first_start → found ≡ slice_get (map seen_seat all) 2
    → found ≡ Some t → field ≡ stepped_seat types t.depth t.form t.start (to_member word) → slot ≡ slot_of_seat field → slot ≡ slot_in_standard syntax word
slot_is syntax types all t found field word slot same are there here is so =
    so
    ∙ (ap slot_of_seat (is ∙ (ap (λ (ls : List Layout). stepped_seat ls t.depth t.form t.start (to_member word)) same ∙ sym (some_same (stepped_seat (layouts_of syntax.decls) t.depth t.form t.start (to_member word)))))
    ∙ ap (λ (o : Option seats.Seat). slot_of_seat (seat_behind (λ s. seat_at (layouts_of syntax.decls) (to_member word ∷ []) s) o)) (sym here ∙ (there ∙ ap (λ (l : List seats.Seat). slice_get l 2) are)))

-- two bits have room for the number of each error

few_errors : (e : ParserError) → error_number e < 4
few_errors NoError = omega arith
few_errors PacketTooShort = omega arith
few_errors StackOutOfBounds = omega arith
few_errors NoMatch = omega arith

pub errors_held : (l : FrameLayout) (slot width : ℕ) → IsSlot l slot → width ≡ slice_index l.widths slot → 2 ≤ width → HoldsErrors l slot
errors_held l slot width there is wide = record {
  there = there;
  wide = λ e. subst (λ (n : ℕ). error_number e < 2 ^ n) is (let power : 2 ^ 2 ≤ 2 ^ width = pow_mono wide in let few = few_errors e in omega (arith, power, few));
}
