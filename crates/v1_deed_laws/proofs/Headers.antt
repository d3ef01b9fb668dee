-- A header that becomes valid or invalid.
use Rattle.std.proofs.Common.{◌≡◌, ℕ, Bool, true, false, length, Some, None, refl, sym, ap, ◌∙◌, subst}
use Rattle.p416_syntax.specs.declared.program.Syntax16.{Syntax16}
use Rattle.p416_syntax.specs.Names.{Name}
use Rattle.p416_syntax.specs.Scopes.{fields_in}
use Rattle.p416_syntax.specs.Declarations.{layouts_of}
use Rattle.v1_core.specs.Frames as sem
use Rattle.v1_core.specs.Frames.{Reference}
use Rattle.v1_core.specs.Numbered.{InScope}
use Rattle.v1_core.specs.Cells.{Cells, with_validity}
use Rattle.v1_core.specs.Seats.{Form, header_form, Seat}
use Rattle.v1_core.specs.Laid.{IsHeader}
use Rattle.v1_core.specs.Programs.{part_seat}
use Rattle.v1_core.specs.PackedFrames.{IsFrameOf}
use Rattle.v1_core.proofs.Laws.{part_put}
use Rattle.v1_core.specs.Values.{no_value}
use Rattle.v1_core.specs.HeaderCalls.{set_valid, set_invalid}
use Rattle.v1_parser_laws.specs.Shown.{Shows}
use Rattle.v1_parser_laws.proofs.Parts.{whole_marked}
use Rattle.v1_place_laws.specs.Finding.{IsAt}
use Rattle.v1_place_laws.proofs.Marking.{headers_marked}
use Rattle.v1_deed_laws.specs.Laws.{HeadersMade}
use Rattle.v1_deed_laws.proofs.Whole.{cells_show}

-- a header is where its layout has it
pub header_laid : (syntax : Syntax16) (c : Cells) (who : InScope) (r : Reference) (t : Seat) (type : Name) → IsFrameOf syntax c → IsAt syntax who r None t → t.form ≡ header_form type → IsHeader c.layout (length (fields_in (layouts_of syntax.decls) type)) t.start
header_laid syntax c who r t type is at form =
    let whole : Seat = record { depth = t.depth; form = header_form type; start = t.start; owner = t.owner } in
    let seat : part_seat syntax at.part ≡ Some whole = at.seat ∙ ap (λ (k : Form). Some (record { depth = t.depth; form = k; start = t.start; owner = t.owner })) form in
    (part_put syntax c c at.part no_value whole is.layout refl seat).laid

pub headers_made : HeadersMade
headers_made syntax who r t type to m n keeps scope at form here h =
    let both = headers_marked syntax n.cells who h.whole scope r t type m at form h.frame in
    let laid = header_laid syntax n.cells who r t type h.whole at form in (
      subst (λ (k : ℕ). Shows syntax who (sem.with_frame m (made true).frame) (record n { cells = with_validity n.cells k true })) (sym here)
          (cells_show syntax who m n _ (with_validity n.cells t.start.header true) h both.0
          (record { layout = h.whole.layout; whole = whole_marked n.cells (length (fields_in (layouts_of syntax.decls) type)) t.start true laid h.whole.whole })),
      subst (λ (k : ℕ). Shows syntax who (sem.with_frame m (made false).frame) (record n { cells = with_validity n.cells k false })) (sym here)
          (cells_show syntax who m n _ (with_validity n.cells t.start.header false) h both.1
          (record { layout = h.whole.layout; whole = whole_marked n.cells (length (fields_in (layouts_of syntax.decls) type)) t.start false laid h.whole.whole })),
    ) where
      made : Bool → sem.Moment
      made true = set_valid r m
      made false = set_invalid r m
