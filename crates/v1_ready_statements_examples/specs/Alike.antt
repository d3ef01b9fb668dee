-- A ready control does what the control does, from one frame and store.
use Rattle.std.specs.Prelude.{◌≡◌, ℕ, true, List, [], ◌∷◌, Option, Some, None}
use Rattle.p4x_bits.specs.BitLists.{octet_bits}
use Rattle.state_store.specs.State.{Contents}
use Rattle.match_core.specs.Stores.{first_store}
use Rattle.match_core.specs.Best.{Filled}
use Rattle.match_core.specs.Tables.{filled_of}
use Rattle.match_core.specs.declared.signatures.TableSig.{TableSig}
use Rattle.match_core.specs.declared.entries.TableFill.{TableFill}
use Rattle.p416_syntax.specs.declared.controls.Control16.{Control16}
use Rattle.p416_syntax.specs.declared.program.Syntax16.{Syntax16}
use Rattle.v1_core.specs.declared.block.Block.{Block as BlockName}
use Rattle.v1_core.specs.declared.block.Block.TheVariants.{Ingress}
use Rattle.v1_core.specs.Frames as meaning
use Rattle.v1_core.specs.Numbered.{nobody, frame_in}
use Rattle.v1_core.specs.Signatures.{signature16}
use Rattle.v1_core.specs.Surroundings.{Setting}
use Rattle.v1_core.specs.Blocks.{control_at, control16}
use Rattle.v1_core.specs.Cells.{Cells, new_cells, with_validity, with_slot}
use Rattle.v1_core.specs.Programs.{layout16, numbered16}
use Rattle.v1_ready_blocks.specs.Moments.{Moment}
use Rattle.v1_ready_blocks.specs.Tables.{Fill}
use Rattle.v1_ready_blocks.specs.Blocks.{Block, ready_run}
use Rattle.v1_ready_statements.specs.Blocks.{ready_control}

abbrev pub filled_tables : List TableSig → List TableFill → List Filled
filled_tables (t ∷ tables) (f ∷ fills) = filled_of t f ∷ filled_tables tables fills
filled_tables _ _ = []

abbrev pub fill_of : Setting → Fill
fill_of c = record {
  tables = filled_tables (signature16 c.syntax).tables c.entries.tables;
  fills = c.entries.tables;
}

-- the first header is valid and has these numbers in its three fields
abbrev pub cells_with : Syntax16 → ℕ → ℕ → ℕ → Cells
cells_with syntax x y z =
    with_slot (with_slot (with_slot (with_validity (new_cells (layout16 syntax)) 0 true) 0 x) 1 y) 2 z

abbrev pub meant : Syntax16 → Cells → Contents → meaning.Moment
meant syntax c store = record {
  frame = frame_in nobody (numbered16 syntax c);
  store = store;
  unparsed = 1 ∷ 2 ∷ [];
  emitted = [];
  work = 0;
  stopped = None;
  hit = None;
}

abbrev pub ready : Cells → Contents → Moment
ready c store = record {
  cells = c;
  waiting = c;
  store = store;
  unparsed = 1 ∷ 2 ∷ [];
  emitted = [];
  work = 0;
  stopped = None;
  hit = None;
}

abbrev pub control_made : Syntax16 → BlockName → Option Control16 → Option Block
control_made syntax block None = None
control_made syntax block (Some control) = ready_control syntax block control

-- what the ready block leaves is what the block leaves: the frame, the store, the octets that were emitted, and the work
pub record AreAlike (syntax : Syntax16) (left : Moment) (due : meaning.Moment) : Type 0 where
  pub frame : frame_in nobody (numbered16 syntax left.cells) ≡ due.frame
  pub store : left.store ≡ due.store
  pub emitted : left.emitted ≡ octet_bits due.emitted
  pub work : left.work ≡ due.work

abbrev pub RunAlike : Setting → BlockName → Cells → Option Block → Type 0
RunAlike c block cells None = ⊥
RunAlike c block cells (Some b) =
    let store = first_store (signature16 c.syntax) c.entries in
    AreAlike c.syntax (ready_run (fill_of c) b (ready cells store)) (control16 c block (meant c.syntax cells store))

-- from a packet whose first header has these numbers
abbrev pub BlockAlike : Setting → BlockName → ℕ → ℕ → ℕ → Type 0
BlockAlike c block x y z =
    RunAlike c block (cells_with c.syntax x y z) (control_made c.syntax block (control_at c.syntax block))

abbrev pub IngressAlike : Setting → ℕ → ℕ → ℕ → Type 0
IngressAlike c x y z = BlockAlike c Ingress x y z
