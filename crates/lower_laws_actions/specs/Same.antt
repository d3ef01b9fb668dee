-- Moments that are the same in a part (this project's own; P4_14 1.0.5, "Headers and Fields", "Registers").
use Rattle.std.specs.Prelude.{◌≡◌, ℕ, length}
use Rattle.state_store.specs.State.{Contents, read as read_cell}
use Rattle.p414_sem.specs.State.{header_of, is_valid_at, elements_at, read}
use Rattle.p414_sem.specs.Effects.{Moment}
use Rattle.lower_laws_actions.specs.Apart.{Part, number_of, form_of, whole_of, elements_of, cells_of}

-- all cells of an object are the same
abbrev pub SameCells : Contents → Contents → ℕ → Type 0
SameCells a b object = (index : ℕ) → read_cell a object index ≡ read_cell b object index

-- a part is the same in both moments
abbrev pub Same : Moment → Moment → Part → Type 0
Same r m (number_of slot) = read r.state slot ≡ read m.state slot
Same r m (form_of header) = (is_valid_at r.state header ≡ is_valid_at m.state header) × (length (header_of r.state header).numbers ≡ length (header_of m.state header).numbers)
Same r m (whole_of header) = header_of r.state header ≡ header_of m.state header
Same r m (elements_of instance) = elements_at r.state instance ≡ elements_at m.state instance
Same r m (cells_of object) = SameCells r.store m.store object

-- what no primitive changes: the octets that aren't parsed, and the shapes of the store
pub record SameElse (r m : Moment) : Type 0 where
  pub unparsed : r.state.unparsed ≡ m.state.unparsed
  pub shapes : r.store.shapes ≡ m.store.shapes
