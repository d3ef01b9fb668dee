-- Seats of values of one form: a header, a stack or a struct of one type. A struct is looked into through so many structs within
-- each other at either seat that all of it is seen (this project's own).
use Rattle.std.specs.Prelude.{◌≡◌, ℕ, ◌+◌, ◌*◌, List, [], ◌∷◌}
use Rattle.p416_syntax.specs.Scopes.{Layout as TypeLayout, FieldKind, fields_in}
use Rattle.p416_syntax.specs.Totals.{bits_in}
use Rattle.v1_core.specs.Layouts.{Layout}
use Rattle.v1_core.specs.Cells.{Cells}
use Rattle.v1_core.specs.Seats.{Form, slot_form, header_form, stack_form, no_form, Start, behind, Seat, behind_seat}
use Rattle.v1_core.specs.PackedValues.{value_from}
use Rattle.v1_core.specs.Laid.{IsLaid}
use Rattle.v1_ready_laws.specs.Widths.{IsWide}

-- a header, a stack or a struct
abbrev pub IsParted : Form → Type 0
IsParted (slot_form of) = ⊥
IsParted no_form = ⊥
IsParted form = Unit {0}

-- both are of one form, and what is said of the one at its depth holds of it at that of the other
pub record OneForm (types : List TypeLayout) (t u : Seat) : Type 0 where
  pub form : u.form ≡ t.form
  pub ends : behind_seat types u ≡ behind types t.depth t.form u.start
  pub value : (c : Cells) (b : Start) → value_from types c t.depth t.form b ≡ value_from types c u.depth u.form b
  pub laid : (l : Layout) (b : Start) → IsLaid l types u.depth u.form b → IsLaid l types t.depth t.form b
  pub wide : (l : Layout) (b : Start) → IsWide l types u.depth u.form b → IsWide l types t.depth t.form b

-- the bits of a header
abbrev pub total_bits : List FieldKind → ℕ
total_bits [] = 0
total_bits (f ∷ fields) = bits_in f.kind + total_bits fields

-- a header or a stack, which is emitted, with headers of whole octets
abbrev pub IsEmitted : List TypeLayout → Form → Type 0
IsEmitted types (header_form type) = (k : ℕ) × (total_bits (fields_in types type) ≡ 8 * k)
IsEmitted types (stack_form type size) = (k : ℕ) × (total_bits (fields_in types type) ≡ 8 * k)
IsEmitted types form = ⊥
