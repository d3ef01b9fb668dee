-- Widths of fields and literals, and depths, as the rules of P4_14 give them (this project's own, the limits, too;
-- P4_14 1.0.5, "Header Type Declarations", "Value Specifications", "Header and Metadata Instances").
use Rattle.std.specs.Prelude.{ℕ, ◌<◌, ◌≤◌, length}
use Rattle.p414_syntax.specs.Tree.{Expr, number, parenthesized, unary, binary}
use Rattle.p414_sem.specs.Slots.{Slot}
use Rattle.p414_sem.specs.Conditions.{literal_width}
use Rattle.lower_laws_base.specs.Context.{Lowering, words_of, instances_of, now, IsSlot}
use Rattle.lower_laws_base.specs.Mirror.{width_in}
use Rattle.lower_laws_rules.specs.Spelling.{SpeltNames}

-- a width of 1 to 128 bits
abbrev pub IsWidth : ℕ → Type 0
IsWidth width = (0 < width) × (width ≤ 128)

-- each field is 1 to 128 bits wide (C3; the fields of standard metadata are)
abbrev pub SlotsWide : Lowering → Type 0
SlotsWide c = (slot : Slot) → IsSlot c.layout slot → IsWidth (width_in (words_of c) slot)

-- each literal is 1 to 128 bits wide (as literals are read)
abbrev pub LiteralsWide : Expr → Type 0
LiteralsWide (number n) = IsWidth (literal_width n)
LiteralsWide (parenthesized a) = LiteralsWide a
LiteralsWide (unary o a) = LiteralsWide a
LiteralsWide (binary o a b) = LiteralsWide a × LiteralsWide b
LiteralsWide _ = Unit {0}

-- Names of what stands in the packet are spelt, and stacks are no longer than C4 allows.
pub record SpeltHere (c : Lowering) : Type 0 where
  pub words : SpeltNames (words_of c) now
  pub sizes : (i : ℕ) → i < length (instances_of c) → c.layout.size_of i ≤ 256
