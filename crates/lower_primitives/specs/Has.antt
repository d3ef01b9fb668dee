-- What stands by number in rows is in the table, and what is written has at most 128 bits (this project's own).
use Rattle.std.specs.Prelude.{ℕ, ◌<◌, length, List, [], ◌∷◌, Option, Some, None}
use Rattle.p414_sem.specs.Operations.{Term, just, on_mask, sum, difference, conjunction, disjunction, exclusive, left_shift, right_shift, cell, hashed}
use Rattle.lower_laws_base.specs.Context.{Words}
use Rattle.p414_slots.specs.Shown.{slot_in}
use Rattle.p414_ready_actions.specs.declared.rows.ReadyPrimitive.{ReadyPrimitive}
use Rattle.p414_ready_actions.specs.declared.rows.ReadyPrimitive.TheVariants as ready
use Rattle.p414_ready_actions.specs.Running.{shown_source, shown_target, shown_term}
use Rattle.lower_rows.specs.declared.calculations.HashItem.{HashItem}
use Rattle.lower_rows.specs.declared.calculations.HashItem.TheVariants as item
use Rattle.lower_rows.specs.Calculations.{calculation_at}
use Rattle.lower_expressions.specs.declared.table.WordsTable.{WordsTable}
use Rattle.lower_expressions.specs.Table.{words_in}
use Rattle.lower_expressions.specs.Has.{SlotHas, SourceHas, ObjectHas, TargetHas, IsInstance}

-- what a term names is in the table
abbrev pub TermHas : Words → Term → Type 0
TermHas w (just a) = SourceHas w a
TermHas w (on_mask a mask) = SourceHas w a × SourceHas w mask
TermHas w (sum a b) = SourceHas w a × SourceHas w b
TermHas w (difference a b) = SourceHas w a × SourceHas w b
TermHas w (conjunction a b) = SourceHas w a × SourceHas w b
TermHas w (disjunction a b) = SourceHas w a × SourceHas w b
TermHas w (exclusive a b) = SourceHas w a × SourceHas w b
TermHas w (left_shift a b) = SourceHas w a × SourceHas w b
TermHas w (right_shift a b) = SourceHas w a × SourceHas w b
TermHas w (cell object index) = ObjectHas w object × SourceHas w index
TermHas w (hashed base calculation bound) = ⊥

-- the items of a calculation

-- what an item of a calculation names is in the table
abbrev pub ItemHas : Words → HashItem → Type 0
ItemHas w (item.Number width value) = Unit {0}
ItemHas w (item.Field slot) = SlotHas w (slot_in slot)
ItemHas w item.Other = Unit {0}

-- the same of items
abbrev pub ItemsHave : Words → List HashItem → Type 0
ItemsHave w [] = Unit {0}
ItemsHave w (i ∷ items) = ItemHas w i × ItemsHave w items

-- rows

-- a calculation and what it reads are in the table
pub record HashHas (t : WordsTable) (calculation : ℕ) : Type 0 where
  pub within : calculation < length t.calculations.now
  pub items : ItemsHave (words_in t) (calculation_at t.calculations.now calculation).items

-- what the row of a primitive names is in the table
abbrev pub RowHas : WordsTable → ReadyPrimitive → Type 0
RowHas t (ready.Write target term) = TargetHas (words_in t) (shown_target target) × TermHas (words_in t) (shown_term term)
RowHas t (ready.Hash target base calculation bound) = TargetHas (words_in t) (shown_target target) × SourceHas (words_in t) (shown_source base) × SourceHas (words_in t) (shown_source bound) × HashHas t calculation
RowHas t (ready.AddHeader h) = IsInstance (words_in t) h.instance
RowHas t (ready.RemoveHeader h) = IsInstance (words_in t) h.instance
RowHas t (ready.CopyHeader h from) = IsInstance (words_in t) h.instance × IsInstance (words_in t) from.instance
RowHas t (ready.Push stack count) = IsInstance (words_in t) stack
RowHas t (ready.Pop stack count) = IsInstance (words_in t) stack
RowHas t (ready.Count object index) = ObjectHas (words_in t) object × SourceHas (words_in t) (shown_source index)
RowHas t (ready.WriteCell object index value) = ObjectHas (words_in t) object × SourceHas (words_in t) (shown_source index) × SourceHas (words_in t) (shown_source value)
RowHas t (ready.ExecuteMeter object index target) = ObjectHas (words_in t) object × SourceHas (words_in t) (shown_source index) × TargetHas (words_in t) (shown_target target)
RowHas t (ready.Ask kind session list) = SourceHas (words_in t) (shown_source session)
RowHas t ready.Nothing = Unit {0}

-- the same of rows
abbrev pub RowsHave : WordsTable → List ReadyPrimitive → Type 0
RowsHave t [] = Unit {0}
RowsHave t (row ∷ rows) = RowHas t row × RowsHave t rows

-- a direct counter
abbrev pub CounterHas : WordsTable → Option ℕ → Type 0
CounterHas t None = Unit {0}
CounterHas t (Some object) = ObjectHas (words_in t) object
