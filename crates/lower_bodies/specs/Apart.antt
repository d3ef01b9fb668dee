-- What rows of primitives read and change. A calculation stands by number: `items` are the fields that each one
-- reads (this project's own; P4_14 1.0.5, "Actions").
use Rattle.std.specs.Prelude.{◌≡◌, ℕ, Bool, true, false, not, ◌&&◌, List, [], ◌∷◌, ◌++◌, map, flat_map, slice_get, Option, Some, None}
use Rattle.std.specs.List.{list_any}
use Rattle.std.specs.Global.{Vec}
use Rattle.p414_syntax.specs.declared.syntax.Decl.{Decl}
use Rattle.p414_sem.specs.Calculations.{Calculation, no_calculation}
use Rattle.p414_sem.specs.Operations.{Primitive, write, hashed}
use Rattle.p414_slots.specs.declared.slot.FieldSlot.{FieldSlot}
use Rattle.p414_slots.specs.Shown.{slot_in}
use Rattle.p414_ready_actions.specs.declared.rows.ReadyPrimitive.{ReadyPrimitive}
use Rattle.p414_ready_actions.specs.declared.rows.ReadyPrimitive.TheVariants as ready
use Rattle.p414_ready_actions.specs.Running.{shown, shown_source, shown_target}
use Rattle.lower_laws_actions.specs.Apart.{Part, number_of, both_read, target_reads, reads, changes, are_apart}

-- which primitive a row is
abbrev pub shown_row : (ℕ → Calculation) → ReadyPrimitive → Primitive
shown_row calculations (ready.Hash target base calculation bound) =
    write false (shown_target target) (hashed (shown_source base) (calculations calculation) (shown_source bound))
shown_row calculations row = shown row

-- the number of the field in this slot
abbrev pub number_in : FieldSlot → Part
number_in slot = number_of (slot_in slot)

-- the fields that the calculation with this number reads
abbrev pub slots_read : Option (Vec FieldSlot) → List Part
slots_read (Some slots) = map number_in slots.items
slots_read None = []

-- the fields that a calculation reads, by its number
abbrev pub items_read : List (Vec FieldSlot) → ℕ → List Part
items_read items calculation = slots_read (slice_get items calculation)

-- what a row reads
abbrev pub row_reads : List (Vec FieldSlot) → ReadyPrimitive → List Part
row_reads items (ready.Hash target base calculation bound) =
    target_reads (slot_in target.slot) ++ (both_read (shown_source base) (shown_source bound) ++ items_read items calculation)
row_reads items row = reads [] (shown row)

-- whether a row changes a part
abbrev pub row_changes : ReadyPrimitive → Part → Bool
row_changes row part = changes (shown_row (λ n. no_calculation) row) part

-- no row reads what an earlier one changes, as `are_apart` says it of primitives
abbrev pub rows_apart : List (Vec FieldSlot) → List ReadyPrimitive → Bool
rows_apart items [] = true
rows_apart items (row ∷ rows) = not (list_any (row_changes row) (flat_map (row_reads items) rows)) && rows_apart items rows

-- a primitive reads and changes what a row does
pub record IsAlike (ds : List Decl) (items : List (Vec FieldSlot)) (p : Primitive) (row : ReadyPrimitive) : Type 0 where
  pub reads_same : reads ds p ≡ row_reads items row
  pub changes_same : (x : Part) → changes p x ≡ row_changes row x

-- primitives read and change what rows do, one by one
abbrev pub AreAlike : List Decl → List (Vec FieldSlot) → List Primitive → List ReadyPrimitive → Type 0
AreAlike ds items [] [] = Unit {0}
AreAlike ds items (p ∷ ps) (row ∷ rows) = IsAlike ds items p row × AreAlike ds items ps rows
AreAlike ds items _ _ = ⊥

-- rows are apart where primitives that read and change the same are
abbrev pub AlikeAreApart : Type 0
AlikeAreApart = (ds : List Decl) (items : List (Vec FieldSlot)) (ps : List Primitive) (rows : List ReadyPrimitive) → AreAlike ds items ps rows → rows_apart items rows ≡ are_apart ds ps
