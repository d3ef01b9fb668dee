-- Which rows are kept of primitives: each primitive but a hash as `p414_ready_actions` keeps it, and of a hash the number of its
-- calculation, whose items stand in the table by number (this project's own; P4_14 1.0.5, "Primitive Actions").
use Rattle.std.specs.Prelude.{◌≡◌, ◌⊎◌, ◌<◌, length, ℕ, Bool, true, false, List, [], ◌∷◌}
use Rattle.p414_syntax.specs.declared.syntax.Decl.{Decl}
use Rattle.p414_sem.specs.Slots.{Target}
use Rattle.p414_sem.specs.Calculations.{Calculation}
use Rattle.p414_sem.specs.Operations.{Source, Term, hashed, Primitive, write}
use Rattle.p414_ready_actions.specs.declared.rows.ReadyPrimitive.{ReadyPrimitive}
use Rattle.p414_ready_actions.specs.declared.rows.ReadyPrimitive.TheVariants as ready
use Rattle.p414_ready_actions.specs.Rows.{kept_source, kept_target, kept_primitive}
use Rattle.lower_expressions.specs.declared.table.WordsTable.{WordsTable}
use Rattle.lower_rows.specs.Calculations.{calculation_at, kept_calculation}

-- no hash

-- a term is no hash
abbrev pub is_plain_term : Term → Bool
is_plain_term (hashed base calculation bound) = false
is_plain_term _ = true

-- a primitive is no hash
abbrev pub is_plain : Primitive → Bool
is_plain (write sums target term) = is_plain_term term
is_plain _ = true

-- the row of a primitive that is no hash
pub record PlainKept (p : Primitive) (row : ReadyPrimitive) : Type 0 where
  pub plain : is_plain p ≡ true
  pub row_is : row ≡ kept_primitive p

-- a hash
pub record HashKept (ds : List Decl) (t : WordsTable) (p : Primitive) (row : ReadyPrimitive) : Type 0 where
  pub target : Target
  pub base : Source
  pub calculation : Calculation
  pub bound : Source
  pub number : ℕ
  pub primitive_is : p ≡ write false target (hashed base calculation bound)
  pub row_is : row ≡ ready.Hash (kept_target false target) (kept_source base) number (kept_source bound)
  pub within : number < length t.calculations.now
  pub calculation_is : calculation_at t.calculations.now number ≡ kept_calculation ds calculation

-- a row is kept of a primitive
abbrev pub IsKept : List Decl → WordsTable → Primitive → ReadyPrimitive → Type 0
IsKept ds t p row = PlainKept p row ⊎ HashKept ds t p row

-- rows are kept of primitives, one of each
abbrev pub AreKept : List Decl → WordsTable → List Primitive → List ReadyPrimitive → Type 0
AreKept ds t [] [] = Unit {0}
AreKept ds t (p ∷ ps) (row ∷ rows) = IsKept ds t p row × AreKept ds t ps rows
AreKept ds t _ _ = ⊥
