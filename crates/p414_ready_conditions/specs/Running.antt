-- What rows do with a stack of numbers, of which the first is the one that was put last (P4_14 1.0.5, "Packet Processing and
-- Control Flow"). On an empty stack stands 0.
use Rattle.std.specs.Prelude.{ℕ, Bool, false, ◌==◌, List, [], ◌∷◌, fold}
use Rattle.p4x_bits.specs.BitLists.{bit}
use Rattle.p414_sem.specs.State.{State, is_valid, read}
use Rattle.p414_sem.specs.Conditions.{unary_number, binary_number, compares, unary_truth, binary_truth}
use Rattle.p414_slots.specs.Shown.{slot_in}
use Rattle.p414_ready_conditions.specs.declared.rows.ConditionRow.{ConditionRow}
use Rattle.p414_ready_conditions.specs.declared.rows.ConditionRow.TheVariants as row

abbrev pub top : List ℕ → ℕ
top [] = 0
top (n ∷ stack) = n

abbrev pub below : List ℕ → List ℕ
below [] = []
below (n ∷ stack) = stack

-- the truth value that a number stands for
abbrev pub is_one : ℕ → Bool
is_one n = n == 1

abbrev pub put_unary : (ℕ → ℕ) → List ℕ → List ℕ
put_unary f stack = f (top stack) ∷ below stack

abbrev pub put_binary : (ℕ → ℕ → ℕ) → List ℕ → List ℕ
put_binary f stack = f (top stack) (top (below stack)) ∷ below (below stack)

abbrev pub step : State → List ℕ → ConditionRow → List ℕ
step s stack (row.Number n) = n ∷ stack
step s stack (row.Field slot) = read s (slot_in slot) ∷ stack
step s stack (row.Valid instance element) = bit (is_valid s instance element) ∷ stack
step s stack (row.Truth b) = bit b ∷ stack
step s stack (row.Unary o width) = put_unary (unary_number width o) stack
step s stack (row.Binary o width) = put_binary (binary_number width o) stack
step s stack (row.Compare o) = put_binary (λ (a b : ℕ). bit (compares o a b)) stack
step s stack (row.Turn o) = put_unary (λ (a : ℕ). bit (unary_truth o (is_one a))) stack
step s stack (row.Join o) = put_binary (λ (a b : ℕ). bit (binary_truth o (is_one a) (is_one b) false)) stack

-- what rows leave on a stack, and whether they hold
abbrev pub after_rows : State → List ℕ → List ConditionRow → List ℕ
after_rows s stack rows = fold (step s) stack rows

abbrev pub rows_hold : State → List ConditionRow → Bool
rows_hold s rows = is_one (top (after_rows s [] rows))
