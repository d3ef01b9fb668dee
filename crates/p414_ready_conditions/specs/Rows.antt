-- What is kept of a condition (P4_14 1.0.5, "Packet Processing and Control Flow"): operands stand in front of their operators,
-- the right one first, names stand by number, and each operator of a comparison has the comparison's width.
use Rattle.std.specs.Prelude.{ℕ, ◌≤◌, max, true, false, if◌then◌else◌, List, [], ◌∷◌, ◌++◌}
use Rattle.p414_syntax.specs.declared.node.BinaryOperator.{BinaryOperator}
use Rattle.p414_syntax.specs.declared.parts.Inst.{Inst}
use Rattle.p414_syntax.specs.declared.syntax.Decl.{Decl}
use Rattle.p414_syntax.specs.Tree.{Expr, valid, truth, field, number, parenthesized, unary, binary}
use Rattle.p414_syntax.specs.Primitives.{is_standard}
use Rattle.p414_syntax.specs.Expressions.{takes_truth}
use Rattle.p414_sem.specs.Slots.{slot_of, Element, element_of}
use Rattle.p414_sem.specs.Conditions.{operand_width}
use Rattle.p414_slots.specs.Shown.{kept_slot}
use Rattle.p414_ready_conditions.specs.declared.rows.ConditionRow.{ConditionRow}
use Rattle.p414_ready_conditions.specs.declared.rows.ConditionRow.TheVariants as row

-- a number of so many bits; a truth value stands there only so that each function has all cases
abbrev pub number_rows : List Decl → ℕ → Expr → List ConditionRow
number_rows ds width (valid i) = row.Number 0 ∷ []
number_rows ds width (truth b) = row.Number 0 ∷ []
number_rows ds width (field r) = row.Field (kept_slot (slot_of ds r)) ∷ []
number_rows ds width (number n) = row.Number n.value ∷ []
number_rows ds width (parenthesized a) = number_rows ds width a
number_rows ds width (unary o a) = number_rows ds width a ++ row.Unary o width ∷ []
number_rows ds width (binary o a b) = number_rows ds width b ++ (number_rows ds width a ++ row.Binary o width ∷ [])

-- the width of a comparison
abbrev pub comparison_width : List Decl → Expr → Expr → ℕ
comparison_width ds a b = max (operand_width ds a) (operand_width ds b)

-- whether an instance is valid; `standard_metadata` always is
abbrev pub element_row : Element → ConditionRow
element_row at = row.Valid at.instance at.element

abbrev pub valid_row : List Decl → Inst → ConditionRow
valid_row ds i = if is_standard i.name then row.Truth true else element_row (element_of ds i)

-- an operator between two truth values, or a comparison
abbrev pub joined_rows : BinaryOperator → List ConditionRow → List ConditionRow → List ConditionRow
joined_rows o truths numbers = if takes_truth o then truths ++ row.Join o ∷ [] else numbers ++ row.Compare o ∷ []

-- a truth value
abbrev pub truth_rows : List Decl → Expr → List ConditionRow
truth_rows ds (valid i) = valid_row ds i ∷ []
truth_rows ds (truth b) = row.Truth b ∷ []
truth_rows ds (field r) = row.Truth false ∷ []
truth_rows ds (number n) = row.Truth false ∷ []
truth_rows ds (parenthesized a) = truth_rows ds a
truth_rows ds (unary o a) = truth_rows ds a ++ row.Turn o ∷ []
truth_rows ds (binary o a b) =
    joined_rows o (truth_rows ds b ++ truth_rows ds a)
    (number_rows ds (comparison_width ds a b) b ++ number_rows ds (comparison_width ds a b) a)

-- numbers have at most 128 bits
abbrev pub IsNarrow : ConditionRow → Type 0
IsNarrow (row.Unary o width) = width ≤ 128
IsNarrow (row.Binary o width) = width ≤ 128
IsNarrow _ = Unit {0}
