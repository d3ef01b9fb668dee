-- What is still to be done to make a condition ready.
use Rattle.std.specs.Prelude.{ℕ, ◌+◌, ◌*◌, false, if◌then◌else◌, List, [], ◌∷◌, length, flat_map}
use Rattle.p414_syntax.specs.declared.node.BinaryOperator.{BinaryOperator}
use Rattle.p414_syntax.specs.declared.syntax.Decl.{Decl}
use Rattle.p414_syntax.specs.Tree.{Expr, valid, truth, field, number, parenthesized, unary, binary}
use Rattle.p414_syntax.specs.Subtrees.{subexpressions}
use Rattle.p414_syntax.specs.Expressions.{takes_truth}
use Rattle.p414_sem.specs.Slots.{slot_of}
use Rattle.p414_slots.specs.Shown.{kept_slot}
use Rattle.p414_ready_conditions.specs.declared.making.Work.{Work}
use Rattle.p414_ready_conditions.specs.declared.making.Work.TheVariants as work
use Rattle.p414_ready_conditions.specs.declared.rows.ConditionRow.{ConditionRow}
use Rattle.p414_ready_conditions.specs.declared.rows.ConditionRow.TheVariants as row
use Rattle.p414_ready_conditions.specs.Rows.{number_rows, truth_rows, valid_row, comparison_width}

-- the rows that come of it
abbrev pub work_rows : List Decl → Work → List ConditionRow
work_rows ds (work.Truth e) = truth_rows ds e
work_rows ds (work.Number width e) = number_rows ds width e
work_rows ds (work.Row r) = r ∷ []

abbrev pub all_rows : List Decl → List Work → List ConditionRow
all_rows ds left = flat_map (work_rows ds) left

-- what it is done by, for an expression that is a number of so many bits
abbrev pub number_work : List Decl → ℕ → Expr → List Work
number_work ds width (valid i) = work.Row (row.Number 0) ∷ []
number_work ds width (truth b) = work.Row (row.Number 0) ∷ []
number_work ds width (field r) = work.Row (row.Field (kept_slot (slot_of ds r))) ∷ []
number_work ds width (number n) = work.Row (row.Number n.value) ∷ []
number_work ds width (parenthesized a) = work.Number width a ∷ []
number_work ds width (unary o a) = work.Number width a ∷ work.Row (row.Unary o width) ∷ []
number_work ds width (binary o a b) = work.Number width b ∷ work.Number width a ∷ work.Row (row.Binary o width) ∷ []

-- the same of a truth value

abbrev pub joined_work : List Decl → BinaryOperator → Expr → Expr → List Work
joined_work ds o a b =
    if takes_truth o then work.Truth b ∷ work.Truth a ∷ work.Row (row.Join o) ∷ []
    else
    work.Number (comparison_width ds a b) b ∷ work.Number (comparison_width ds a b) a ∷ work.Row (row.Compare o) ∷ []

abbrev pub truth_work : List Decl → Expr → List Work
truth_work ds (valid i) = work.Row (valid_row ds i) ∷ []
truth_work ds (truth b) = work.Row (row.Truth b) ∷ []
truth_work ds (field r) = work.Row (row.Truth false) ∷ []
truth_work ds (number n) = work.Row (row.Truth false) ∷ []
truth_work ds (parenthesized a) = work.Truth a ∷ []
truth_work ds (unary o a) = work.Truth a ∷ work.Row (row.Turn o) ∷ []
truth_work ds (binary o a b) = joined_work ds o a b

-- how much it is, at most
abbrev pub weight : Work → ℕ
weight (work.Truth e) = 2 * length (subexpressions e)
weight (work.Number width e) = 2 * length (subexpressions e)
weight (work.Row r) = 1

abbrev pub weight_of : List Work → ℕ
weight_of [] = 0
weight_of (w ∷ left) = weight w + weight_of left
