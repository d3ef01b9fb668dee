-- Rows tell whether their condition holds.
use Rattle.std.proofs.Common.{◌≡◌, ℕ, Bool, true, false, cond, List, [], ◌∷◌, ◌++◌, refl, ap, ap₂, ◌∙◌}
use Rattle.std.specs.Prelude.{◌||◌}
use Rattle.std.proofs.lemmas.List.Sums.{fold-append}
use Rattle.p4x_bits.specs.BitLists.{bit}
use Rattle.p414_syntax.specs.declared.node.BinaryOperator.{BinaryOperator}
use Rattle.p414_syntax.specs.declared.node.BinaryOperator.TheVariants.{Multiply, Add, Subtract, ShiftLeft, ShiftRight, BitAnd, BitXor, BitOr, Less, LessEqual, Greater, GreaterEqual, Equal, NotEqual, And, Or}
use Rattle.p414_syntax.specs.declared.syntax.Decl.{Decl}
use Rattle.p414_syntax.specs.Tree.{Expr, valid, truth, field, number, parenthesized, unary, binary}
use Rattle.p414_syntax.specs.Primitives.{is_standard}
use Rattle.p414_syntax.specs.Expressions.{takes_truth}
use Rattle.p414_sem.specs.Slots.{Slot, standard, declared, slot_of, Element, element_of}
use Rattle.p414_sem.specs.State.{State, is_valid_at, read}
use Rattle.p414_sem.specs.Conditions.{number_at, compares, unary_truth, binary_truth, holds}
use Rattle.p414_slots.specs.Shown.{slot_in, kept_slot}
use Rattle.p414_ready_conditions.specs.declared.rows.ConditionRow.{ConditionRow}
use Rattle.p414_ready_conditions.specs.declared.rows.ConditionRow.TheVariants as row
use Rattle.p414_ready_conditions.specs.Rows.{number_rows, truth_rows, comparison_width, element_row}
use Rattle.p414_ready_conditions.specs.Running.{is_one, step, top, after_rows, rows_hold}
use Rattle.p414_ready_conditions.specs.Meaning.{MeansCondition}

slot_back : (slot : Slot) → slot_in (kept_slot slot) ≡ slot
slot_back (standard which) = refl
slot_back (declared i e f) = refl

one_back : (b : Bool) → is_one (bit b) ≡ b
one_back true = refl
one_back false = refl

-- operators on truth values know of no comparison, and comparisons of no truth values

joins : (o : BinaryOperator) (a b compared : Bool) → takes_truth o ≡ true → binary_truth o a b false ≡ binary_truth o a b compared
joins And a b c e = refl
joins Or a b c e = refl
joins Multiply a b c e = absurd (cc e)
joins Add a b c e = absurd (cc e)
joins Subtract a b c e = absurd (cc e)
joins ShiftLeft a b c e = absurd (cc e)
joins ShiftRight a b c e = absurd (cc e)
joins BitAnd a b c e = absurd (cc e)
joins BitXor a b c e = absurd (cc e)
joins BitOr a b c e = absurd (cc e)
joins Less a b c e = absurd (cc e)
joins LessEqual a b c e = absurd (cc e)
joins Greater a b c e = absurd (cc e)
joins GreaterEqual a b c e = absurd (cc e)
joins Equal a b c e = absurd (cc e)
joins NotEqual a b c e = absurd (cc e)

compared_alone : (o : BinaryOperator) (a b compared : Bool) → takes_truth o ≡ false → compared ≡ binary_truth o a b compared
compared_alone And a b c e = absurd (cc e)
compared_alone Or a b c e = absurd (cc e)
compared_alone Multiply a b c e = refl
compared_alone Add a b c e = refl
compared_alone Subtract a b c e = refl
compared_alone ShiftLeft a b c e = refl
compared_alone ShiftRight a b c e = refl
compared_alone BitAnd a b c e = refl
compared_alone BitXor a b c e = refl
compared_alone BitOr a b c e = refl
compared_alone Less a b c e = refl
compared_alone LessEqual a b c e = refl
compared_alone Greater a b c e = refl
compared_alone GreaterEqual a b c e = refl
compared_alone Equal a b c e = refl
compared_alone NotEqual a b c e = refl

module _ (ds : List Decl) (s : State) where
  -- rows of two operands, and the operator behind them
  behind_both : (first second : List ConditionRow) (r : ConditionRow) (stack : List ℕ) → after_rows s stack ((first ++ second) ++ r ∷ []) ≡ step s (after_rows s (after_rows s stack first) second) r
  behind_both first second r stack =
      fold-append (step s) stack (first ++ second) (r ∷ []) ∙ ap (λ (now : List ℕ). step s now r) (fold-append (step s) stack first second)

  both_over : (first second : List ConditionRow) (a b : ℕ) (stack : List ℕ) → after_rows s stack first ≡ b ∷ stack → after_rows s (b ∷ stack) second ≡ a ∷ b ∷ stack → after_rows s (after_rows s stack first) second ≡ a ∷ b ∷ stack
  both_over first second a b stack e f = ap (λ (now : List ℕ). after_rows s now second) e ∙ f

  after_number : (width : ℕ) (e : Expr) (stack : List ℕ) → after_rows s stack (number_rows ds width e) ≡ number_at ds width s e ∷ stack
  after_number width (valid i) stack = refl
  after_number width (truth b) stack = refl
  after_number width (field r) stack = ap (λ (slot : Slot). read s slot ∷ stack) (slot_back (slot_of ds r))
  after_number width (number n) stack = refl
  after_number width (parenthesized a) stack = after_number width a stack
  after_number width (unary o a) stack =
      fold-append (step s) stack (number_rows ds width a) (row.Unary o width ∷ [])
      ∙ ap (λ (now : List ℕ). step s now (row.Unary o width)) (after_number width a stack)
  after_number width (binary o a b) stack =
      fold-append (step s) stack (number_rows ds width b) (number_rows ds width a ++ row.Binary o width ∷ [])
      ∙ (fold-append (step s) (after_rows s stack (number_rows ds width b)) (number_rows ds width a) (row.Binary o width ∷ [])
      ∙ ap (λ (now : List ℕ). step s now (row.Binary o width))
      (both_over (number_rows ds width b) (number_rows ds width a) (number_at ds width s a) (number_at ds width s b) stack (after_number width b stack) (after_number width a (number_at ds width s b ∷ stack))))

  after_valid : (at : Element) (standard_one : Bool) (stack : List ℕ) → step s stack (cond standard_one (row.Truth true) (element_row at)) ≡ bit (standard_one || is_valid_at s at) ∷ stack
  after_valid at true stack = refl
  after_valid at false stack = refl

  -- what stands behind two operands

  after_joined : (o : BinaryOperator) (a b : Expr) (truths : Bool) (stack : List ℕ) → takes_truth o ≡ truths → (after_rows s (after_rows s stack (truth_rows ds b)) (truth_rows ds a) ≡ bit (holds ds s a) ∷ bit (holds ds s b) ∷ stack) → after_rows s stack (cond truths ((truth_rows ds b ++ truth_rows ds a) ++ row.Join o ∷ []) ((number_rows ds (comparison_width ds a b) b ++ number_rows ds (comparison_width ds a b) a) ++ row.Compare o ∷ [])) ≡ bit (holds ds s (binary o a b)) ∷ stack
  after_joined o a b true stack is both =
      behind_both (truth_rows ds b) (truth_rows ds a) (row.Join o) stack
      ∙ (ap (λ (now : List ℕ). step s now (row.Join o)) both
      ∙ ap (λ (t : Bool). bit t ∷ stack)
      (ap₂ (λ (p q : Bool). binary_truth o p q false) (one_back (holds ds s a)) (one_back (holds ds s b))
      ∙ joins o (holds ds s a) (holds ds s b) (compares o (number_at ds (comparison_width ds a b) s a) (number_at ds (comparison_width ds a b) s b)) is))
  after_joined o a b false stack is both =
      behind_both (number_rows ds (comparison_width ds a b) b) (number_rows ds (comparison_width ds a b) a) (row.Compare o) stack
      ∙ (ap (λ (now : List ℕ). step s now (row.Compare o))
      (both_over (number_rows ds (comparison_width ds a b) b) (number_rows ds (comparison_width ds a b) a) (number_at ds (comparison_width ds a b) s a) (number_at ds (comparison_width ds a b) s b) stack
      (after_number (comparison_width ds a b) b stack) (after_number (comparison_width ds a b) a (number_at ds (comparison_width ds a b) s b ∷ stack)))
      ∙ ap (λ (t : Bool). bit t ∷ stack)
      (compared_alone o (holds ds s a) (holds ds s b) (compares o (number_at ds (comparison_width ds a b) s a) (number_at ds (comparison_width ds a b) s b)) is))

  after_truth : (e : Expr) (stack : List ℕ) → after_rows s stack (truth_rows ds e) ≡ bit (holds ds s e) ∷ stack
  after_truth (valid i) stack = after_valid (element_of ds i) (is_standard i.name) stack
  after_truth (truth b) stack = refl
  after_truth (field r) stack = refl
  after_truth (number n) stack = refl
  after_truth (parenthesized a) stack = after_truth a stack
  after_truth (unary o a) stack =
      fold-append (step s) stack (truth_rows ds a) (row.Turn o ∷ [])
      ∙ (ap (λ (now : List ℕ). step s now (row.Turn o)) (after_truth a stack)
      ∙ ap (λ (t : Bool). bit (unary_truth o t) ∷ stack) (one_back (holds ds s a)))
  after_truth (binary o a b) stack =
      after_joined o a b (takes_truth o) stack refl
      (ap (λ (now : List ℕ). after_rows s now (truth_rows ds a)) (after_truth b stack) ∙ after_truth a (bit (holds ds s b) ∷ stack))

pub rows_mean : (ds : List Decl) (e : Expr) (rows : List ConditionRow) → rows ≡ truth_rows ds e → MeansCondition ds e rows
rows_mean ds e rows are = record {
  tells = λ s.
      ap (rows_hold s) are ∙ (ap (λ (stack : List ℕ). is_one (top stack)) (after_truth ds s e []) ∙ one_back (holds ds s e));
}
