-- Conditions of a program that keeps the rules on sorts of expressions and on minus signs.
use Rattle.std.proofs.Common.{◌≡◌, ◌<◌, ◌^◌, Bool, true, false, not, ◌||◌, List, ◌++◌, refl, sym, ◌∙◌}
use Rattle.std.specs.List.{list_any}
use Rattle.std.proofs.lemmas.List.Folds.{list_any-append}
use Rattle.p414_syntax.specs.Subtrees.{subexpressions}
use Rattle.p414_syntax.specs.declared.node.UnaryOperator.TheVariants as unary14
use Rattle.p414_syntax.specs.declared.node.BinaryOperator.{BinaryOperator as Binary14}
use Rattle.p414_syntax.specs.declared.node.BinaryOperator.TheVariants as op
use Rattle.p414_syntax.specs.declared.syntax.Decl.{Decl}
use Rattle.p414_syntax.specs.Tree.{Expr, valid, truth as truth14, field, number, parenthesized, unary as unary_of, binary as binary_of}
use Rattle.p414_syntax.specs.Expressions.{is_truth, takes_truth, gives_truth, is_of_other_sort, has_wrong_operand, is_mistyped, is_negation, is_negated_within}
use Rattle.p414_syntax.specs.Primitives.{is_standard}
use Rattle.p414_sem.specs.Slots.{slot_of, element_of, bits_of_ref}
use Rattle.p414_sem.specs.Conditions.{literal_width}
use Rattle.agreement_of_meanings.specs.Shown.{slot_width}
use Rattle.lower_laws_base.specs.Context.{StateLayout, IsPart, IsSlot}
use Rattle.lower_laws_controls.specs.Conditions.{IsSum, IsOperand, IsCondition, IsJoined}
use Rattle.lower_laws_controls.proofs.Expanding.{neither}

-- what stands at the leaves is of the program
abbrev pub LeavesFit : StateLayout → List Decl → Expr → Type 0
LeavesFit g ds (valid i) = is_standard i.name ≡ false → IsPart g (element_of ds i)
LeavesFit g ds (truth14 b) = Unit {0}
LeavesFit g ds (field r) = IsSlot g (slot_of ds r) × (slot_width g.names.instances (slot_of ds r) ≡ bits_of_ref ds r)
LeavesFit g ds (number n) = n.value < 2 ^ literal_width n
LeavesFit g ds (parenthesized a) = LeavesFit g ds a
LeavesFit g ds (unary_of o a) = LeavesFit g ds a
LeavesFit g ds (binary_of o a b) = LeavesFit g ds a × LeavesFit g ds b

-- no operand is of the other sort, and no minus sign stands there
abbrev Plain : Expr → Type 0
Plain e = (list_any has_wrong_operand (subexpressions e) ≡ false) × (list_any is_negation (subexpressions e) ≡ false)

halves : (p : Expr → Bool) (a b : Expr) → list_any p (subexpressions a ++ subexpressions b) ≡ false → (list_any p (subexpressions a) ≡ false) × (list_any p (subexpressions b) ≡ false)
halves p a b e = neither (list_any p (subexpressions a)) (list_any p (subexpressions b)) (sym (list_any-append p (subexpressions a) (subexpressions b)) ∙ e)

-- the operands of an operator
record Sides (o : Binary14) (a b : Expr) : Type 0 where
  pub left : is_of_other_sort (takes_truth o) a ≡ false
  pub right : is_of_other_sort (takes_truth o) b ≡ false
  pub first : Plain a
  pub second : Plain b

sides : (o : Binary14) (a b : Expr) → Plain (binary_of o a b) → Sides o a b
sides o a b plain =
    let w = neither (is_of_other_sort (takes_truth o) a || is_of_other_sort (takes_truth o) b) (list_any has_wrong_operand (subexpressions a ++ subexpressions b)) plain.0 in
    let s = neither (is_of_other_sort (takes_truth o) a) (is_of_other_sort (takes_truth o) b) w.0 in
    let x = halves has_wrong_operand a b w.1 in
    let y = halves is_negation a b plain.1 in
    record { left = s.0; right = s.1; first = (x.0, y.0); second = (x.1, y.1) }

sum_is : (o : Binary14) → gives_truth o ≡ false → IsSum o × (takes_truth o ≡ false)
sum_is op.Multiply e = (tt, refl)
sum_is op.Add e = (tt, refl)
sum_is op.Subtract e = (tt, refl)
sum_is op.ShiftLeft e = (tt, refl)
sum_is op.ShiftRight e = (tt, refl)
sum_is op.BitAnd e = (tt, refl)
sum_is op.BitXor e = (tt, refl)
sum_is op.BitOr e = (tt, refl)
sum_is _ e = absurd (cc e)

joined_is : (o : Binary14) (J C : Type 0) → gives_truth o ≡ true → (takes_truth o ≡ true → J) → (takes_truth o ≡ false → C) → IsJoined o J C
joined_is op.And J C e j c = j refl
joined_is op.Or J C e j c = j refl
joined_is op.Less J C e j c = c refl
joined_is op.LessEqual J C e j c = c refl
joined_is op.Greater J C e j c = c refl
joined_is op.GreaterEqual J C e j c = c refl
joined_is op.Equal J C e j c = c refl
joined_is op.NotEqual J C e j c = c refl
joined_is _ J C e j c = absurd (cc e)

-- of this sort
told : (b : Bool) (e : Expr) (t : Bool) → is_of_other_sort t e ≡ false → t ≡ b → is_truth e ≡ b
told true e true is same = by (is_truth e) is where
  by : (x : Bool) → not x ≡ false → x ≡ true
  by true e = refl
  by false e = absurd (cc e)
told false e false is same = is
told true e false is same = absurd (cc same)
told false e true is same = absurd (cc same)

module _ (g : StateLayout) (ds : List Decl) where
  operand : (e : Expr) → is_truth e ≡ false → Plain e → LeavesFit g ds e → IsOperand g ds e
  operand (valid i) is plain fit = absurd (cc is)
  operand (truth14 b) is plain fit = absurd (cc is)
  operand (field r) is plain fit = fit
  operand (number n) is plain fit = fit
  operand (parenthesized a) is plain fit = operand a is plain fit
  operand (unary_of unary14.Complement a) is plain fit =
      let w = neither (is_truth a) (list_any has_wrong_operand (subexpressions a)) plain.0 in operand a w.0 (w.1, plain.1) fit
  operand (unary_of unary14.Negate a) is plain fit = absurd (cc (plain.1))
  operand (unary_of unary14.Not a) is plain fit = absurd (cc is)
  operand (binary_of o a b) is plain fit =
      let sum = sum_is o is in
      let s = sides o a b plain in
      (sum.0, operand a (told false a (takes_truth o) s.left sum.1) s.first fit.0, operand b (told false b (takes_truth o) s.right sum.1) s.second fit.1)

  condition : (e : Expr) → is_truth e ≡ true → Plain e → LeavesFit g ds e → IsCondition g ds e
  condition (valid i) is plain fit = fit
  condition (truth14 b) is plain fit = tt
  condition (field r) is plain fit = absurd (cc is)
  condition (number n) is plain fit = absurd (cc is)
  condition (parenthesized a) is plain fit = condition a is plain fit
  condition (unary_of unary14.Not a) is plain fit =
      let w = neither (not (is_truth a)) (list_any has_wrong_operand (subexpressions a)) plain.0 in condition a (told true a true w.0 refl) (w.1, plain.1) fit
  condition (unary_of unary14.Complement a) is plain fit = absurd (cc is)
  condition (unary_of unary14.Negate a) is plain fit = absurd (cc is)
  condition (binary_of o a b) is plain fit =
      let s = sides o a b plain in
      joined_is o (IsCondition g ds a × IsCondition g ds b) (IsOperand g ds a × IsOperand g ds b) is
      (λ t. (condition a (told true a (takes_truth o) s.left t) s.first fit.0, condition b (told true b (takes_truth o) s.right t) s.second fit.1))
      (λ t. (operand a (told false a (takes_truth o) s.left t) s.first fit.0, operand b (told false b (takes_truth o) s.right t) s.second fit.1))

  -- A condition whose sorts are right and that has no minus sign.
  pub condition_fits : (e : Expr) → is_mistyped true e ≡ false → is_negated_within e ≡ false → LeavesFit g ds e → IsCondition g ds e
  condition_fits e typed minus fit =
      let s = neither (is_of_other_sort true e) (list_any has_wrong_operand (subexpressions e)) typed in
      condition e (told true e true s.0 refl) (s.1, minus) fit
