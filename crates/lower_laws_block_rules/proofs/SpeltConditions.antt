-- Fields and conditions are spelt, where names are.
use Rattle.std.proofs.Common.{◌≡◌, ℕ, ◌<◌, ◌≤◌, ◌^◌, Bool, true, false, cond, List, length, refl, arith}
use Rattle.p414_syntax.specs.declared.node.UnaryOperator.TheVariants as unary14
use Rattle.p414_syntax.specs.declared.node.BinaryOperator.{BinaryOperator as Binary14}
use Rattle.p414_syntax.specs.declared.node.BinaryOperator.TheVariants as op
use Rattle.p414_syntax.specs.declared.syntax.Decl.{Decl}
use Rattle.p414_syntax.specs.Tree.{Expr, valid, truth as truth14, field, number, parenthesized, unary as unary_of, binary as binary_of}
use Rattle.p414_syntax.specs.Primitives.{is_standard}
use Rattle.p414_sem.specs.Slots.{Slot, standard, declared, Element, slot_of, element_of}
use Rattle.p414_sem.specs.Conditions.{literal_width, operand_width}
use Rattle.p416_syntax.specs.Tree.{Exp16, truth, binary}
use Rattle.agreement_of_meanings.specs.Shown.{Shown, as_header, as_stack, as_metadata}
use Rattle.lower_laws_base.specs.Context.{Lowering, words_of, shown_in, instances_of, now, IsPart, IsSlot}
use Rattle.lower_laws_base.specs.Mirror.{width_in, slot_exp, part_exp}
use Rattle.lower_laws_controls.specs.Conditions.{namesake, number_exp, width_of_both, live_exp, is_valid_exp, joined_exp, truth_exp, IsOperand, IsJoined, IsCondition}
use Rattle.lower_laws_rules.specs.Spelling.{SpeltExp}
use Rattle.lower_laws_rules.proofs.SpeltParts.{resized_spelt, sized_spelt, element_spelt, slot_spelt}
use Rattle.lower_laws_block_rules.specs.Widths.{IsWidth, SlotsWide, LiteralsWide, SpeltHere}
use Rattle.lower_laws_block_rules.proofs.Conditions.{fits_more, left_most, right_most, operand_wide}

module _ (c : Lowering) (facts : SpeltHere c) where
  small : (i e : ℕ) → i < length (instances_of c) → e < c.layout.size_of i → e < 2 ^ 128
  small i e lt less = let few = facts.sizes i lt in omega (arith, few, less)

  pub slot_here : (s : Slot) → IsSlot c.layout s → SpeltExp (slot_exp (words_of c) now s)
  slot_here (standard which) is = slot_spelt (words_of c) now facts.words (standard which) tt
  slot_here (declared i e k) is = slot_spelt (words_of c) now facts.words (declared i e k) (is.0, small i e is.0 is.1, is.3)

  pub part_here : (p : Element) → IsPart c.layout p → SpeltExp (part_exp (words_of c) now p)
  part_here p is = element_spelt (words_of c) now facts.words p.instance p.element is.0 (small p.instance p.element is.0 is.1)

  module _ (ds : List Decl) (wide : SlotsWide c) where
    pub number_here : (width : ℕ) → IsWidth width → (e : Expr) → IsOperand c.layout ds e → operand_width ds e ≤ width → SpeltExp (number_exp (words_of c) ds width e)
    number_here width w (field r) is le = resized_spelt (width_in (words_of c) (slot_of ds r)) width _ w.0 w.1 (slot_here (slot_of ds r) is.0)
    number_here width w (number n) is le = sized_spelt width n.value w.0 w.1 (fits_more n.value (literal_width n) width le is)
    number_here width w (parenthesized a) is le = number_here width w a is le
    number_here width w (unary_of unary14.Complement a) is le = number_here width w a is le
    number_here width w (unary_of unary14.Negate a) is le = absurd is
    number_here width w (unary_of unary14.Not a) is le = absurd is
    number_here width w (binary_of o a b) is le =
        (number_here width w a is.1 (left_most (operand_width ds a) (operand_width ds b) width le), number_here width w b is.2 (right_most (operand_width ds a) (operand_width ds b) width le))
    number_here width w (valid i) is le = absurd is
    number_here width w (truth14 b) is le = absurd is

    pub valid_here : (of : Element) → IsPart c.layout of → SpeltExp (is_valid_exp (words_of c) of)
    valid_here of is = by (shown_in c of.instance) (part_here of is) where
      by : (x : Shown) → SpeltExp (part_exp (words_of c) now of) → SpeltExp (live_exp x (part_exp (words_of c) now of))
      by (as_header called fields) p = ((p, refl), tt)
      by (as_stack called fields) p = ((p, refl), tt)
      by (as_metadata called fields) p = tt

    compared : (o : Binary14) (a b : Expr) (joined : Type 0) → IsJoined o joined (IsOperand c.layout ds a × IsOperand c.layout ds b) → LiteralsWide a → LiteralsWide b → (x y : Exp16) → (joined → SpeltExp x × SpeltExp y) → SpeltExp (joined_exp o x y (binary (namesake o) (number_exp (words_of c) ds (width_of_both ds a b) a) (number_exp (words_of c) ds (width_of_both ds a b) b)))
    compared o a b joined is l m x y parts = by o is where
      operands : IsOperand c.layout ds a × IsOperand c.layout ds b → SpeltExp (number_exp (words_of c) ds (width_of_both ds a b) a) × SpeltExp (number_exp (words_of c) ds (width_of_both ds a b) b)
      operands both =
          let v : IsWidth (operand_width ds a) = operand_wide c ds wide a both.0 l in
          let w : IsWidth (operand_width ds b) = operand_wide c ds wide b both.1 m in
          let is_wide : IsWidth (width_of_both ds a b) = (let p = v.0 in let q = w.0 in omega (arith, p, q), let p = v.1 in let q = w.1 in omega (arith, p, q)) in
          (number_here (width_of_both ds a b) is_wide a both.0 (omega arith), number_here (width_of_both ds a b) is_wide b both.1 (omega arith))

      by : (o : Binary14) → IsJoined o joined (IsOperand c.layout ds a × IsOperand c.layout ds b) → SpeltExp (joined_exp o x y (binary (namesake o) (number_exp (words_of c) ds (width_of_both ds a b) a) (number_exp (words_of c) ds (width_of_both ds a b) b)))
      by op.And is = parts is
      by op.Or is = parts is
      by op.Less is = operands is
      by op.LessEqual is = operands is
      by op.Greater is = operands is
      by op.GreaterEqual is = operands is
      by op.Equal is = operands is
      by op.NotEqual is = operands is
      by op.Multiply is = absurd is
      by op.Add is = absurd is
      by op.Subtract is = absurd is
      by op.ShiftLeft is = absurd is
      by op.ShiftRight is = absurd is
      by op.BitAnd is = absurd is
      by op.BitXor is = absurd is
      by op.BitOr is = absurd is

    pub condition_here : (e : Expr) → IsCondition c.layout ds e → LiteralsWide e → SpeltExp (truth_exp (words_of c) ds e)
    condition_here (valid i) is l = by (is_standard i.name) is where
      by : (b : Bool) → (b ≡ false → IsPart c.layout (element_of ds i)) → SpeltExp (cond b (truth true) (is_valid_exp (words_of c) (element_of ds i)))
      by true is = tt
      by false is = valid_here (element_of ds i) (is refl)
    condition_here (truth14 b) is l = tt
    condition_here (parenthesized a) is l = condition_here a is l
    condition_here (unary_of unary14.Not a) is l = condition_here a is l
    condition_here (unary_of unary14.Complement a) is l = absurd is
    condition_here (unary_of unary14.Negate a) is l = absurd is
    condition_here (binary_of o a b) is l = compared o a b _ is l.0 l.1 _ _ (λ both. (condition_here a both.0 l.0, condition_here b both.1 l.1))
    condition_here (field r) is l = absurd is
    condition_here (number n) is l = absurd is
