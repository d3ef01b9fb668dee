-- Conditions break no rule.
use Rattle.std.proofs.Common.{◌≡◌, ℕ, suc, ◌+◌, ◌<◌, ◌≤◌, ◌^◌, max, Bool, true, false, cond, List, refl, subst, arith}
use Rattle.std.proofs.Math.Nat.{pow-le-pow_right}
use Rattle.p414_syntax.specs.declared.node.UnaryOperator.TheVariants as unary14
use Rattle.p414_syntax.specs.declared.node.BinaryOperator.{BinaryOperator as Binary14}
use Rattle.p414_syntax.specs.declared.node.BinaryOperator.TheVariants as op
use Rattle.p414_syntax.specs.declared.syntax.Decl.{Decl}
use Rattle.p414_syntax.specs.Tree.{Expr, valid, truth as truth14, field, number, parenthesized, unary as unary_of, binary as binary_of}
use Rattle.p414_syntax.specs.Nesting.{depth}
use Rattle.p414_syntax.specs.Primitives.{is_standard}
use Rattle.p414_sem.specs.Slots.{Element, slot_of, element_of}
use Rattle.p414_sem.specs.Conditions.{literal_width, operand_width}
use Rattle.p416_syntax.specs.Tree.{Exp16, truth, binary}
use Rattle.p416_syntax.specs.Names.{Name}
use Rattle.p416_syntax.specs.Kinds.{bits, boolean}
use Rattle.p416_syntax.specs.Scopes.{Scope}
use Rattle.agreement_of_meanings.specs.Shown.{Shown, as_header, as_stack, as_metadata}
use Rattle.lower_laws_base.specs.Context.{Local, Lowering, words_of, shown_in, element_kind, now, Sees, IsPart}
use Rattle.lower_laws_base.specs.Mirror.{width_in, part_exp}
use Rattle.lower_laws_controls.specs.Conditions.{namesake, number_exp, width_of_both, live_exp, is_valid_exp, joined_exp, truth_exp, IsSum, IsOperand, IsJoined, IsCondition}
use Rattle.lower_laws_rules.specs.Keeping.{Sound}
use Rattle.lower_laws_rules.specs.Standing.{can_at, slot_owner}
use Rattle.lower_laws_rules.proofs.Places.{deeper}
use Rattle.lower_laws_rules.proofs.Sound.{sound_literal, sound_truth, sound_resized, sound_complement, sound_not, sound_pair, sound_shift_left, sound_shift_right, sound_and, sound_or}
use Rattle.lower_laws_rules.proofs.Externs.{sound_valid}
use Rattle.lower_laws_rules.proofs.Sources.{sound_part, sound_slot}
use Rattle.lower_laws_block_rules.specs.Widths.{IsWidth, SlotsWide, LiteralsWide}

-- a number that fits some bits fits more
pub fits_more : (n v w : ℕ) → v ≤ w → n < 2 ^ v → n < 2 ^ w
fits_more n v w le lt = below n (2 ^ v) (2 ^ w) lt (pow-le-pow_right (omega arith) le) where
  below : (a b d : ℕ) → a < b → b ≤ d → a < d
  below a b d lt le = omega (arith, lt, le)

pub left_most : (a b w : ℕ) → max a b ≤ w → a ≤ w
left_most a b w le = omega (arith, le)

pub right_most : (a b w : ℕ) → max a b ≤ w → b ≤ w
right_most a b w le = omega (arith, le)

module _ (c : Lowering) (ds : List Decl) (wide : SlotsWide c) where
  -- the width of an operand is one
  pub operand_wide : (e : Expr) → IsOperand c.layout ds e → LiteralsWide e → IsWidth (operand_width ds e)
  operand_wide (field r) is l = subst IsWidth is.1 (wide (slot_of ds r) is.0)
  operand_wide (number n) is l = l
  operand_wide (parenthesized a) is l = operand_wide a is l
  operand_wide (unary_of unary14.Complement a) is l = operand_wide a is l
  operand_wide (unary_of unary14.Negate a) is l = absurd is
  operand_wide (unary_of unary14.Not a) is l = absurd is
  operand_wide (binary_of o a b) is l = both (operand_wide a is.1 l.0) (operand_wide b is.2 l.1) where
    both : {v w : ℕ} → IsWidth v → IsWidth w → IsWidth (max v w)
    both v w = (let a = v.0 in let b = w.0 in omega (arith, a, b), let a = v.1 in let b = w.1 in omega (arith, a, b))
  operand_wide (valid i) is l = absurd is
  operand_wide (truth14 b) is l = absurd is

module _ (c : Lowering) (ds : List Decl) (s : Scope) (ls : List Local) (sees : Sees c s ls) (wide : SlotsWide c) where
  -- one operator between two operands
  summed : (o : Binary14) (width : ℕ) (x y : Exp16) (m n : ℕ) → IsSum o → Sound s x (bits width) false m → Sound s y (bits width) false n → Sound s (binary (namesake o) x y) (bits width) false (suc (max m n))
  summed op.Multiply width x y m n is p q = sound_pair _ refl p q
  summed op.Add width x y m n is p q = sound_pair _ refl p q
  summed op.Subtract width x y m n is p q = sound_pair _ refl p q
  summed op.ShiftLeft width x y m n is p q = sound_shift_left p q
  summed op.ShiftRight width x y m n is p q = sound_shift_right p q
  summed op.BitAnd width x y m n is p q = sound_pair _ refl p q
  summed op.BitXor width x y m n is p q = sound_pair _ refl p q
  summed op.BitOr width x y m n is p q = sound_pair _ refl p q
  summed op.Less width x y m n is p q = absurd is
  summed op.LessEqual width x y m n is p q = absurd is
  summed op.Greater width x y m n is p q = absurd is
  summed op.GreaterEqual width x y m n is p q = absurd is
  summed op.Equal width x y m n is p q = absurd is
  summed op.NotEqual width x y m n is p q = absurd is
  summed op.And width x y m n is p q = absurd is
  summed op.Or width x y m n is p q = absurd is

  -- an operand, at a width that none of its parts passes
  pub sound_number : (width : ℕ) → IsWidth width → (e : Expr) → IsOperand c.layout ds e → operand_width ds e ≤ width → Sound s (number_exp (words_of c) ds width e) (bits width) false (depth e + 4)
  sound_number width w (field r) is le = sound_resized s _ (width_in (words_of c) (slot_of ds r)) width 4 (can_at c now (slot_owner c (slot_of ds r))) w.0 w.1 (sound_slot c s ls sees now tt (slot_of ds r) is.0)
  sound_number width w (number n) is le = deeper 5 (omega arith) (sound_literal s width n.value (fits_more n.value (literal_width n) width le is))
  sound_number width w (parenthesized a) is le = sound_number width w a is le
  sound_number width w (unary_of unary14.Complement a) is le = deeper _ (omega arith) (sound_complement s _ width (depth a + 4) false (sound_number width w a is le))
  sound_number width w (unary_of unary14.Negate a) is le = absurd is
  sound_number width w (unary_of unary14.Not a) is le = absurd is
  sound_number width w (binary_of o a b) is le =
      deeper _ (omega arith)
      (summed o width _ _ (depth a + 4) (depth b + 4) is.0
      (sound_number width w a is.1 (left_most (operand_width ds a) (operand_width ds b) width le))
      (sound_number width w b is.2 (right_most (operand_width ds a) (operand_width ds b) width le)))
  sound_number width w (valid i) is le = absurd is
  sound_number width w (truth14 b) is le = absurd is

  -- conditions

  pub sound_is_valid : (of : Element) → IsPart c.layout of → Sound s (is_valid_exp (words_of c) of) boolean false 5
  sound_is_valid of is = by (shown_in c of.instance) (c.type_of of.instance) _ (sound_part c s ls sees now tt of is) where
    by : (x : Shown) (type : Name) (can : Bool) → Sound s (part_exp (words_of c) now of) (element_kind x type) can 3 → Sound s (live_exp x (part_exp (words_of c) now of)) boolean false 5
    by (as_header called fields) type can p = sound_valid p
    by (as_stack called fields) type can p = sound_valid p
    by (as_metadata called fields) type can p = deeper 5 (omega arith) (sound_truth s true)

  compared : (o : Binary14) (a b : Expr) (joined : Type 0) → IsJoined o joined (IsOperand c.layout ds a × IsOperand c.layout ds b) → LiteralsWide a → LiteralsWide b → (x y : Exp16) → (joined → Sound s x boolean false (depth a + 4) × Sound s y boolean false (depth b + 4)) → Sound s (joined_exp o x y (binary (namesake o) (number_exp (words_of c) ds (width_of_both ds a b) a) (number_exp (words_of c) ds (width_of_both ds a b) b))) boolean false (suc (max (depth a + 4) (depth b + 4)))
  compared o a b joined is l m x y parts = by o is where
    operands : IsOperand c.layout ds a × IsOperand c.layout ds b → Sound s (number_exp (words_of c) ds (width_of_both ds a b) a) (bits (width_of_both ds a b)) false (depth a + 4) × Sound s (number_exp (words_of c) ds (width_of_both ds a b) b) (bits (width_of_both ds a b)) false (depth b + 4)
    operands both =
        let v : IsWidth (operand_width ds a) = operand_wide c ds wide a both.0 l in
        let w : IsWidth (operand_width ds b) = operand_wide c ds wide b both.1 m in
        let is_wide : IsWidth (width_of_both ds a b) = (let p = v.0 in let q = w.0 in omega (arith, p, q), let p = v.1 in let q = w.1 in omega (arith, p, q)) in
        (sound_number (width_of_both ds a b) is_wide a both.0 (omega arith), sound_number (width_of_both ds a b) is_wide b both.1 (omega arith))

    by : (o : Binary14) → IsJoined o joined (IsOperand c.layout ds a × IsOperand c.layout ds b) → Sound s (joined_exp o x y (binary (namesake o) (number_exp (words_of c) ds (width_of_both ds a b) a) (number_exp (words_of c) ds (width_of_both ds a b) b))) boolean false (suc (max (depth a + 4) (depth b + 4)))
    by op.And is = let p = parts is in sound_and p.0 p.1
    by op.Or is = let p = parts is in sound_or p.0 p.1
    by op.Less is = let p = operands is in sound_pair _ refl p.0 p.1
    by op.LessEqual is = let p = operands is in sound_pair _ refl p.0 p.1
    by op.Greater is = let p = operands is in sound_pair _ refl p.0 p.1
    by op.GreaterEqual is = let p = operands is in sound_pair _ refl p.0 p.1
    by op.Equal is = let p = operands is in sound_pair _ refl p.0 p.1
    by op.NotEqual is = let p = operands is in sound_pair _ refl p.0 p.1
    by op.Multiply is = absurd is
    by op.Add is = absurd is
    by op.Subtract is = absurd is
    by op.ShiftLeft is = absurd is
    by op.ShiftRight is = absurd is
    by op.BitAnd is = absurd is
    by op.BitXor is = absurd is
    by op.BitOr is = absurd is

  pub sound_condition : (e : Expr) → IsCondition c.layout ds e → LiteralsWide e → Sound s (truth_exp (words_of c) ds e) boolean false (depth e + 4)
  sound_condition (valid i) is l = by (is_standard i.name) is where
    by : (b : Bool) → (b ≡ false → IsPart c.layout (element_of ds i)) → Sound s (cond b (truth true) (is_valid_exp (words_of c) (element_of ds i))) boolean false 5
    by true is = deeper 5 (omega arith) (sound_truth s true)
    by false is = sound_is_valid (element_of ds i) (is refl)
  sound_condition (truth14 b) is l = deeper 5 (omega arith) (sound_truth s b)
  sound_condition (parenthesized a) is l = sound_condition a is l
  sound_condition (unary_of unary14.Not a) is l = deeper _ (omega arith) (sound_not s _ (depth a + 4) false (sound_condition a is l))
  sound_condition (unary_of unary14.Complement a) is l = absurd is
  sound_condition (unary_of unary14.Negate a) is l = absurd is
  sound_condition (binary_of o a b) is l =
      deeper _ (omega arith)
      (compared o a b _ is l.0 l.1 _ _ (λ both. (sound_condition a both.0 l.0, sound_condition b both.1 l.1)))
  sound_condition (field r) is l = absurd is
  sound_condition (number n) is l = absurd is
