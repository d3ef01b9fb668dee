-- What operands and conditions give.
use Rattle.std.proofs.Common.{◌≡◌, ℕ, ◌<◌, ◌≤◌, ◌-◌, ◌^◌, Bool, true, false, not, ◌&&◌, ◌||◌, cond, List, refl, sym, ap, ◌∙◌, subst, arith}
use Rattle.std.proofs.Math.Nat.{mod-eq_of_lt}
use Rattle.std.proofs.Math.Pow.{pow_mono}
use Rattle.p414_syntax.specs.declared.node.UnaryOperator.TheVariants as unary14
use Rattle.p414_syntax.specs.declared.node.BinaryOperator.{BinaryOperator as Binary14}
use Rattle.p414_syntax.specs.declared.node.BinaryOperator.TheVariants as op
use Rattle.p414_syntax.specs.declared.syntax.Decl.{Decl}
use Rattle.p414_syntax.specs.Tree.{Expr, valid, truth as truth14, field, number, parenthesized, unary as unary_of, binary as binary_of}
use Rattle.p414_syntax.specs.Primitives.{is_standard}
use Rattle.p414_sem.specs.Slots.{Element, slot_of, element_of}
use Rattle.p414_sem.specs.State.{State, read as read14, is_valid_at, instance_at}
use Rattle.agreement_of_meanings.specs.Shown.{Shown, as_header, as_stack, as_metadata, is_metadata}
use Rattle.p414_sem.specs.Conditions.{operand_width, number_at, binary_number, holds}
use Rattle.p416_syntax.specs.declared.node.UnaryOperator.TheVariants as unary16
use Rattle.p416_syntax.specs.declared.node.BinaryOperator.{BinaryOperator}
use Rattle.p416_syntax.specs.declared.node.BinaryOperator.TheVariants.{Multiply, Add, Subtract, ShiftLeft, ShiftRight, BitAnd, BitXor, BitOr, Less, LessEqual, Greater, GreaterEqual, Equal, NotEqual, And, Or}
use Rattle.p416_syntax.specs.Tree.{Exp16, truth, unary, binary}
use Rattle.p416_syntax.specs.Kinds.{Kind, boolean}
use Rattle.p416_syntax.specs.Scopes.{Scope}
use Rattle.p416_syntax.specs.Calls.{Place, value}
use Rattle.p416_syntax.specs.Expressions.{kind_of, number_kind, binary_kind}
use Rattle.p416_syntax.specs.Uses.{left_place, right_place}
use Rattle.v1_core.specs.Values.{Value, a_number, a_truth, is_true}
use Rattle.v1_core.specs.Numbers.{of_numbers, binary_value, unary_value}
use Rattle.v1_core.specs.Frames.{Moment}
use Rattle.v1_core.specs.Surroundings.{World}
use Rattle.v1_core.specs.Expressions.{Valued, valued, value_of}
use Rattle.lower_laws_base.specs.Context.{Local, Lowering, words_of, shown_in, now, Looks, IsPart, IsShaped}
use Rattle.lower_laws_base.specs.Mirror.{width_in, slot_exp, part_exp}
use Rattle.lower_laws_base.proofs.Gives.{gives_literal, gives_resized, gives_both}
use Rattle.lower_laws_base.proofs.Shapes.{slot_bounded}
use Rattle.lower_laws_base.proofs.Sources.{gives_slot}
use Rattle.lower_laws_base.proofs.Writes.{header_shows}
use Rattle.lower_laws_controls.specs.Conditions.{namesake, number_exp, width_of_both, live_exp, truth_exp, is_valid_exp, IsSum, IsOperand, IsCondition}
use Rattle.lower_laws_base.specs.Gives.{Gives, Shows}

module _ (w : World) (s : Scope) (n : Moment) where
  -- a shift, whose right side has any width
  gives_shift : (o : BinaryOperator) → ((a b : Exp16) (p : Place) → value_of w s p (binary o a b) n ≡ (let x = value_of w s (left_place p o (kind_of s a) (kind_of s b)) a n in let y = value_of w s (right_place p o (kind_of s a) (kind_of s b)) b x.moment in valued (binary_value o x.value y.value) y.moment)) → ((a b : Kind) → binary_kind o a b ≡ number_kind a) → (a b : Exp16) (width j k l : ℕ) → of_numbers o width j width k ≡ a_number width l → Gives w s n a width j → Gives w s n b width k → Gives w s n (binary o a b) width l
  gives_shift o evaluates kinds a b width j k l is x y = record {
    kind = kinds (kind_of s a) (kind_of s b) ∙ ap number_kind x.kind;
    value = λ p. evaluates a b p
        ∙ ap (λ (u : Valued). let v = value_of w s (right_place p o (kind_of s a) (kind_of s b)) b u.moment in valued (binary_value o u.value v.value) v.moment) (x.value _)
        ∙ ap (λ (v : Valued). valued (binary_value o (a_number width j) v.value) v.moment) (y.value _)
        ∙ ap (λ z. valued z n) is;
  }

  gives_not : (a : Exp16) (width k : ℕ) → Gives w s n a width k → Gives w s n (unary unary16.Complement a) width (2 ^ width - 1 - k)
  gives_not a width k g = record {
    kind = ap number_kind g.kind;
    value = λ p. ap (λ (x : Valued). valued (unary_value unary16.Complement x.value) x.moment) (g.value _);
  }

  abbrev At : Exp16 → ℕ → ℕ → Type 0
  At e width k = Gives w s n e width k

  -- each operator of numbers
  gives_operator : (o : Binary14) → IsSum o → (a b : Exp16) (width j k : ℕ) → At a width j → At b width k → At (binary (namesake o) a b) width (binary_number width o j k)
  gives_operator op.Multiply is a b width j k = gives_both w s n Multiply (λ a b p m. refl) (λ a b. refl) a b width j k _ refl
  gives_operator op.Add is a b width j k = gives_both w s n Add (λ a b p m. refl) (λ a b. refl) a b width j k _ refl
  gives_operator op.Subtract is a b width j k = gives_both w s n Subtract (λ a b p m. refl) (λ a b. refl) a b width j k _ refl
  gives_operator op.ShiftLeft is a b width j k = gives_shift ShiftLeft (λ a b p. refl) (λ a b. refl) a b width j k _ refl
  gives_operator op.ShiftRight is a b width j k = gives_shift ShiftRight (λ a b p. refl) (λ a b. refl) a b width j k _ refl
  gives_operator op.BitAnd is a b width j k = gives_both w s n BitAnd (λ a b p m. refl) (λ a b. refl) a b width j k _ refl
  gives_operator op.BitXor is a b width j k = gives_both w s n BitXor (λ a b p m. refl) (λ a b. refl) a b width j k _ refl
  gives_operator op.BitOr is a b width j k = gives_both w s n BitOr (λ a b p m. refl) (λ a b. refl) a b width j k _ refl
  gives_operator op.Less is a b width j k = absurd is
  gives_operator op.LessEqual is a b width j k = absurd is
  gives_operator op.Greater is a b width j k = absurd is
  gives_operator op.GreaterEqual is a b width j k = absurd is
  gives_operator op.Equal is a b width j k = absurd is
  gives_operator op.NotEqual is a b width j k = absurd is
  gives_operator op.And is a b width j k = absurd is
  gives_operator op.Or is a b width j k = absurd is

  abbrev Tells : Exp16 → Bool → Type 0
  Tells e b = Shows w s n e boolean (a_truth b)

  pub shows_negated : (a : Exp16) (b : Bool) → Tells a b → Tells (unary unary16.Not a) (not b)
  shows_negated a b g = record { kind = refl; value = λ p. ap (λ (x : Valued). valued (unary_value unary16.Not x.value) x.moment) (g.value _) }

  pub shows_and : (a b : Exp16) (x y : Bool) → Tells a x → Tells b y → Tells (binary And a b) (x && y)
  shows_and a b x y g h = record {
    kind = refl;
    value = λ p. ap (λ (v : Valued). cond (is_true v.value) (value_of w s (value boolean) b v.moment) v) (g.value (value boolean)) ∙ by x;
  } where
    by : (x : Bool) → cond x (value_of w s (value boolean) b n) (valued (a_truth x) n) ≡ valued (a_truth (x && y)) n
    by true = h.value _
    by false = refl

  shows_or : (a b : Exp16) (x y : Bool) → Tells a x → Tells b y → Tells (binary Or a b) (x || y)
  shows_or a b x y g h = record {
    kind = refl;
    value = λ p. ap (λ (v : Valued). cond (is_true v.value) v (value_of w s (value boolean) b v.moment)) (g.value (value boolean)) ∙ by x;
  } where
    by : (x : Bool) → cond x (valued (a_truth x) n) (value_of w s (value boolean) b n) ≡ valued (a_truth (x || y)) n
    by true = refl
    by false = h.value _

  -- a comparison of bits of one width
  pub shows_compared : (o : BinaryOperator) → ((a b : Exp16) (p : Place) → value_of w s p (binary o a b) n ≡ (let x = value_of w s (left_place p o (kind_of s a) (kind_of s b)) a n in let y = value_of w s (right_place p o (kind_of s a) (kind_of s b)) b x.moment in valued (binary_value o x.value y.value) y.moment)) → ((a b : Kind) → binary_kind o a b ≡ boolean) → (a b : Exp16) (width j k : ℕ) (t : Bool) → of_numbers o width j width k ≡ a_truth t → At a width j → At b width k → Tells (binary o a b) t
  shows_compared o evaluates kinds a b width j k t is x y = record {
    kind = kinds (kind_of s a) (kind_of s b);
    value = λ p. evaluates a b p
        ∙ ap (λ (u : Valued). let v = value_of w s (right_place p o (kind_of s a) (kind_of s b)) b u.moment in valued (binary_value o u.value v.value) v.moment) (x.value _)
        ∙ ap (λ (v : Valued). valued (binary_value o (a_number width j) v.value) v.moment) (y.value _)
        ∙ ap (λ z. valued z n) is;
  }

module _ (c : Lowering) (s : Scope) (ls : List Local) (vs : List Value) (arguments : List ℕ) (r : State) (n : Moment) (looks : Looks c s ls vs arguments now r n.frame) (ds : List Decl) where
  -- an operand at a width that each of its parts fits
  pub gives_operand : (width : ℕ) (e : Expr) → IsOperand c.layout ds e → operand_width ds e ≤ width → Gives c.world s n (number_exp (words_of c) ds width e) width (number_at ds width r e)
  gives_operand width (valid i) is le = absurd is
  gives_operand width (truth14 b) is le = absurd is
  gives_operand width (field f) is le =
      let own = width_in (words_of c) (slot_of ds f) in
      let k = read14 r (slot_of ds f) in
      let below = slot_bounded c.layout r looks.seen.shaped (slot_of ds f) is.0 in
      let within : own ≤ width = omega (arith, is.1, le) in
      let fits : k < 2 ^ width = omega (arith, below, pow_mono within) in
      subst (λ j. Gives c.world s n (number_exp (words_of c) ds width (field f)) width j) (mod-eq_of_lt fits)
      (gives_resized c.world s n (slot_exp (words_of c) now (slot_of ds f)) own width k below (gives_slot c s ls vs arguments now r n looks (slot_of ds f) is.0))
  gives_operand width (number l) is le =
      gives_literal c.world s n width l.value (omega (arith, is, pow_mono le))
  gives_operand width (parenthesized a) is le = gives_operand width a is le
  gives_operand width (unary_of unary14.Complement a) is le = gives_not c.world s n _ width _ (gives_operand width a is le)
  gives_operand width (unary_of unary14.Negate a) is le = absurd is
  gives_operand width (unary_of unary14.Not a) is le = absurd is
  gives_operand width (binary_of o a b) is le =
      gives_operator c.world s n o is.0 _ _ width _ _ (gives_operand width a is.1 (omega (arith, le))) (gives_operand width b is.2 (omega (arith, le)))

  abbrev Tell : Exp16 → Bool → Type 0
  Tell e b = Shows c.world s n e boolean (a_truth b)

  -- whether a header is valid; metadata always is
  pub shows_live : (at : Element) → IsPart c.layout at → Tell (is_valid_exp (words_of c) at) (is_valid_at r at)
  shows_live at is = by (shown_in c at.instance) refl (looks.seen.shaped.each at.instance at.element is.0 is.1) where
    by : (x : Shown) → shown_in c at.instance ≡ x → IsShaped x (instance_at r at.instance) at.element → Tell (live_exp x (part_exp (words_of c) now at)) (is_valid_at r at)
    by (as_header called fields) same has = header_shows c s ls vs arguments now r n looks at (is, ap is_metadata same)
    by (as_stack called fields) same has = header_shows c s ls vs arguments now r n looks at (is, ap is_metadata same)
    by (as_metadata called fields) same has = record { kind = refl; value = λ p. ap (λ b. valued (a_truth b) n) (sym has.which.1) }

  shows_valid_instance : (i : _) → IsCondition c.layout ds (valid i) → Tell (truth_exp (words_of c) ds (valid i)) (holds ds r (valid i))
  shows_valid_instance i is = by (is_standard i.name) is where
    by : (b : Bool) → (b ≡ false → IsPart c.layout (element_of ds i)) → Tell (cond b (truth true) (is_valid_exp (words_of c) (element_of ds i))) (b || is_valid_at r (element_of ds i))
    by true part = record { kind = refl; value = λ p. refl }
    by false part = shows_live (element_of ds i) (part refl)

  joins : (o : Binary14) (a b : Expr) → IsCondition c.layout ds (binary_of o a b) → (IsCondition c.layout ds a → Tell (truth_exp (words_of c) ds a) (holds ds r a)) → (IsCondition c.layout ds b → Tell (truth_exp (words_of c) ds b) (holds ds r b)) → Tell (truth_exp (words_of c) ds (binary_of o a b)) (holds ds r (binary_of o a b))
  joins op.And a b is f g = shows_and c.world s n _ _ _ _ (f is.0) (g is.1)
  joins op.Or a b is f g = shows_or c.world s n _ _ _ _ (f is.0) (g is.1)
  joins op.Less a b is f g = shows_compared c.world s n Less (λ a b p. refl) (λ a b. refl) _ _ (width_of_both ds a b) _ _ _ refl (gives_operand _ a is.0 (omega arith)) (gives_operand _ b is.1 (omega arith))
  joins op.LessEqual a b is f g = shows_compared c.world s n LessEqual (λ a b p. refl) (λ a b. refl) _ _ (width_of_both ds a b) _ _ _ refl (gives_operand _ a is.0 (omega arith)) (gives_operand _ b is.1 (omega arith))
  joins op.Greater a b is f g = shows_compared c.world s n Greater (λ a b p. refl) (λ a b. refl) _ _ (width_of_both ds a b) _ _ _ refl (gives_operand _ a is.0 (omega arith)) (gives_operand _ b is.1 (omega arith))
  joins op.GreaterEqual a b is f g = shows_compared c.world s n GreaterEqual (λ a b p. refl) (λ a b. refl) _ _ (width_of_both ds a b) _ _ _ refl (gives_operand _ a is.0 (omega arith)) (gives_operand _ b is.1 (omega arith))
  joins op.Equal a b is f g = shows_compared c.world s n Equal (λ a b p. refl) (λ a b. refl) _ _ (width_of_both ds a b) _ _ _ refl (gives_operand _ a is.0 (omega arith)) (gives_operand _ b is.1 (omega arith))
  joins op.NotEqual a b is f g = shows_compared c.world s n NotEqual (λ a b p. refl) (λ a b. refl) _ _ (width_of_both ds a b) _ _ _ refl (gives_operand _ a is.0 (omega arith)) (gives_operand _ b is.1 (omega arith))
  joins op.Multiply a b is f g = absurd is
  joins op.Add a b is f g = absurd is
  joins op.Subtract a b is f g = absurd is
  joins op.ShiftLeft a b is f g = absurd is
  joins op.ShiftRight a b is f g = absurd is
  joins op.BitAnd a b is f g = absurd is
  joins op.BitXor a b is f g = absurd is
  joins op.BitOr a b is f g = absurd is

  -- a condition gives whether it holds
  pub shows_condition : (e : Expr) → IsCondition c.layout ds e → Tell (truth_exp (words_of c) ds e) (holds ds r e)
  shows_condition (valid i) is = shows_valid_instance i is
  shows_condition (truth14 b) is = record { kind = refl; value = λ p. refl }
  shows_condition (field f) is = absurd is
  shows_condition (number l) is = absurd is
  shows_condition (parenthesized a) is = shows_condition a is
  shows_condition (unary_of unary14.Not a) is = shows_negated c.world s n _ _ (shows_condition a is)
  shows_condition (unary_of unary14.Complement a) is = absurd is
  shows_condition (unary_of unary14.Negate a) is = absurd is
  shows_condition (binary_of o a b) is = joins o a b is (shows_condition a) (shows_condition b)
