-- What each form of expression gives: a number of some bits, at any place, at one moment.
use Rattle.std.proofs.Common.{◌≡◌, ◌≢◌, ◌⊎◌, inl, inr, eqb, ℕ, ◌<◌, ◌%◌, ◌^◌, true, false, cond, refl, sym, ap, ap₂, ◌∙◌, subst}
use Rattle.std.specs.Prelude.{ℤ, ◌+ℤ◌, ◌-ℤ◌, nat_eq}
use Rattle.std.proofs.Math.Nat.{mod-eq_of_lt}
use Rattle.std.proofs.lemmas.Bool.Decides.{eqb_tells}
use Rattle.p414_sem.specs.Wholes.{wrapped, complement, and_ℤ, or_ℤ, xor_ℤ}
use Rattle.p416_syntax.specs.declared.node.CastType.TheVariants as cast_to
use Rattle.p416_syntax.specs.declared.node.UnaryOperator.TheVariants.{Complement}
use Rattle.p416_syntax.specs.declared.node.BinaryOperator.{BinaryOperator}
use Rattle.p416_syntax.specs.declared.node.BinaryOperator.TheVariants.{Add, Subtract, BitAnd, BitOr, BitXor}
use Rattle.p416_syntax.specs.Tree.{Exp16, literal, cast, unary, binary}
use Rattle.p416_syntax.specs.Kinds.{Kind, bits, unknown}
use Rattle.p416_syntax.specs.Scopes.{Scope}
use Rattle.p416_syntax.specs.Calls.{Place}
use Rattle.p416_syntax.specs.Expressions.{kind_of, binary_kind, joint_bits, number_kind}
use Rattle.p416_syntax.specs.Uses.{left_place, right_place}
use Rattle.v1_core.specs.Values.{a_number}
use Rattle.v1_core.specs.Numbers.{of_numbers, binary_value, unary_value, cast_value}
use Rattle.v1_core.specs.Frames.{Moment, Reference, read}
use Rattle.v1_core.specs.Surroundings.{World}
use Rattle.v1_core.specs.Expressions.{Valued, valued, value_of}
use Rattle.lower_laws_base.specs.Mirror.{plain, sized, resized}
use Rattle.lower_laws_base.proofs.Wrap.{sum_wraps, difference_wraps, complement_wraps, wrap_and, wrap_or, wrap_xor}
use Rattle.lower_laws_base.proofs.Means.{Means}
use Rattle.lower_laws_base.specs.Gives.{Gives, Shows}

pub shows_number : (w : World) (s : Scope) (n : Moment) (e : Exp16) (width k : ℕ) → Gives w s n e width k → Shows w s n e (bits width) (a_number width k)
shows_number w s n e width k g = record { kind = g.kind; value = g.value }

pub same_number : (n : ℕ) → nat_eq n n ≡ true
same_number n = by (eqb_tells n n) where
  by : ((eqb n n ≡ true) × (n ≡ n)) ⊎ ((eqb n n ≡ false) × (n ≢ n)) → nat_eq n n ≡ true
  by (inl same) = same.0
  by (inr other) = absurd (other.1 refl)

module _ (w : World) (s : Scope) (n : Moment) where
  pub gives_literal : (width k : ℕ) → k < 2 ^ width → Gives w s n (literal (sized width k)) width k
  gives_literal width k fits = record {
    kind = refl;
    value = λ p. ap (λ j. valued (a_number width j) n) (mod-eq_of_lt fits);
  }

  pub gives_read : (e : Exp16) (width k : ℕ) (r : Reference) → Means w s e (bits width) r n → read n.frame r ≡ a_number width k → Gives w s n e width k
  gives_read e width k r m is = record {
    kind = m.kind;
    value = λ p. m.value p ∙ ap (λ v. valued v n) is;
  }

  pub gives_cast : (e : Exp16) (own width k : ℕ) → Gives w s n e own k → Gives w s n (cast (cast_to.Bit (plain width)) e) width (k % 2 ^ width)
  gives_cast e own width k g = record {
    kind = refl;
    value = λ p. ap (λ (x : Valued). valued (cast_value (cast_to.Bit (plain width)) x.value) x.moment) (g.value _);
  }

  -- bits of one width as those of another
  pub gives_resized : (e : Exp16) (own width k : ℕ) → k < 2 ^ own → Gives w s n e own k → Gives w s n (resized own width e) width (k % 2 ^ width)
  gives_resized e own width k fits g = by (eqb_tells own width) where
    by : ((eqb own width ≡ true) × (own ≡ width)) ⊎ ((eqb own width ≡ false) × (own ≢ width)) → Gives w s n (resized own width e) width (k % 2 ^ width)
    by (inl same) =
        subst (λ b. Gives w s n (cond b e (cast (cast_to.Bit (plain width)) e)) width (k % 2 ^ width)) (sym same.0)
        (subst (λ j. Gives w s n e width j) (sym (mod-eq_of_lt (subst (λ j. k < 2 ^ j) same.1 fits)))
        (subst (λ j. Gives w s n e j k) same.1 g))
    by (inr other) =
        subst (λ b. Gives w s n (cond b e (cast (cast_to.Bit (plain width)) e)) width (k % 2 ^ width)) (sym other.0) (gives_cast e own width k g)

  pub gives_complement : (e : Exp16) (width : ℕ) (z : ℤ) → Gives w s n e width (wrapped width z) → Gives w s n (unary Complement e) width (wrapped width (complement z))
  gives_complement e width z g = record {
    kind = ap number_kind g.kind;
    value = λ p. ap (λ (x : Valued). valued (unary_value Complement x.value) x.moment) (g.value _)
        ∙ ap (λ k. valued (a_number width k) n) (complement_wraps width z);
  }

  -- an operator between operands of one width, whose value is told by the numbers of these
  abbrev Evaluates : BinaryOperator → Type 0
  Evaluates op =
      (a b : Exp16) (p : Place) (m : Moment) →
      value_of w s p (binary op a b) m ≡
      (let x = value_of w s (left_place p op (kind_of s a) (kind_of s b)) a m in
      let y = value_of w s (right_place p op (kind_of s a) (kind_of s b)) b x.moment in valued (binary_value op x.value y.value) y.moment)

  abbrev Joins : BinaryOperator → Type 0
  Joins op = (a b : Kind) → binary_kind op a b ≡ joint_bits a b

  pub gives_both : (op : BinaryOperator) → Evaluates op → Joins op → (a b : Exp16) (width j k l : ℕ) → of_numbers op width j width k ≡ a_number width l → Gives w s n a width j → Gives w s n b width k → Gives w s n (binary op a b) width l
  gives_both op evaluates joins a b width j k l is x y = record {
    kind = joins (kind_of s a) (kind_of s b) ∙ ap₂ joint_bits x.kind y.kind ∙ ap (λ t. cond t (bits width) unknown) (same_number width);
    value = λ p. evaluates a b p n
        ∙ ap (λ (u : Valued). let v = value_of w s (right_place p op (kind_of s a) (kind_of s b)) b u.moment in valued (binary_value op u.value v.value) v.moment) (x.value _)
        ∙ ap (λ (v : Valued). valued (binary_value op (a_number width j) v.value) v.moment) (y.value _)
        ∙ ap (λ v. valued v n) is;
  }

  pub gives_sum : (a b : Exp16) (width : ℕ) (x y : ℤ) → Gives w s n a width (wrapped width x) → Gives w s n b width (wrapped width y) → Gives w s n (binary Add a b) width (wrapped width (x +ℤ y))
  gives_sum a b width x y = gives_both Add (λ a b p m. refl) (λ a b. refl) a b width _ _ _ (ap (a_number width) (sum_wraps width x y))

  pub gives_difference : (a b : Exp16) (width : ℕ) (x y : ℤ) → Gives w s n a width (wrapped width x) → Gives w s n b width (wrapped width y) → Gives w s n (binary Subtract a b) width (wrapped width (x -ℤ y))
  gives_difference a b width x y = gives_both Subtract (λ a b p m. refl) (λ a b. refl) a b width _ _ _ (ap (a_number width) (difference_wraps width x y))

  pub gives_and : (a b : Exp16) (width : ℕ) (x y : ℤ) → Gives w s n a width (wrapped width x) → Gives w s n b width (wrapped width y) → Gives w s n (binary BitAnd a b) width (wrapped width (and_ℤ x y))
  gives_and a b width x y = gives_both BitAnd (λ a b p m. refl) (λ a b. refl) a b width _ _ _ (ap (a_number width) (wrap_and width x y))

  pub gives_or : (a b : Exp16) (width : ℕ) (x y : ℤ) → Gives w s n a width (wrapped width x) → Gives w s n b width (wrapped width y) → Gives w s n (binary BitOr a b) width (wrapped width (or_ℤ x y))
  gives_or a b width x y = gives_both BitOr (λ a b p m. refl) (λ a b. refl) a b width _ _ _ (ap (a_number width) (wrap_or width x y))

  pub gives_xor : (a b : Exp16) (width : ℕ) (x y : ℤ) → Gives w s n a width (wrapped width x) → Gives w s n b width (wrapped width y) → Gives w s n (binary BitXor a b) width (wrapped width (xor_ℤ x y))
  gives_xor a b width x y = gives_both BitXor (λ a b p m. refl) (λ a b. refl) a b width _ _ _ (ap (a_number width) (wrap_xor width x y))
