-- Sources at their own widths, shifts, and sums that stop at the bounds of a width.
use Rattle.std.proofs.Common.{◌*◌, ◌≡◌, ◌≢◌, ◌⊎◌, inl, inr, leb, eqb, ℕ, zero, suc, ◌+◌, ◌-◌, ◌/◌, ◌%◌, ◌^◌, ◌<◌, ◌≤◌, Bool, true, false, cond, List, refl, sym, ap, ap₂, ◌∙◌, subst, arith}
use Rattle.std.specs.Prelude.{ℤ, pos, negsuc, ◌+ℤ◌, ◌-ℤ◌, min, max, not}
use Rattle.std.proofs.Math.Nat.{mod-eq_of_lt, div-eq_of_lt, mul-mod_left, add-mod_right, div-le_self}
use Rattle.std.proofs.Math.Pow.{pow_mono}
use Rattle.std.proofs.lemmas.Int.{ints}
use Rattle.std.proofs.lemmas.Bool.Decides.{leb_tells, eqb_tells}
use Rattle.std.proofs.lemmas.Nat.{pow_pos, pow-add, mul-mod_first}
use Rattle.p414_sem.specs.Wholes.{wrapped, nearest}
use Rattle.p414_sem.specs.State.{State}
use Rattle.p414_sem.specs.Operations.{Source, number, field, parameter}
use Rattle.p414_sem.specs.Effects.{source_number, natural_of}
use Rattle.p416_syntax.specs.declared.node.CastType.TheVariants as cast_to
use Rattle.p416_syntax.specs.declared.node.BinaryOperator.TheVariants.{Subtract, SaturatingAdd, SaturatingSubtract, ShiftRight, ShiftLeft}
use Rattle.p416_syntax.specs.Tree.{Exp16, literal, cast, binary}
use Rattle.p416_syntax.specs.Scopes.{Scope}
use Rattle.p416_syntax.specs.Expressions.{kind_of, number_kind}
use Rattle.p416_syntax.specs.Uses.{right_place}
use Rattle.v1_core.specs.Values.{Value, a_number}
use Rattle.v1_core.specs.Numbers.{saturating_sum, difference, shifted_left, shifted_right, binary_value}
use Rattle.v1_core.specs.Frames.{Moment}
use Rattle.v1_core.specs.Surroundings.{World}
use Rattle.v1_core.specs.Expressions.{Valued, valued, value_of}
use Rattle.lower_laws_base.specs.Context.{Local, Lowering, words_of, At, Looks, SourceFits}
use Rattle.lower_laws_base.specs.Mirror.{plain, sized, source_exp}
use Rattle.lower_laws_base.proofs.Gives.{gives_literal, gives_cast, gives_both}
use Rattle.lower_laws_base.proofs.Shapes.{slot_bounded}
use Rattle.lower_laws_base.proofs.Sources.{gives_slot, gives_parameter, gives_source}
use Rattle.lower_laws_actions.specs.Mirror.{needed_from, needed, absolute, is_negative, own_width, own_exp, stop_exp, wide_of, signs_exp, both_exp}
use Rattle.lower_laws_actions.specs.Fits.{IsSmall, IsNatural}
use Rattle.lower_laws_base.specs.Gives.{Gives}

-- bits that a number needs

needed_enough : (more width n : ℕ) → n < 2 ^ (more + width) → n < 2 ^ needed_from more width n
needed_enough zero width n lt = subst (λ z. n < 2 ^ z) (plainly width) lt where
  plainly : (w : ℕ) → 0 + w ≡ w
  plainly w = omega arith
needed_enough (suc more) width n lt = by (leb_tells (suc n) (2 ^ width)) (needed_enough more (suc width) n (subst (λ z. n < 2 ^ z) (moved more width) lt)) where
  moved : (a b : ℕ) → suc a + b ≡ a + suc b
  moved a b = omega arith

  by : ((leb (suc n) (2 ^ width) ≡ true) × (suc n ≤ 2 ^ width)) ⊎ ((leb (suc n) (2 ^ width) ≡ false) × (2 ^ width < suc n)) → n < 2 ^ needed_from more (suc width) n → n < 2 ^ cond (leb (suc n) (2 ^ width)) width (needed_from more (suc width) n)
  by (inl fits) rest = subst (λ b. n < 2 ^ cond b width (needed_from more (suc width) n)) (sym fits.0) (omega (arith, fits.1))
  by (inr more_bits) rest = subst (λ b. n < 2 ^ cond b width (needed_from more (suc width) n)) (sym more_bits.0) rest

pub needs : (n : ℕ) → n < 2 ^ 128 → n < 2 ^ needed n
unfolding needed
needs n lt = needed_enough 127 1 n lt

-- sources that aren't negative

pub natural_is : (arguments : List ℕ) (r : State) (wide : ℕ) (a : Source) → IsNatural a → wrapped wide (source_number arguments r a) ≡ natural_of arguments r a % 2 ^ wide
natural_is arguments r wide (number (pos k)) is = refl
natural_is arguments r wide (number (negsuc k)) is = absurd is
natural_is arguments r wide (field slot) is = refl
natural_is arguments r wide (parameter j) is = refl

module _ (c : Lowering) (s : Scope) (ls : List Local) (vs : List Value) (arguments : List ℕ) (at : At) (r : State) (n : Moment) (looks : Looks c s ls vs arguments at r n.frame) where
  pub natural_below : (a : Source) → SourceFits c a → IsNatural a → natural_of arguments r a < 2 ^ own_width (words_of c) a
  natural_below (number (pos k)) fits is = needs k is
  natural_below (number (negsuc k)) fits is = absurd is
  natural_below (field slot) fits is = slot_bounded c.layout r looks.seen.shaped slot fits
  natural_below (parameter j) fits is = (looks.given j fits).fits

  pub gives_own : (a : Source) → SourceFits c a → IsNatural a → Gives c.world s n (own_exp (words_of c) at a) (own_width (words_of c) a) (natural_of arguments r a)
  gives_own (number (pos k)) fits is = gives_literal c.world s n (needed k) k (needs k is)
  gives_own (number (negsuc k)) fits is = absurd is
  gives_own (field slot) fits is = gives_slot c s ls vs arguments at r n looks slot fits
  gives_own (parameter j) fits is = gives_parameter c s ls vs arguments at r n looks j fits

  -- at bits enough a source keeps its number
  pub gives_wide : (wide : ℕ) (a : Source) → SourceFits c a → IsNatural a → own_width (words_of c) a ≤ wide → Gives c.world s n (source_exp (words_of c) at wide a) wide (natural_of arguments r a)
  gives_wide wide a fits is le =
      let below = natural_below a fits is in
      subst (Gives c.world s n (source_exp (words_of c) at wide a) wide) (natural_is arguments r wide a is ∙ mod-eq_of_lt (omega (arith, below, pow_mono le)))
      (gives_source c s ls vs arguments at r n looks wide a fits)

-- shifts

pub divided_below : (x count width : ℕ) → x < 2 ^ width → x / 2 ^ count < 2 ^ width
divided_below x count width lt = omega (arith, lt, div-le_self x (2 ^ count))

module _ (w : World) (s : Scope) (n : Moment) where
  -- to the right, of bits enough, by a number of any width
  small : (wide x count : ℕ) → x < 2 ^ wide → shifted_right wide x count ≡ x / 2 ^ count
  small wide x count lt = by (leb_tells wide count) where
    by : ((leb wide count ≡ true) × (wide ≤ count)) ⊎ ((leb wide count ≡ false) × (count < wide)) → cond (leb wide count) 0 (x / 2 ^ count) ≡ x / 2 ^ count
    by (inl le) = ap (λ b. cond b 0 (x / 2 ^ count)) le.0 ∙ sym (div-eq_of_lt (omega (arith, lt, pow_mono le.1)))
    by (inr gt) = ap (λ b. cond b 0 (x / 2 ^ count)) gt.0

  pub gives_shifted_right : (a b : Exp16) (wide other x count : ℕ) → x < 2 ^ wide → Gives w s n a wide x → Gives w s n b other count → Gives w s n (binary ShiftRight a b) wide (x / 2 ^ count)
  gives_shifted_right a b wide other x count lt g h = record {
    kind = ap number_kind g.kind;
    value = λ p.
        ap (λ (u : Valued). let v = value_of w s (right_place p ShiftRight (kind_of s a) (kind_of s b)) b u.moment in valued (binary_value ShiftRight u.value v.value) v.moment) (g.value _)
        ∙ ap (λ (v : Valued). valued (binary_value ShiftRight (a_number wide x) v.value) v.moment) (h.value _)
        ∙ ap (λ k. valued (a_number wide k) n) (small wide x count lt);
  }

  -- to the left, of the bits that stay, by a number of any width
  moved : (width x count : ℕ) → shifted_left width (x % 2 ^ width) count ≡ x * 2 ^ count % 2 ^ width
  moved width x count = by (leb_tells width count) where
    gone : width ≤ count → 0 ≡ x * 2 ^ count % 2 ^ width
    gone le =
        let apart : count ≡ (count - width) + width = omega (arith, le) in
        let parts : x * 2 ^ count ≡ (x * 2 ^ (count - width)) * 2 ^ width = ap (λ k. x * 2 ^ k) apart ∙ (ap (λ p. x * p) (pow-add 2 (count - width) width) ∙ omega arith) in
        sym (ap (λ k. k % 2 ^ width) parts ∙ mul-mod_left (x * 2 ^ (count - width)) (2 ^ width))

    by : ((leb width count ≡ true) × (width ≤ count)) ⊎ ((leb width count ≡ false) × (count < width)) → cond (leb width count) 0 (x % 2 ^ width * 2 ^ count % 2 ^ width) ≡ x * 2 ^ count % 2 ^ width
    by (inl le) = ap (λ b. cond b 0 (x % 2 ^ width * 2 ^ count % 2 ^ width)) le.0 ∙ gone le.1
    by (inr gt) = ap (λ b. cond b 0 (x % 2 ^ width * 2 ^ count % 2 ^ width)) gt.0 ∙ mul-mod_first x (2 ^ count) (2 ^ width)

  pub gives_shifted_left : (a b : Exp16) (width other x count : ℕ) → Gives w s n a width (x % 2 ^ width) → Gives w s n b other count → Gives w s n (binary ShiftLeft a b) width (x * 2 ^ count % 2 ^ width)
  gives_shifted_left a b width other x count g h = record {
    kind = ap number_kind g.kind;
    value = λ p.
        ap (λ (u : Valued). let v = value_of w s (right_place p ShiftLeft (kind_of s a) (kind_of s b)) b u.moment in valued (binary_value ShiftLeft u.value v.value) v.moment) (g.value _)
        ∙ ap (λ (v : Valued). valued (binary_value ShiftLeft (a_number width (x % 2 ^ width)) v.value) v.moment) (h.value _)
        ∙ ap (λ k. valued (a_number width k) n) (moved width x count);
  }

  -- what is greater than the greatest number of a width becomes that number

  -- what lies between: e |+| C, and that less C
  between : (p q e : ℕ) → q ≤ p → 0 < q → min (e + (p - q)) (p - 1) - (p - q) ≡ min e (q - 1)
  between p q e le some = omega (arith, le, some)

  above : (p q e : ℕ) → q ≤ p → 0 < q → p - q ≤ min (e + (p - q)) (p - 1)
  above p q e le some = omega (arith, le, some)

  less : (p a d : ℕ) → d ≤ a → a < p → (a + p - d) % p ≡ a - d
  less p a d le lt =
      let split : a + p - d ≡ (a - d) + p = omega (arith, le) in
      ap (λ z. z % p) split ∙ add-mod_right (a - d) p ∙ mod-eq_of_lt (omega (arith, le, lt))

  stopped : (wide width e : ℕ) → width ≤ wide → difference wide (saturating_sum wide e (2 ^ wide - 2 ^ width)) (2 ^ wide - 2 ^ width) ≡ min e (2 ^ width - 1)
  stopped wide width e le =
      let q = pow_mono le in
      less (2 ^ wide) (min (e + (2 ^ wide - 2 ^ width)) (2 ^ wide - 1)) (2 ^ wide - 2 ^ width) (above (2 ^ wide) (2 ^ width) e (omega (arith, q)) (pow_pos width)) (below_all (e + (2 ^ wide - 2 ^ width)) (2 ^ wide) (pow_pos wide))
      ∙ between (2 ^ wide) (2 ^ width) e (omega (arith, q)) (pow_pos width)
    where
      below_all : (a p : ℕ) → 0 < p → min a (p - 1) < p
      below_all a p some = omega (arith, some)

  least_below : (e p : ℕ) → 0 < p → min e (p - 1) < p
  least_below e p some = omega (arith, some)

  pub gives_stop : (e : Exp16) (wide width k : ℕ) → width ≤ wide → k < 2 ^ wide → Gives w s n e wide k → Gives w s n (stop_exp width wide e) width (min k (2 ^ width - 1))
  gives_stop e wide width k le lt g = by (eqb_tells width wide) where
    limit : Gives w s n (literal (sized wide (2 ^ wide - 2 ^ width))) wide (2 ^ wide - 2 ^ width)
    limit = gives_literal w s n wide (2 ^ wide - 2 ^ width) (omega (arith, pow_pos wide, pow_pos width))

    high : Gives w s n (binary SaturatingAdd e (literal (sized wide (2 ^ wide - 2 ^ width)))) wide (saturating_sum wide k (2 ^ wide - 2 ^ width))
    high = gives_both w s n SaturatingAdd (λ a b p m. refl) (λ a b. refl) e (literal (sized wide (2 ^ wide - 2 ^ width))) wide k (2 ^ wide - 2 ^ width) (saturating_sum wide k (2 ^ wide - 2 ^ width)) refl g limit

    low_one : Gives w s n (binary Subtract (binary SaturatingAdd e (literal (sized wide (2 ^ wide - 2 ^ width)))) (literal (sized wide (2 ^ wide - 2 ^ width)))) wide (min k (2 ^ width - 1))
    low_one = gives_both w s n Subtract (λ a b p m. refl) (λ a b. refl) (binary SaturatingAdd e (literal (sized wide (2 ^ wide - 2 ^ width)))) (literal (sized wide (2 ^ wide - 2 ^ width))) wide (saturating_sum wide k (2 ^ wide - 2 ^ width)) (2 ^ wide - 2 ^ width) (min k (2 ^ width - 1)) (ap (a_number wide) (stopped wide width k le)) high limit

    at_most : (a p : ℕ) → a < p → a ≡ min a (p - 1)
    at_most a p less_than = omega (arith, less_than)

    by : ((eqb width wide ≡ true) × (width ≡ wide)) ⊎ ((eqb width wide ≡ false) × (width ≢ wide)) → Gives w s n (stop_exp width wide e) width (min k (2 ^ width - 1))
    by (inl same) =
        subst (λ b. Gives w s n (cond b e (cast (cast_to.Bit (plain width)) (binary Subtract (binary SaturatingAdd e (literal (sized wide (2 ^ wide - 2 ^ width)))) (literal (sized wide (2 ^ wide - 2 ^ width)))))) width (min k (2 ^ width - 1))) (sym same.0)
        (subst (λ z. Gives w s n e width z) (at_most k (2 ^ width) (subst (λ z. k < 2 ^ z) (sym same.1) lt)) (subst (λ z. Gives w s n e z k) (sym same.1) g))
    by (inr other) =
        subst (λ b. Gives w s n (cond b e (cast (cast_to.Bit (plain width)) (binary Subtract (binary SaturatingAdd e (literal (sized wide (2 ^ wide - 2 ^ width)))) (literal (sized wide (2 ^ wide - 2 ^ width)))))) width (min k (2 ^ width - 1))) (sym other.0)
        (subst (Gives w s n (cast (cast_to.Bit (plain width)) (binary Subtract (binary SaturatingAdd e (literal (sized wide (2 ^ wide - 2 ^ width)))) (literal (sized wide (2 ^ wide - 2 ^ width))))) width) (mod-eq_of_lt (least_below k (2 ^ width) (pow_pos width)))
        (gives_cast w s n (binary Subtract (binary SaturatingAdd e (literal (sized wide (2 ^ wide - 2 ^ width)))) (literal (sized wide (2 ^ wide - 2 ^ width)))) wide width (min k (2 ^ width - 1)) low_one))

-- sums of magnitudes

plus_plus : (wide width x y : ℕ) → width ≤ wide → min (saturating_sum wide x y) (2 ^ width - 1) ≡ nearest width (pos x +ℤ pos y)
plus_plus wide width x y le = least (x + y) (2 ^ wide - 1) (2 ^ width - 1) (omega (arith, pow_mono le)) where
  least : (a b c : ℕ) → c ≤ b → min (min a b) c ≡ min a c
  least a b c le = omega arith

less_or_none : (width x y : ℕ) (z : ℤ) → z ≡ pos x -ℤ pos y → min (x - y) (2 ^ width - 1) ≡ nearest width z
less_or_none width x y z is = by (leb_tells y x) where
  down : (a b : ℕ) → b ≤ a → pos a -ℤ pos b ≡ pos (a - b)
  down a b le = omega (arith, ints, le)

  under : (a b : ℕ) → a < b → pos a -ℤ pos b ≡ negsuc (b - a - 1)
  under a b lt = omega (arith, ints, lt)

  none : (a b c : ℕ) → a < b → min (a - b) c ≡ 0
  none a b c lt = omega arith

  by : ((leb y x ≡ true) × (y ≤ x)) ⊎ ((leb y x ≡ false) × (x < y)) → min (x - y) (2 ^ width - 1) ≡ nearest width z
  by (inl le) = ap (nearest width) (sym (is ∙ down x y le.1))
  by (inr lt) = none x y (2 ^ width - 1) lt.1 ∙ ap (nearest width) (sym (is ∙ under x y lt.1))

-- a source and its magnitude

magnitude_natural : (a : Source) → IsSmall a → IsNatural (absolute a)
magnitude_natural (number (pos k)) small = small
magnitude_natural (number (negsuc k)) small = small
magnitude_natural (field slot) small = tt
magnitude_natural (parameter j) small = tt

magnitude_fits : (c : Lowering) (a : Source) → SourceFits c a → SourceFits c (absolute a)
magnitude_fits c (number (pos k)) fits = tt
magnitude_fits c (number (negsuc k)) fits = tt
magnitude_fits c (field slot) fits = fits
magnitude_fits c (parameter j) fits = fits

magnitude_width : (c : Lowering) (a : Source) → own_width (words_of c) (absolute a) ≡ own_width (words_of c) a
magnitude_width c (number (pos k)) = refl
magnitude_width c (number (negsuc k)) = refl
magnitude_width c (field slot) = refl
magnitude_width c (parameter j) = refl

-- a number by its sign
abbrev by_sign : Bool → ℕ → ℤ
by_sign false k = pos k
by_sign true zero = pos 0
by_sign true (suc k) = negsuc k

sign_is : (arguments : List ℕ) (r : State) (a : Source) → source_number arguments r a ≡ by_sign (is_negative a) (natural_of arguments r (absolute a))
sign_is arguments r (number (pos k)) = refl
sign_is arguments r (number (negsuc k)) = refl
sign_is arguments r (field slot) = refl
sign_is arguments r (parameter j) = refl

minus_plus : (x y : ℕ) → by_sign true x +ℤ pos y ≡ pos y -ℤ pos x
minus_plus zero y = omega (arith, ints)
minus_plus (suc x) y = omega (arith, ints)

plus_minus : (x y : ℕ) → pos x +ℤ by_sign true y ≡ pos x -ℤ pos y
plus_minus x zero = omega (arith, ints)
plus_minus x (suc y) = omega (arith, ints)

both_minus : (width x y : ℕ) → nearest width (by_sign true x +ℤ by_sign true y) ≡ 0
both_minus width zero zero = least (2 ^ width - 1) where
  least : (p : ℕ) → min 0 p ≡ 0
  least p = omega arith
both_minus width zero (suc y) = ap (nearest width) (right y) where
  right : (y : ℕ) → pos 0 +ℤ negsuc y ≡ negsuc y
  right y = omega (arith, ints)
both_minus width (suc x) zero = ap (nearest width) (left x) where
  left : (x : ℕ) → negsuc x +ℤ pos 0 ≡ negsuc x
  left x = omega (arith, ints)
both_minus width (suc x) (suc y) = refl

turned : (b : Bool) (x : ℕ) (z : ℤ) → z -ℤ by_sign b x ≡ z +ℤ by_sign (not b) x
turned false zero z = omega (arith, ints)
turned false (suc x) z = omega (arith, ints)
turned true zero z = omega (arith, ints)
turned true (suc x) z = omega (arith, ints)

module _ (c : Lowering) (s : Scope) (ls : List Local) (vs : List Value) (arguments : List ℕ) (at : At) (r : State) (n : Moment) (looks : Looks c s ls vs arguments at r n.frame) (width : ℕ) (a b : Source) (a_fits : SourceFits c a) (b_fits : SourceFits c b) (a_small : IsSmall a) (b_small : IsSmall b) where
  abbrev wide : ℕ
  wide = wide_of (words_of c) width a b

  abbrev x : ℕ
  x = natural_of arguments r (absolute a)

  abbrev y : ℕ
  y = natural_of arguments r (absolute b)

  first_wide : (width a b : ℕ) → width ≤ max width (max a b)
  first_wide width a b = omega arith

  second_wide : (width a b : ℕ) → a ≤ max width (max a b)
  second_wide width a b = omega arith

  third_wide : (width a b : ℕ) → b ≤ max width (max a b)
  third_wide width a b = omega arith

  le_a : own_width (words_of c) (absolute a) ≤ wide
  le_a = subst (λ z. z ≤ wide) (sym (magnitude_width c a)) (second_wide width (own_width (words_of c) a) (own_width (words_of c) b))

  le_b : own_width (words_of c) (absolute b) ≤ wide
  le_b = subst (λ z. z ≤ wide) (sym (magnitude_width c b)) (third_wide width (own_width (words_of c) a) (own_width (words_of c) b))

  le_width : width ≤ wide
  le_width = first_wide width (own_width (words_of c) a) (own_width (words_of c) b)

  gives_a : Gives c.world s n (source_exp (words_of c) at wide (absolute a)) wide x
  gives_a = gives_wide c s ls vs arguments at r n looks wide (absolute a) (magnitude_fits c a a_fits) (magnitude_natural a a_small) le_a

  gives_b : Gives c.world s n (source_exp (words_of c) at wide (absolute b)) wide y
  gives_b = gives_wide c s ls vs arguments at r n looks wide (absolute b) (magnitude_fits c b b_fits) (magnitude_natural b b_small) le_b

  x_below : x < 2 ^ wide
  x_below = omega (arith, natural_below c s ls vs arguments at r n looks (absolute a) (magnitude_fits c a a_fits) (magnitude_natural a a_small), pow_mono le_a)

  y_below : y < 2 ^ wide
  y_below = omega (arith, natural_below c s ls vs arguments at r n looks (absolute b) (magnitude_fits c b b_fits) (magnitude_natural b b_small), pow_mono le_b)

  least_sum : (x y p : ℕ) → 0 < p → min (x + y) (p - 1) < p
  least_sum x y p some = omega (arith, some)

  -- the sum of two numbers by their signs
  pub gives_signs : (u v : Bool) → Gives c.world s n (signs_exp (words_of c) at width a b u v) width (nearest width (by_sign u x +ℤ by_sign v y))
  gives_signs false false =
      let e = both_exp (words_of c) at SaturatingAdd wide (absolute a) (absolute b) in
      subst (Gives c.world s n (stop_exp width wide e) width) (plus_plus wide width x y le_width)
      (gives_stop c.world s n e wide width (saturating_sum wide x y) le_width (least_sum x y (2 ^ wide) (pow_pos wide))
      (gives_both c.world s n SaturatingAdd (λ a b p m. refl) (λ a b. refl) _ _ wide x y (saturating_sum wide x y) refl gives_a gives_b))
  gives_signs false true =
      let e = both_exp (words_of c) at SaturatingSubtract wide (absolute a) (absolute b) in
      let below = x_below in
      subst (Gives c.world s n (stop_exp width wide e) width) (less_or_none width x y (pos x +ℤ by_sign true y) (plus_minus x y))
      (gives_stop c.world s n e wide width (x - y) le_width (omega (arith, below))
      (gives_both c.world s n SaturatingSubtract (λ a b p m. refl) (λ a b. refl) _ _ wide x y (x - y) refl gives_a gives_b))
  gives_signs true false =
      let e = both_exp (words_of c) at SaturatingSubtract wide (absolute b) (absolute a) in
      let below = y_below in
      subst (Gives c.world s n (stop_exp width wide e) width) (less_or_none width y x (by_sign true x +ℤ pos y) (minus_plus x y))
      (gives_stop c.world s n e wide width (y - x) le_width (omega (arith, below))
      (gives_both c.world s n SaturatingSubtract (λ a b p m. refl) (λ a b. refl) _ _ wide y x (y - x) refl gives_b gives_a))
  gives_signs true true =
      subst (Gives c.world s n (literal (sized width 0)) width) (sym (both_minus width x y)) (gives_literal c.world s n width 0 (pow_pos width))

  pub gives_stopped_sum : Gives c.world s n (signs_exp (words_of c) at width a b (is_negative a) (is_negative b)) width (nearest width (source_number arguments r a +ℤ source_number arguments r b))
  gives_stopped_sum =
      subst (λ z. Gives c.world s n (signs_exp (words_of c) at width a b (is_negative a) (is_negative b)) width (nearest width z))
      (ap₂ (λ p q. p +ℤ q) (sym (sign_is arguments r a)) (sym (sign_is arguments r b))) (gives_signs (is_negative a) (is_negative b))

  pub gives_stopped_difference : Gives c.world s n (signs_exp (words_of c) at width a b (is_negative a) (not (is_negative b))) width (nearest width (source_number arguments r a -ℤ source_number arguments r b))
  gives_stopped_difference =
      subst (λ z. Gives c.world s n (signs_exp (words_of c) at width a b (is_negative a) (not (is_negative b))) width (nearest width z))
      (sym (turned (is_negative b) y (by_sign (is_negative a) x)) ∙ ap₂ (λ p q. p -ℤ q) (sym (sign_is arguments r a)) (sym (sign_is arguments r b))) (gives_signs (is_negative a) (not (is_negative b)))
