-- What a field gets breaks no rule.
use Rattle.std.proofs.Common.{◌≡◌, ◌≢◌, ◌⊎◌, inl, inr, leb, eqb, ℕ, zero, suc, ◌+◌, ◌-◌, ◌<◌, ◌≤◌, ◌^◌, Bool, true, false, ◌&&◌, cond, List, refl, sym, subst, arith}
use Rattle.std.specs.Prelude.{not, nat_lt, pos, negsuc}
use Rattle.std.proofs.lemmas.Bool.Decides.{leb_tells, eqb_tells}
use Rattle.std.proofs.Math.Nat.{one-le-pow}
use Rattle.p414_syntax.specs.declared.syntax.Decl.{Decl}
use Rattle.p414_sem.specs.Slots.{Target}
use Rattle.p414_sem.specs.Operations.{Source, number, field, parameter, Term, just, on_mask, sum, difference, conjunction, disjunction, exclusive, left_shift, right_shift, cell, hashed}
use Rattle.p416_syntax.specs.declared.node.CastType.TheVariants as cast_to
use Rattle.p416_syntax.specs.declared.node.BinaryOperator.{BinaryOperator}
use Rattle.p416_syntax.specs.declared.node.BinaryOperator.TheVariants.{Add, Subtract, SaturatingAdd, SaturatingSubtract, BitAnd, BitOr, BitXor}
use Rattle.p416_syntax.specs.Tree.{Exp16, literal, cast, binary}
use Rattle.p416_syntax.specs.Kinds.{bits}
use Rattle.p416_syntax.specs.Scopes.{Scope}
use Rattle.agreement_of_meanings.specs.Shown.{field_at}
use Rattle.lower_laws_base.specs.Context.{Local, local_of, Lowering, words_of, object_at, At, HasAt, Sees, IsSlot, SourceFits}
use Rattle.lower_laws_base.specs.Mirror.{plain, sized, width_in, source_exp}
use Rattle.lower_laws_actions.specs.Mirror.{both_exp, needed_from, needed, absolute, is_negative, own_width, own_exp, signed, stop_exp, wide_of, signs_exp, stopped_exp, term_exp, write_exp}
use Rattle.lower_laws_actions.specs.Fits.{IsNatural, TermFits, KeptFits}
use Rattle.lower_laws_rules.specs.Keeping.{Sound}
use Rattle.lower_laws_rules.specs.Standing.{HasParameters}
use Rattle.lower_laws_rules.proofs.Places.{deeper, read_only}
use Rattle.lower_laws_rules.proofs.Sound.{is_pair, pair_kind, sound_literal, sound_cast, sound_resized, sound_complement, sound_pair, sound_shift_left, sound_shift_right}
use Rattle.lower_laws_rules.proofs.Sources.{sound_local, sound_slot, sound_source}
use Rattle.lower_laws_rules.specs.Acting.{IsWidth, WidthsFit, TermKnown}

pub positive : (width : ℕ) → 0 < 2 ^ width
positive width = one-le-pow width 2 (omega arith)

needed_enough : (more width n : ℕ) → n < 2 ^ (more + width) → n < 2 ^ needed_from more width n
needed_enough zero width n lt = subst (λ z. n < 2 ^ z) (plainly width) lt where
  plainly : (w : ℕ) → 0 + w ≡ w
  plainly w = omega arith
needed_enough (suc more) width n lt = by (leb_tells (suc n) (2 ^ width)) (needed_enough more (suc width) n (subst (λ z. n < 2 ^ z) (moved more width) lt)) where
  moved : (a b : ℕ) → suc a + b ≡ a + suc b
  moved a b = omega arith

  by : ((leb (suc n) (2 ^ width) ≡ true) × (suc n ≤ 2 ^ width)) ⊎ ((leb (suc n) (2 ^ width) ≡ false) × (2 ^ width < suc n)) → n < 2 ^ needed_from more (suc width) n → n < 2 ^ cond (leb (suc n) (2 ^ width)) width (needed_from more (suc width) n)
  by (inl fits) rest = subst (λ b. n < 2 ^ cond b width (needed_from more (suc width) n)) (sym fits.0) (omega (arith, fits.1))
  by (inr more_bits) rest = subst (λ b. n < 2 ^ cond b width (needed_from more (suc width) n)) (sym more_bits.0) rest

pub needs : (n : ℕ) → n < 2 ^ 128 → n < 2 ^ needed n
unfolding needed
needs n lt = needed_enough 127 1 n lt

needed_bounds : (more width n : ℕ) → 0 < width → (0 < needed_from more width n) × (needed_from more width n ≤ more + width)
needed_bounds zero width n some = (some, omega arith)
needed_bounds (suc more) width n some = by (nat_lt n (2 ^ width)) (needed_bounds more (suc width) n (omega arith)) where
  by : (b : Bool) → (0 < needed_from more (suc width) n) × (needed_from more (suc width) n ≤ more + suc width) → (0 < cond b width (needed_from more (suc width) n)) × (cond b width (needed_from more (suc width) n) ≤ suc more + width)
  by true rest = (some, omega arith)
  by false rest = (rest.0, let few = rest.1 in omega (arith, few))

pub needed_width : (n : ℕ) → IsWidth (needed n)
unfolding needed
needed_width n = let b = needed_bounds 127 1 n (omega arith) in (b.0, let few = b.1 in omega (arith, few))

module _ (c : Lowering) (s : Scope) (ls : List Local) (sees : Sees c s ls) (given : HasParameters c ls) (widths : WidthsFit c) (at : At) (has : HasAt c at) where
  pub sound_own : (a : Source) → SourceFits c a → IsNatural a → Sound s (own_exp (words_of c) at a) (bits (own_width (words_of c) a)) false 4
  sound_own (number (pos k)) fits is = deeper 4 (omega arith) (sound_literal s (needed k) k (needs k is))
  sound_own (number (negsuc k)) fits is = absurd is
  sound_own (field slot) fits is = read_only (sound_slot c s ls sees at has slot fits)
  sound_own (parameter j) fits is = deeper 4 (omega arith) (sound_local c s ls sees (local_of (field_at c.parameters j)) (given j fits))

  pub own_is : (a : Source) → SourceFits c a → IsWidth (own_width (words_of c) a)
  own_is (number (pos k)) fits = needed_width k
  own_is (number (negsuc k)) fits = needed_width (suc k)
  own_is (field slot) fits = widths.slots slot fits
  own_is (parameter j) fits = widths.parameters j fits

  source : (width : ℕ) → IsWidth width → (a : Source) → SourceFits c a → Sound s (source_exp (words_of c) at width a) (bits width) false 5
  source width w a fits = sound_source c s ls sees at has given width a w.0 w.1 fits

  both : (op : BinaryOperator) → is_pair op ≡ true → (width : ℕ) → IsWidth width → (a b : Source) → SourceFits c a → SourceFits c b → Sound s (both_exp (words_of c) at op width a b) (pair_kind op width) false 6
  both op is width w a b p q = sound_pair op is (source width w a p) (source width w b q)

  absolute_fits : (a : Source) → SourceFits c a → SourceFits c (absolute a)
  absolute_fits (number (pos k)) fits = tt
  absolute_fits (number (negsuc k)) fits = tt
  absolute_fits (field slot) fits = fits
  absolute_fits (parameter j) fits = fits

  stop : (wide width : ℕ) (e : Exp16) → IsWidth wide → IsWidth width → Sound s e (bits wide) false 6 → Sound s (stop_exp width wide e) (bits width) false 9
  stop wide width e v w x = by (eqb_tells width wide) where
    limit : 2 ^ wide - 2 ^ width < 2 ^ wide
    limit = let some = positive width in let all = positive wide in omega (arith, some, all)

    cut : Sound s (cast (cast_to.Bit (plain width)) (binary Subtract (binary SaturatingAdd e (literal (sized wide (2 ^ wide - 2 ^ width)))) (literal (sized wide (2 ^ wide - 2 ^ width))))) (bits width) false 9
    cut = sound_cast s _ wide width 8 false w.0 w.1 (sound_pair Subtract refl (sound_pair SaturatingAdd refl x (sound_literal s wide (2 ^ wide - 2 ^ width) limit)) (sound_literal s wide (2 ^ wide - 2 ^ width) limit))

    by : ((eqb width wide ≡ true) × (width ≡ wide)) ⊎ ((eqb width wide ≡ false) × (width ≢ wide)) → Sound s (stop_exp width wide e) (bits width) false 9
    by (inl same) = subst (λ b. Sound s (cond b e (cast (cast_to.Bit (plain width)) (binary Subtract (binary SaturatingAdd e (literal (sized wide (2 ^ wide - 2 ^ width)))) (literal (sized wide (2 ^ wide - 2 ^ width)))))) (bits width) false 9) (sym same.0) (subst (λ (z : ℕ). Sound s e (bits z) false 9) (sym same.1) (deeper 9 (omega arith) x))
    by (inr other) = subst (λ b. Sound s (cond b e (cast (cast_to.Bit (plain width)) (binary Subtract (binary SaturatingAdd e (literal (sized wide (2 ^ wide - 2 ^ width)))) (literal (sized wide (2 ^ wide - 2 ^ width)))))) (bits width) false 9) (sym other.0) cut

  module _ (width : ℕ) (w : IsWidth width) (a b : Source) (p : SourceFits c a) (q : SourceFits c b) where
    wide_is : IsWidth (wide_of (words_of c) width a b)
    wide_is = let x = own_is a p in let y = own_is b q in (let some = w.0 in omega (arith, some), let most = w.1 in let m = x.1 in let n = y.1 in omega (arith, most, m, n))

    signs : (u v : Bool) → Sound s (signs_exp (words_of c) at width a b u v) (bits width) false 9
    signs false false = stop _ width _ wide_is w (both SaturatingAdd refl _ wide_is (absolute a) (absolute b) (absolute_fits a p) (absolute_fits b q))
    signs false true = stop _ width _ wide_is w (both SaturatingSubtract refl _ wide_is (absolute a) (absolute b) (absolute_fits a p) (absolute_fits b q))
    signs true false = stop _ width _ wide_is w (both SaturatingSubtract refl _ wide_is (absolute b) (absolute a) (absolute_fits b q) (absolute_fits a p))
    signs true true = deeper 9 (omega arith) (sound_literal s width 0 (positive width))

  pub sound_term : (ds : List Decl) (K : ℕ) (t : Target) (term : Term) → IsSlot c.layout t.slot → t.width ≡ width_in (words_of c) t.slot → IsWidth t.width → TermFits c ds term → TermKnown c ls K t.width term → Sound s (term_exp (words_of c) at K t term) (bits t.width) false 9
  sound_term ds K t (just a) is same w fits known = deeper 9 (omega arith) (source t.width w a fits)
  sound_term ds K t (on_mask a mask) is same w fits known =
      deeper 9 (omega arith) (sound_pair BitOr refl
      (sound_pair BitAnd refl (source t.width w (field t.slot) is) (sound_complement s _ t.width 5 false (source t.width w mask fits.1)))
      (sound_pair BitAnd refl (source t.width w a fits.0) (source t.width w mask fits.1)))
  sound_term ds K t (sum a b) is same w fits known = deeper 9 (omega arith) (both Add refl t.width w a b fits.0 fits.1)
  sound_term ds K t (difference a b) is same w fits known = deeper 9 (omega arith) (both Subtract refl t.width w a b fits.0 fits.1)
  sound_term ds K t (conjunction a b) is same w fits known = deeper 9 (omega arith) (both BitAnd refl t.width w a b fits.0 fits.1)
  sound_term ds K t (disjunction a b) is same w fits known = deeper 9 (omega arith) (both BitOr refl t.width w a b fits.0 fits.1)
  sound_term ds K t (exclusive a b) is same w fits known = deeper 9 (omega arith) (both BitXor refl t.width w a b fits.0 fits.1)
  sound_term ds K t (cell object index) is same w fits known =
      deeper 9 (omega arith) (sound_resized s _ (object_at c.objects object).width t.width 1 false w.0 w.1 (sound_local c s ls sees (record { called = c.spare K 0; kind = bits (object_at c.objects object).width }) known))
  sound_term ds K t (left_shift a b) is same w fits known = deeper 9 (omega arith) (sound_shift_left (source t.width w a fits.0) (sound_own b fits.1 fits.3))
  sound_term ds K t (right_shift a b) is same w fits known =
      deeper 9 (omega arith) (sound_resized s _ (own_width (words_of c) a) t.width 5 false w.0 w.1 (sound_shift_right (sound_own a fits.0 fits.2) (sound_own b fits.1 fits.3)))
  sound_term ds K t (hashed base calculation bound) is same w fits known = deeper 9 (omega arith) (sound_local c s ls sees (record { called = c.spare K 0; kind = bits t.width }) known)

  signed_fits : (ds : List Decl) (term : Term) → TermFits c ds term → TermFits c ds (signed term)
  signed_fits ds (sum a (number (negsuc k))) fits = (fits.0, tt)
  signed_fits ds (sum a (number (pos k))) fits = fits
  signed_fits ds (sum a (field slot)) fits = fits
  signed_fits ds (sum a (parameter j)) fits = fits
  signed_fits ds (difference a (number (negsuc k))) fits = (fits.0, tt)
  signed_fits ds (difference a (number (pos k))) fits = fits
  signed_fits ds (difference a (field slot)) fits = fits
  signed_fits ds (difference a (parameter j)) fits = fits
  signed_fits ds term fits = fits

  signed_known : (K width : ℕ) (term : Term) → TermKnown c ls K width term → TermKnown c ls K width (signed term)
  signed_known K width (sum a (number (negsuc k))) known = tt
  signed_known K width (sum a (number (pos k))) known = tt
  signed_known K width (sum a (field slot)) known = tt
  signed_known K width (sum a (parameter j)) known = tt
  signed_known K width (difference a (number (negsuc k))) known = tt
  signed_known K width (difference a (number (pos k))) known = tt
  signed_known K width (difference a (field slot)) known = tt
  signed_known K width (difference a (parameter j)) known = tt
  signed_known K width term known = known

  pub sound_write : (ds : List Decl) (K : ℕ) (sums : Bool) (t : Target) (term : Term) → IsSlot c.layout t.slot → t.width ≡ width_in (words_of c) t.slot → TermFits c ds term → KeptFits (sums && t.saturating) term → TermKnown c ls K t.width term → Sound s (write_exp (words_of c) at K sums t term) (bits t.width) false 9
  sound_write ds K sums t term is same fits kept known = by (sums && t.saturating) kept where
    w : IsWidth t.width
    w = subst IsWidth (sym same) (widths.slots t.slot is)

    stopped : (x : Term) → TermFits c ds x → KeptFits true x → Sound s (stopped_exp (words_of c) at t.width x) (bits t.width) false 9
    stopped (sum a b) f k = signs t.width w a b f.0 f.1 (is_negative a) (is_negative b)
    stopped (difference a b) f k = signs t.width w a b f.0 f.1 (is_negative a) (not (is_negative b))
    stopped x f k = absurd k

    by : (b : Bool) → KeptFits b term → Sound s (cond b (stopped_exp (words_of c) at t.width term) (term_exp (words_of c) at K t (signed term))) (bits t.width) false 9
    by true k = stopped term fits k
    by false k = sound_term ds K t (signed term) is same w (signed_fits ds term fits) (signed_known K t.width term known)

source_width : (c : Lowering) (widths : WidthsFit c) (a : Source) → SourceFits c a → IsWidth (own_width (words_of c) a)
source_width c widths (number (pos k)) fits = needed_width k
source_width c widths (number (negsuc k)) fits = needed_width (suc k)
source_width c widths (field slot) fits = widths.slots slot fits
source_width c widths (parameter j) fits = widths.parameters j fits

-- the width at which a sum that stops is computed
pub wide_width : (c : Lowering) (widths : WidthsFit c) (width : ℕ) → IsWidth width → (a b : Source) → SourceFits c a → SourceFits c b → IsWidth (wide_of (words_of c) width a b)
wide_width c widths width w a b p q =
    let x = source_width c widths a p in
    let y = source_width c widths b q in
    (let some = w.0 in omega (arith, some), let most = w.1 in let m = x.1 in let n = y.1 in omega (arith, most, m, n))
