-- Numbers are put into slots one after another.
use Rattle.std.proofs.Common.{◌≡◌, ◌⊎◌, inl, inr, ℕ, zero, suc, ◌+◌, ◌-◌, ◌<◌, ◌≤◌, ◌^◌, Bool, true, false, cond, Option, None, List, [], ◌∷◌, length, get_or, set, refl, sym, ap, ◌∙◌, subst, arith, pow_pos}
use Rattle.std.proofs.lemmas.List.{length-set}
use Rattle.std.proofs.lemmas.Bool.{cases_lt}
use Rattle.v1_core.specs.Layouts.{Layout}
use Rattle.v1_core.specs.Cells.{Cells, owner_valid, is_live, slot_value, with_slot}
use Rattle.v1_core.proofs.Frames.{set_got, set_others}
use Rattle.v1_core.specs.Laid.{IsSlot}
use Rattle.v1_packets.specs.Packets.{AreFitting}
use Rattle.v1_packets.specs.internal.Filled.{AreLone, with_numbers, IsFilled}

pub none_filled : (c : Cells) (from : ℕ) (numbers : List ℕ) → IsFilled c c from from numbers
none_filled c from numbers = record {
  rest = refl;
  count = refl;
  within = λ slot le lt. absurd (none slot le lt);
  others = λ slot away. refl;
} where
  none : (slot : ℕ) → from ≤ slot → slot < from → ⊥
  none slot le lt = omega arith

count_kept : (live : Bool) (numbers : List ℕ) (slot n : ℕ) → length (cond live (set numbers slot n) numbers) ≡ length numbers
count_kept true numbers slot n = length-set numbers slot n
count_kept false numbers slot n = refl

pub one_filled : (c d : Cells) (from slot to : ℕ) (numbers : List ℕ) → AreLone c.layout from to → length c.numbers ≡ length c.layout.widths → from ≤ slot → slot < to → IsFilled c d from slot numbers → IsFilled c (with_slot d slot (get_or numbers (slot - from) 0)) from (slot + 1) numbers
one_filled c d from slot to numbers lone even le lt f = record {
  rest = ap (λ (x : Cells). with_numbers x (with_slot d slot n).numbers) f.rest;
  count = count_kept (is_live d slot) d.numbers slot n ∙ f.count;
  within = λ i il ir. inside i il ir (cases_lt i slot);
  others = λ i away. set_others d slot n i (λ e. apart i e away) ∙ f.others i (further i away);
} where
  n : ℕ
  n = get_or numbers (slot - from) 0

  here : IsSlot c.layout slot None
  here = lone slot le lt

  layout : d.layout ≡ c.layout
  layout = ap (λ (x : Cells). x.layout) f.rest

  live : is_live d slot ≡ true
  live = ap (λ (l : Layout). owner_valid d.valids (get_or l.owners slot None)) layout ∙ ap (λ (o : Option ℕ). owner_valid d.valids o) here.owned

  there : slot < length d.numbers
  there = omega (arith, f.count, even, here.within)

  got : slot_value (with_slot d slot n) slot ≡ n
  got = set_got d slot n there ∙ ap (λ (b : Bool). cond b n 0) live

  apart : (i : ℕ) → i ≡ slot → (i < from) ⊎ (slot + 1 ≤ i) → ⊥
  apart i e (inl before) = omega arith
  apart i e (inr behind) = omega arith

  further : (i : ℕ) → (i < from) ⊎ (slot + 1 ≤ i) → (i < from) ⊎ (slot ≤ i)
  further i (inl before) = inl before
  further i (inr behind) = inr (omega arith)

  inside : (i : ℕ) → from ≤ i → i < slot + 1 → (i < slot) ⊎ (slot ≤ i) → slot_value (with_slot d slot n) i ≡ get_or numbers (i - from) 0
  inside i il ir (inl before) = set_others d slot n i (λ e. other e) ∙ f.within i il before where
    other : i ≡ slot → ⊥
    other e = omega arith
  inside i il ir (inr behind) =
      let same : i ≡ slot = omega arith in
      ap (λ (s : ℕ). slot_value (with_slot d slot n) s) same ∙ got ∙ ap (λ (s : ℕ). get_or numbers (s - from) 0) (sym same)

-- each number fits, and so does 0
positive : (k : ℕ) → 0 < 2 ^ k
positive k = pow_pos k

fits_at : (widths : List ℕ) (numbers : List ℕ) (from i : ℕ) → AreFitting widths from numbers → get_or numbers i 0 < 2 ^ get_or widths (from + i) 0
fits_at widths [] from i fits = positive (get_or widths (from + i) 0)
fits_at widths (n ∷ numbers) from zero fits =
    let at : from + 0 ≡ from = omega arith in subst (λ (s : ℕ). n < 2 ^ get_or widths s 0) (sym at) fits.0
fits_at widths (n ∷ numbers) from (suc i) fits =
    let at : from + 1 + i ≡ from + suc i = omega arith in
    subst (λ (s : ℕ). get_or numbers i 0 < 2 ^ get_or widths s 0) at (fits_at widths numbers (from + 1) i fits.1)

pub number_fits : (widths : List ℕ) (numbers : List ℕ) (from slot : ℕ) → AreFitting widths from numbers → from ≤ slot → get_or numbers (slot - from) 0 < 2 ^ get_or widths slot 0
number_fits widths numbers from slot fits le =
    let at : from + (slot - from) ≡ slot = omega arith in
    subst (λ (s : ℕ). get_or numbers (slot - from) 0 < 2 ^ get_or widths s 0) at (fits_at widths numbers from (slot - from) fits)
