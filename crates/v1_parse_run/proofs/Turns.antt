-- Turns of the loop over states.
use Rattle.std.proofs.Common.{◌≡◌, ℕ, suc, ◌+◌, ◌-◌, ◌<◌, Bool, true, false, cond, List, slice_get, Option, Some, None, sym, ap, ◌∙◌, arith}
use Rattle.v1_ready_blocks.specs.Moments.{Moment, is_stopped}
use Rattle.v1_ready_states.specs.States.{State, from_state, followed, parse_from}
use Rattle.v1_parse_run.specs.Made.{shown_onward}

module _ (rows : List State) (most i number : ℕ) (m : Moment) (due : Moment) (lt : i < most) (so : parse_from rows (most - i) number m ≡ due) where
  -- parsing from here, one state less
  opened : cond (is_stopped m) m (followed (parse_from rows (most - (i + 1))) (from_state (slice_get rows number) m)) ≡ due
  opened =
      let left : most - i ≡ suc (most - (i + 1)) = omega arith in
      ap (λ (k : ℕ). parse_from rows k number m) (sym left) ∙ so

  pub stopped : is_stopped m ≡ true → m ≡ due
  stopped is = ap (λ (b : Bool). cond b m (followed (parse_from rows (most - (i + 1))) (from_state (slice_get rows number) m))) (sym is) ∙ opened

  further : is_stopped m ≡ false → followed (parse_from rows (most - (i + 1))) (from_state (slice_get rows number) m) ≡ due
  further is = ap (λ (b : Bool). cond b m (followed (parse_from rows (most - (i + 1))) (from_state (slice_get rows number) m))) (sym is) ∙ opened

  pub goes_on : (next : ℕ) (n : Moment) (o : Option ℕ) → is_stopped m ≡ false → shown_onward o n ≡ from_state (slice_get rows number) m → o ≡ Some next → parse_from rows (most - (i + 1)) next n ≡ due
  goes_on next n o is came some =
      ap (followed (parse_from rows (most - (i + 1)))) (ap (λ (p : Option ℕ). shown_onward p n) (sym some) ∙ came) ∙ further is

  pub ends : (n : Moment) (o : Option ℕ) → is_stopped m ≡ false → shown_onward o n ≡ from_state (slice_get rows number) m → o ≡ None → n ≡ due
  ends n o is came none =
      ap (followed (parse_from rows (most - (i + 1)))) (ap (λ (p : Option ℕ). shown_onward p n) (sym none) ∙ came) ∙ further is
