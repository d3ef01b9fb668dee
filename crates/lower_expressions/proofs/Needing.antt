-- How many bits a number needs, and numbers at the end of 128 bits.
use Rattle.std.proofs.Common.{◌≡◌, ℕ, suc, ◌+◌, ◌-◌, ◌%◌, ◌^◌, ◌<◌, ◌≤◌, cond, refl, ap, ◌∙◌, arith}
use Rattle.std.proofs.Math.Nat.{pow-le-pow_right, mul-mod_left}
use Rattle.std.proofs.lemmas.Nat.{pow-add}
use Rattle.std.proofs.lemmas.Bool.{le-ltb, lt-ltb}
use Rattle.lower_laws_actions.specs.Mirror.{needed, needed_from}

next : (w v : ℕ) → v ≡ w + 1 → suc w ≡ v
next w v e = omega (arith, e)

-- one width that is too small
pub needed_more : (w n v : ℕ) → w < 128 → 2 ^ w ≤ n → v ≡ w + 1 → needed_from (128 - w) w n ≡ needed_from (128 - v) v n
needed_more w n v lt le e =
    let more : 128 - w ≡ suc (128 - v) = omega (arith, lt, e) in
    ap (λ m. needed_from m w n) more
    ∙ ap (λ b. cond b w (needed_from (128 - v) (suc w) n)) (le-ltb n (2 ^ w) le)
    ∙ ap (λ k. needed_from (128 - v) k n) (next w v e)

pub needed_here : (w n : ℕ) → w < 128 → n < 2 ^ w → needed_from (128 - w) w n ≡ w
needed_here w n lt less =
    let more : 128 - w ≡ suc (127 - w) = omega (arith, lt) in
    ap (λ m. needed_from m w n) more ∙ ap (λ b. cond b w (needed_from (127 - w) (suc w) n)) (lt-ltb n (2 ^ w) less)

pub needed_first : (n : ℕ) → needed_from (128 - 1) 1 n ≡ needed n
unfolding needed
needed_first n = refl

pub needed_last : (n : ℕ) → needed_from (128 - 128) 128 n ≡ 128
needed_last n = refl

pub needed_top : needed (2 ^ 128) ≡ 128
unfolding needed
needed_top = refl

pub top_low : (w : ℕ) → w ≤ 128 → 2 ^ 128 % 2 ^ w ≡ 0
top_low w le =
    let whole : 128 ≡ (128 - w) + w = omega (arith, le) in
    ap (λ k. k % 2 ^ w) (ap (λ e. 2 ^ e) whole ∙ pow-add 2 (128 - w) w) ∙ mul-mod_left (2 ^ (128 - w)) (2 ^ w)

pub powers_apart : (w v : ℕ) → w ≤ v → 2 ^ w ≤ 2 ^ v
powers_apart w v le = pow-le-pow_right (omega arith) le
