-- Numbers that gather in one.
use Rattle.std.proofs.Common.{◌≡◌, ℕ, ◌+◌, ◌*◌, ◌^◌, ◌<◌, ◌≤◌, Bool, List, [], ◌++◌, refl, sym, ap, ◌∙◌, arith, append_assoc, append-nil}
use Rattle.p4x_bits.specs.BitLists.{bits}
use Rattle.p4x_bits.proofs.BitLists.{bits-append}

pub no_bits : (n : ℕ) → bits 0 n ≡ []
unfolding bits
no_bits n = refl

pub with_room : (others now : List Bool) (w v a b n : ℕ) → now ≡ others → b < 2 ^ v → n ≡ a * 2 ^ v + b → now ++ bits (w + v) n ≡ (others ++ bits w a) ++ bits v b
with_room others now w v a b n same below is =
    ap (λ l. l ++ bits (w + v) n) same
    ∙ ap (λ k. others ++ bits (w + v) k) is
    ∙ ap (λ l. others ++ l) (sym (bits-append w v a b below))
    ∙ sym (append_assoc others (bits w a) (bits v b))

-- where there are no bits, nothing comes behind others
pub none_behind : (others more : List Bool) (w n : ℕ) → w ≤ 0 → bits w n ≡ more → others ≡ others ++ more
none_behind others more w n none is =
    let zero_wide : w ≡ 0 = omega (arith, none) in
    sym (ap (λ l. others ++ l) (sym is ∙ ap (λ k. bits k n) zero_wide ∙ no_bits n) ∙ append-nil others)
