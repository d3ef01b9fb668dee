-- Eight steps of the division are one look into a table.
use Rattle.std.proofs.Common.{◌≡◌, ℕ, zero, suc, ◌+◌, ◌*◌, ◌/◌, ◌%◌, ◌^◌, ◌<◌, Bool, true, false, cond, nat_eq, List, [], ◌∷◌, length, get_or, reverse, fold, flat_map, bit_and, bit_xor, refl, sym, ap, ◌∙◌, arith, div-one, mul-one, pow-suc, eqb-true}
use Rattle.std.proofs.lemmas.List.{reverse-append}
use Rattle.std.proofs.lemmas.List.Sums.{fold-append}
use Rattle.std.proofs.lemmas.Nat.{xor_comm, xor_shr, xor_mod, and_mask}
use Rattle.std.specs.Int.Bits.{xor_assoc, xor_self, xor_zero_l, xor_zero_r, xor_shifted}
use Rattle.p4x_bits.specs.BitLists.{bits, IsOctets}
use Rattle.p4x_bits.proofs.BitLists.{bits-add}
use Rattle.calc_core.specs.Calculations.{differs}
use Rattle.calc_core.specs.internal.Tables.{is_odd, times, divided_once, divided, divided_octet, is_table_from}
use Rattle.calc_core.proofs.Division.{step}

xor_right_comm : (a b c : ℕ) → bit_xor (bit_xor a b) c ≡ bit_xor (bit_xor a c) b
xor_right_comm a b c = xor_assoc a b c ∙ ap (bit_xor a) (xor_comm b c) ∙ sym (xor_assoc a c b)

xor_middle : (a b c d : ℕ) → bit_xor (bit_xor a b) (bit_xor c d) ≡ bit_xor (bit_xor a c) (bit_xor b d)
xor_middle a b c d = sym (xor_assoc (bit_xor a b) c d) ∙ ap (λ (n : ℕ). bit_xor n d) (xor_right_comm a b c) ∙ xor_assoc (bit_xor a c) b d

parity_of_xor : (x y : ℕ) → x < 2 → y < 2 → nat_eq (bit_xor x y) 1 ≡ differs (nat_eq y 1) (nat_eq x 1)
parity_of_xor zero zero p q = refl
parity_of_xor zero (suc zero) p q = refl
parity_of_xor zero (suc (suc y)) p q = absurd (omega arith)
parity_of_xor (suc zero) zero p q = refl
parity_of_xor (suc zero) (suc zero) p q = refl
parity_of_xor (suc zero) (suc (suc y)) p q = absurd (omega arith)
parity_of_xor (suc (suc x)) y p q = absurd (omega arith)

is_odd-xor : (a b : ℕ) → is_odd (bit_xor a b) ≡ differs (is_odd b) (is_odd a)
is_odd-xor a b = ap (λ (n : ℕ). nat_eq n 1) (xor_mod a b 1) ∙ parity_of_xor (a % 2) (b % 2) (omega arith) (omega arith)

times-differs : (x y : Bool) (n : ℕ) → times (differs x y) n ≡ bit_xor (times y n) (times x n)
times-differs false y n = sym (xor_zero_r (times y n))
times-differs true false n = sym (xor_zero_l n)
times-differs true true n = sym (xor_self n)

once-xor : (divisor a b : ℕ) → divided_once divisor (bit_xor a b) ≡ bit_xor (divided_once divisor a) (divided_once divisor b)
once-xor divisor a b =
    ap (λ (n : ℕ). bit_xor n (times (is_odd (bit_xor a b)) divisor)) (xor_shr a b 1)
    ∙ ap (λ c. bit_xor (bit_xor (a / 2) (b / 2)) (times c divisor)) (is_odd-xor a b)
    ∙ ap (bit_xor (bit_xor (a / 2) (b / 2))) (times-differs (is_odd b) (is_odd a) divisor)
    ∙ xor_middle (a / 2) (b / 2) (times (is_odd a) divisor) (times (is_odd b) divisor)

divided-xor : (count divisor a b : ℕ) → divided count divisor (bit_xor a b) ≡ bit_xor (divided count divisor a) (divided count divisor b)
unfolding divided
divided-xor zero divisor a b = refl
divided-xor (suc count) divisor a b = ap (divided count divisor) (once-xor divisor a b) ∙ divided-xor count divisor (divided_once divisor a) (divided_once divisor b)

divided_shifted : (count divisor n : ℕ) → divided count divisor (n * 2 ^ count) ≡ n
unfolding divided
divided_shifted zero divisor n = mul-one n
divided_shifted (suc count) divisor n =
    let e : n * 2 ^ suc count ≡ n * 2 ^ count * 2 = rw (pow-suc 2 count) (omega arith) in
    let half : n * 2 ^ suc count / 2 ≡ n * 2 ^ count = omega arith in
    let even : n * 2 ^ suc count % 2 ≡ 0 = omega arith in
    ap (divided count divisor) (
    ap (λ (m : ℕ). bit_xor m (times (is_odd (n * 2 ^ suc count)) divisor)) half
    ∙ ap (λ (m : ℕ). bit_xor (n * 2 ^ count) (times (nat_eq m 1) divisor)) even
    ∙ xor_zero_r (n * 2 ^ count)
    )
    ∙ divided_shifted count divisor n

-- eight coefficients of a remainder alone decide what is added to the others
looked_up : (divisor n : ℕ) → divided 8 divisor n ≡ bit_xor (divided 8 divisor (n % 256)) (n / 256)
looked_up divisor n =
    let apart : bit_xor (n / 256 * 256) (n % 256) ≡ n = xor_shifted (n / 256) 8 (n % 256) (omega arith) ∙ omega arith in
    ap (divided 8 divisor) (sym apart)
    ∙ divided-xor 8 divisor (n / 256 * 256) (n % 256)
    ∙ ap (λ (m : ℕ). bit_xor m (divided 8 divisor (n % 256))) (divided_shifted 8 divisor (n / 256))
    ∙ xor_comm (n / 256) (divided 8 divisor (n % 256))

test : (a b : Bool) → cond a b false ≡ true → a ≡ true
test true b e = refl
test false b e = e

rest : (a b : Bool) → cond a b false ≡ true → b ≡ true
rest true b e = e
rest false b e = cc

-- the entries of a table that was tested
pub entry_is : (divisor i : ℕ) (table : List ℕ) (k : ℕ) → is_table_from divisor i table ≡ true → k < length table → get_or table k 0 ≡ divided 8 divisor (i + k)
unfolding is_table_from
entry_is divisor i [] k e h = absurd (omega arith)
entry_is divisor i (entry ∷ table) zero e h = let z : i ≡ i + 0 = omega arith in eqb-true entry (divided 8 divisor i) (test (nat_eq entry (divided 8 divisor i)) (is_table_from divisor (suc i) table) e) ∙ ap (divided 8 divisor) z
entry_is divisor i (entry ∷ table) (suc k) e h = let z : suc i + k ≡ i + suc k = omega arith in entry_is divisor (suc i) table k (rest (nat_eq entry (divided 8 divisor i)) (is_table_from divisor (suc i) table) e) (omega arith) ∙ ap (divided 8 divisor) z

pub divides_octet : (divisor register octet : ℕ) (table : List ℕ) → octet < 256 → length table ≡ 256 → is_table_from divisor 0 table ≡ true → bit_xor (get_or table (bit_and (bit_xor register octet) 255) 0) (register / 2 ^ 8) ≡ divided_octet divisor register octet
divides_octet divisor register octet table h e test =
    let n = bit_xor register octet in
    let index : bit_and n 255 ≡ n % 256 = and_mask n 8 in
    let none : octet / 2 ^ 8 ≡ 0 = omega arith in
    let z : 0 + n % 256 ≡ n % 256 = omega arith in
    let rest : n / 256 ≡ register / 2 ^ 8 = xor_shr register octet 8 ∙ ap (bit_xor (register / 2 ^ 8)) none ∙ xor_zero_r (register / 2 ^ 8) in
    ap (λ (i : ℕ). bit_xor (get_or table i 0) (register / 2 ^ 8)) index
    ∙ ap (λ (m : ℕ). bit_xor m (register / 2 ^ 8)) (entry_is divisor 0 table (n % 256) test (omega arith) ∙ ap (divided 8 divisor) z)
    ∙ ap (bit_xor (divided 8 divisor (n % 256))) (sym rest)
    ∙ sym (looked_up divisor n)

-- the bits of a number from the least significant one on
reverse-bits : (count n : ℕ) → reverse (bits (suc count) n) ≡ is_odd n ∷ reverse (bits count (n / 2))
unfolding bits
reverse-bits count n =
    let e : suc count ≡ count + 1 = omega arith in
    ap (λ (k : ℕ). reverse (bits k n)) e
    ∙ ap reverse (bits-add count 1 n)
    ∙ reverse-append (bits count (n / 2)) (bits 1 n)
    ∙ ap (λ (m : ℕ). nat_eq (m % 2) 1 ∷ reverse (bits count (n / 2))) (div-one n)

absorbed : (divisor n octet : ℕ) → bit_xor (step divisor n (is_odd octet)) (octet / 2) ≡ divided_once divisor (bit_xor n octet)
absorbed divisor n octet =
    xor_right_comm (n / 2) (times (differs (is_odd octet) (is_odd n)) divisor) (octet / 2)
    ∙ ap (λ c. bit_xor (bit_xor (n / 2) (octet / 2)) (times c divisor)) (sym (is_odd-xor n octet))
    ∙ ap (λ (m : ℕ). bit_xor m (times (is_odd (bit_xor n octet)) divisor)) (sym (xor_shr n octet 1))

-- steps with the bits of a number, where the number is added first
steps_are : (count divisor n octet : ℕ) → octet < 2 ^ count → fold (step divisor) n (reverse (bits count octet)) ≡ divided count divisor (bit_xor n octet)
unfolding divided bits
steps_are zero divisor n octet h = let z : 0 ≡ octet = omega arith in sym (xor_zero_r n) ∙ ap (bit_xor n) z
steps_are (suc count) divisor n octet h =
    let below : octet / 2 < 2 ^ count = omega (arith, pow-suc 2 count) in
    ap (fold (step divisor) n) (reverse-bits count octet)
    ∙ steps_are count divisor (step divisor n (is_odd octet)) (octet / 2) below
    ∙ ap (divided count divisor) (absorbed divisor n octet)

pub octet_steps : (divisor n octet : ℕ) → octet < 256 → fold (step divisor) n (reverse (bits 8 octet)) ≡ divided_octet divisor n octet
octet_steps divisor n octet h = steps_are 8 divisor n octet h

pub octets_steps : (divisor n : ℕ) (octets : List ℕ) → IsOctets octets → fold (step divisor) n (flat_map (λ octet. reverse (bits 8 octet)) octets) ≡ fold (divided_octet divisor) n octets
octets_steps divisor n [] h = refl
octets_steps divisor n (octet ∷ octets) h =
    fold-append (step divisor) n (reverse (bits 8 octet)) (flat_map (λ o. reverse (bits 8 o)) octets)
    ∙ ap (λ (m : ℕ). fold (step divisor) m (flat_map (λ o. reverse (bits 8 o)) octets)) (octet_steps divisor n octet (h 0 0 (omega arith)))
    ∙ octets_steps divisor (divided_octet divisor n octet) octets (λ k d l. h (suc k) d (omega arith))
