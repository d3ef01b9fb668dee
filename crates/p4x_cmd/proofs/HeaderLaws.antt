-- A header that is taken apart and put together again has the octets that it had.
use Rattle.std.proofs.Common.{◌≡◌, ℕ, suc, ◌+◌, ◌*◌, ◌/◌, ◌%◌, ◌<◌, ◌≤◌, Bool, List, [], ◌∷◌, ◌++◌, length, take, drop, sum, refl, sym, ◌∙◌, ap, arith, length-drop}
use Rattle.std.proofs.lemmas.List.{take-append-drop, length-take}
use Rattle.std.proofs.lemmas.List.Elements.{All-take}
use Rattle.std.proofs.lemmas.List.Sums.{sum_by-cons}
use Rattle.std.proofs.Math.Seq.{take-add}
use Rattle.p4x_bits.specs.BitLists.{num, bits, octet_bits, IsOctets}
use Rattle.p4x_bits.proofs.BitLists.{bits-num, octet_is, length-octet_bits, take-octet_bits}
use Rattle.p4x_cmd.specs.Headers.{numbers_in, bits_in, octets_in}

-- the fields' bits again are the bits that they were taken from
pub bits_of_numbers : (widths : List ℕ) (rest : List Bool) → sum widths ≤ length rest → bits_in widths (numbers_in widths rest) ≡ take (sum widths) rest
bits_of_numbers [] rest fits = refl
bits_of_numbers (w ∷ widths) rest fits =
    let add : sum (w ∷ widths) ≡ w + sum widths = sum_by-cons (λ x. x) w widths in
    let size : length (take w rest) ≡ w = omega (arith, length-take w rest) in
    let first : bits w (num (take w rest)) ≡ take w rest = bits-num w (take w rest) size in
    let others = bits_of_numbers widths (drop w rest) (omega (arith, length-drop w rest)) in
    ap (λ (x : List Bool). x ++ bits_in widths (numbers_in widths (drop w rest))) first ∙ ap (λ (x : List Bool). take w rest ++ x) others ∙ sym (take-add w (sum widths) rest) ∙ ap (λ (n : ℕ). take n rest) (sym add)

all_rest : (x : ℕ) (xs : List ℕ) → IsOctets (x ∷ xs) → IsOctets xs
all_rest x xs all = λ k d small. all (suc k) d (omega arith)

pub octets_of_bits : (xs : List ℕ) → IsOctets xs → octets_in (octet_bits xs) ≡ xs
unfolding bits
octets_of_bits [] all = refl
octets_of_bits (x ∷ xs) all =
    let first : num (bits 8 x) ≡ x = octet_is x (all 0 0 (omega arith)) in
    ap (λ (n : ℕ). n ∷ octets_in (octet_bits xs)) first ∙ ap (λ (l : List ℕ). x ∷ l) (octets_of_bits xs (all_rest x xs all))

pub whole_again : (widths octets : List ℕ) → IsOctets octets → sum widths % 8 ≡ 0 → sum widths ≤ 8 * length octets
    → octets_in (bits_in widths (numbers_in widths (octet_bits octets))) ++ drop (sum widths / 8) octets ≡ octets
whole_again widths octets all even fits =
    let size : sum widths ≡ 8 * (sum widths / 8) = omega arith in
    let back : bits_in widths (numbers_in widths (octet_bits octets)) ≡ octet_bits (take (sum widths / 8) octets) =
    bits_of_numbers widths (octet_bits octets) (omega (arith, length-octet_bits octets)) ∙ ap (λ (n : ℕ). take n (octet_bits octets)) size ∙ take-octet_bits (sum widths / 8) octets in
    ap (λ (b : List Bool). octets_in b ++ drop (sum widths / 8) octets) back
    ∙ ap (λ (l : List ℕ). l ++ drop (sum widths / 8) octets) (octets_of_bits (take (sum widths / 8) octets) (All-take (λ o. o < 256) (sum widths / 8) octets all))
    ∙ take-append-drop (sum widths / 8) octets
