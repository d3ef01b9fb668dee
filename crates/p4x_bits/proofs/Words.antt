-- Words of eight octets: their bits, and the shifts that take a part out of one or write it anew.
use Rattle.std.proofs.Common.{◌≡◌, ℕ, suc, ◌+◌, ◌-◌, ◌*◌, ◌/◌, ◌%◌, ◌^◌, ◌<◌, ◌≤◌, Bool, List, [], ◌∷◌, ◌++◌, length, take, drop, get_or, bit_or, refl, sym, ap, ◌∙◌, arith, pow_pos, shr-shr, mod-eq_of_lt, drop-cons, drop-drop, length-drop, length-take-le, take-add, take-append-drop}
use Rattle.std.proofs.Math.Nat.{mul-mod_left}
use Rattle.std.proofs.lemmas.Nat.{mod-pow-add, shr_high, shl-shr, shl_whole, shr_below, div-add-mod'}
use Rattle.std.proofs.lemmas.List.{append-nil}
use Rattle.std.proofs.lemmas.Slice.{take-put_mid, drop-put_mid}
use borrow.Rule.Slice.PartMut.{put_mid}
use Rattle.p4x_bits.specs.BitLists.{num, bits, octet_bits}
use Rattle.p4x_bits.proofs.BitLists.{num_of_take_below, length-bits, num-append, bits-mod, bits-add, bits-append, octet_bits-append, take-octet_bits, drop-octet_bits}
use Rattle.p4x_bits.proofs.Masks.{joined_below, pushed_is}
use Rattle.p4x_bits.proofs.Splices.{spliced, spliced_twice, with_part_is}

-- eight octets as one number
abbrev pub joined : ℕ → ℕ → ℕ → ℕ → ℕ → ℕ → ℕ → ℕ → ℕ
joined a b c d e f g h = a * 72057594037927936 + b * 281474976710656 + c * 1099511627776 + d * 4294967296 + e * 16777216 + f * 65536 + g * 256 + h

-- one more octet in front of so many bits
octet_before : (w x n : ℕ) (xs : List ℕ) → n < 2 ^ w → bits w n ≡ octet_bits xs → bits (8 + w) (x * 2 ^ w + n) ≡ octet_bits (x ∷ xs)
octet_before w x n xs h e = sym (bits-append 8 w x n h) ∙ ap (λ ys. bits 8 x ++ ys) e

-- its bits are theirs
pub joined_is : (a b c d e f g h : ℕ) → b < 256 → c < 256 → d < 256 → e < 256 → f < 256 → g < 256 → h < 256 → bits 64 (joined a b c d e f g h) ≡ octet_bits (a ∷ b ∷ c ∷ d ∷ e ∷ f ∷ g ∷ h ∷ [])
joined_is a b c d e f g h pb pc pd pe pf pg ph =
    let one : bits 8 h ≡ octet_bits (h ∷ []) = sym (append-nil (bits 8 h)) in
    let n2 = g * 256 + h in
    let two : bits 16 n2 ≡ octet_bits (g ∷ h ∷ []) = octet_before 8 g h (h ∷ []) ph one in
    let n3 = f * 65536 + n2 in
    let three : bits 24 n3 ≡ octet_bits (f ∷ g ∷ h ∷ []) = octet_before 16 f n2 (g ∷ h ∷ []) (omega arith) two in
    let n4 = e * 16777216 + n3 in
    let four : bits 32 n4 ≡ octet_bits (e ∷ f ∷ g ∷ h ∷ []) = octet_before 24 e n3 (f ∷ g ∷ h ∷ []) (omega arith) three in
    let n5 = d * 4294967296 + n4 in
    let five : bits 40 n5 ≡ octet_bits (d ∷ e ∷ f ∷ g ∷ h ∷ []) = octet_before 32 d n4 (e ∷ f ∷ g ∷ h ∷ []) (omega arith) four in
    let n6 = c * 1099511627776 + n5 in
    let six : bits 48 n6 ≡ octet_bits (c ∷ d ∷ e ∷ f ∷ g ∷ h ∷ []) = octet_before 40 c n5 (d ∷ e ∷ f ∷ g ∷ h ∷ []) (omega arith) five in
    let n7 = b * 281474976710656 + n6 in
    let seven : bits 56 n7 ≡ octet_bits (b ∷ c ∷ d ∷ e ∷ f ∷ g ∷ h ∷ []) = octet_before 48 b n6 (c ∷ d ∷ e ∷ f ∷ g ∷ h ∷ []) (omega arith) six in
    let n8 = a * 72057594037927936 + n7 in
    let eight : bits 64 n8 ≡ octet_bits (a ∷ b ∷ c ∷ d ∷ e ∷ f ∷ g ∷ h ∷ []) = octet_before 56 a n7 (b ∷ c ∷ d ∷ e ∷ f ∷ g ∷ h ∷ []) (omega arith) seven in
    let same : joined a b c d e f g h ≡ n8 = omega arith in
    ap (bits 64) same ∙ eight

take_next : (octets : List ℕ) (i j n : ℕ) → i < length octets → suc i ≡ j → take (suc n) (drop i octets) ≡ get_or octets i 0 ∷ take n (drop j octets)
take_next octets i j n h e = ap (take (suc n)) (drop-cons octets i 0 h) ∙ ap (λ (k : ℕ). get_or octets i 0 ∷ take n (drop k octets)) e

-- the eight octets from a place on
eight_octets : (octets : List ℕ) (i : ℕ) → i + 8 ≤ length octets → take 8 (drop i octets) ≡ get_or octets i 0 ∷ get_or octets (i + 1) 0 ∷ get_or octets (i + 2) 0 ∷ get_or octets (i + 3) 0 ∷ get_or octets (i + 4) 0 ∷ get_or octets (i + 5) 0 ∷ get_or octets (i + 6) 0 ∷ get_or octets (i + 7) 0 ∷ []
eight_octets octets i h =
    rw (take_next octets i (i + 1) 7 (omega arith) (omega arith), take_next octets (i + 1) (i + 2) 6 (omega arith) (omega arith), take_next octets (i + 2) (i + 3) 5 (omega arith) (omega arith), take_next octets (i + 3) (i + 4) 4 (omega arith) (omega arith), take_next octets (i + 4) (i + 5) 3 (omega arith) (omega arith), take_next octets (i + 5) (i + 6) 2 (omega arith) (omega arith), take_next octets (i + 6) (i + 7) 1 (omega arith) (omega arith), take_next octets (i + 7) (i + 8) 0 (omega arith) (omega arith)) refl

-- the word at a place has the bits of the octets there
pub word_is : (octets : List ℕ) (i word : ℕ) → i + 8 ≤ length octets → ((k : ℕ) → get_or octets k 0 < 256) → word ≡ joined (get_or octets i 0) (get_or octets (i + 1) 0) (get_or octets (i + 2) 0) (get_or octets (i + 3) 0) (get_or octets (i + 4) 0) (get_or octets (i + 5) 0) (get_or octets (i + 6) 0) (get_or octets (i + 7) 0) → bits 64 word ≡ take 64 (drop (8 * i) (octet_bits octets))
word_is octets i word h fits e =
    ap (bits 64) e
    ∙ joined_is (get_or octets i 0) (get_or octets (i + 1) 0) (get_or octets (i + 2) 0) (get_or octets (i + 3) 0) (get_or octets (i + 4) 0) (get_or octets (i + 5) 0) (get_or octets (i + 6) 0) (get_or octets (i + 7) 0) (fits (i + 1)) (fits (i + 2)) (fits (i + 3)) (fits (i + 4)) (fits (i + 5)) (fits (i + 6)) (fits (i + 7))
    ∙ ap octet_bits (sym (eight_octets octets i h))
    ∙ sym (take-octet_bits 8 (drop i octets))
    ∙ ap (take 64) (sym (drop-octet_bits i octets))

next_octet : (w n : ℕ) → bits (8 + w) n ≡ bits 8 (n / 2 ^ w % 256) ++ bits w n
next_octet w n = bits-add 8 w n ∙ ap (λ xs. xs ++ bits w n) (sym (bits-mod 8 (n / 2 ^ w)))

-- a word divided into octets
abbrev pub divided : ℕ → List ℕ
divided n = n / 72057594037927936 % 256 ∷ n / 281474976710656 % 256 ∷ n / 1099511627776 % 256 ∷ n / 4294967296 % 256 ∷ n / 16777216 % 256 ∷ n / 65536 % 256 ∷ n / 256 % 256 ∷ n % 256 ∷ []

pub divided_is : (n : ℕ) → octet_bits (divided n) ≡ bits 64 n
divided_is n =
    let one : bits 8 n ≡ octet_bits (n % 256 ∷ []) = sym (append-nil (bits 8 (n % 256)) ∙ bits-mod 8 n) in
    let two : bits 16 n ≡ octet_bits (n / 256 % 256 ∷ n % 256 ∷ []) = next_octet 8 n ∙ ap (λ xs. bits 8 (n / 256 % 256) ++ xs) one in
    let three : bits 24 n ≡ octet_bits (n / 65536 % 256 ∷ n / 256 % 256 ∷ n % 256 ∷ []) = next_octet 16 n ∙ ap (λ xs. bits 8 (n / 65536 % 256) ++ xs) two in
    let four : bits 32 n ≡ octet_bits (n / 16777216 % 256 ∷ n / 65536 % 256 ∷ n / 256 % 256 ∷ n % 256 ∷ []) = next_octet 24 n ∙ ap (λ xs. bits 8 (n / 16777216 % 256) ++ xs) three in
    let five : bits 40 n ≡ octet_bits (n / 4294967296 % 256 ∷ n / 16777216 % 256 ∷ n / 65536 % 256 ∷ n / 256 % 256 ∷ n % 256 ∷ []) = next_octet 32 n ∙ ap (λ xs. bits 8 (n / 4294967296 % 256) ++ xs) four in
    let six : bits 48 n ≡ octet_bits (n / 1099511627776 % 256 ∷ n / 4294967296 % 256 ∷ n / 16777216 % 256 ∷ n / 65536 % 256 ∷ n / 256 % 256 ∷ n % 256 ∷ []) = next_octet 40 n ∙ ap (λ xs. bits 8 (n / 1099511627776 % 256) ++ xs) five in
    let seven : bits 56 n ≡ octet_bits (n / 281474976710656 % 256 ∷ n / 1099511627776 % 256 ∷ n / 4294967296 % 256 ∷ n / 16777216 % 256 ∷ n / 65536 % 256 ∷ n / 256 % 256 ∷ n % 256 ∷ []) = next_octet 48 n ∙ ap (λ xs. bits 8 (n / 281474976710656 % 256) ++ xs) six in
    let eight : bits 64 n ≡ octet_bits (divided n) = next_octet 56 n ∙ ap (λ xs. bits 8 (n / 72057594037927936 % 256) ++ xs) seven in
    sym eight

-- octets written over as many others
pub octets_put : (octets new : List ℕ) (i k m : ℕ) → i + m ≤ length octets → k ≡ m → length new ≡ m → octet_bits (put_mid i k octets new) ≡ spliced (8 * i) (8 * i + 8 * m) (octet_bits new) (octet_bits octets)
octets_put octets new i k m h ke long =
    let front : take (i + m) (put_mid i k octets new) ≡ take i octets ++ new = take-put_mid i k octets new (i + m) (omega arith) (omega arith) in
    let behind : drop (i + m) (put_mid i k octets new) ≡ drop (i + m) octets = drop-put_mid i k octets new (i + m) (omega arith) (omega arith) (omega arith) in
    let place : 8 * (i + m) ≡ 8 * i + 8 * m = omega arith in
    let last : octet_bits (drop (i + m) octets) ≡ drop (8 * i + 8 * m) (octet_bits octets) = sym (drop-octet_bits (i + m) octets) ∙ ap (λ (n : ℕ). drop n (octet_bits octets)) place in
    ap octet_bits (sym (take-append-drop (i + m) (put_mid i k octets new)))
    ∙ ap (λ xs. octet_bits (xs ++ drop (i + m) (put_mid i k octets new))) front
    ∙ ap (λ xs. octet_bits (take i octets ++ new ++ xs)) behind
    ∙ octet_bits-append (take i octets ++ new) (drop (i + m) octets)
    ∙ ap (λ xs. xs ++ octet_bits (drop (i + m) octets)) (octet_bits-append (take i octets) new)
    ∙ ap (λ xs. octet_bits (take i octets) ++ octet_bits new ++ xs) last
    ∙ ap (λ xs. xs ++ octet_bits new ++ drop (8 * i + 8 * m) (octet_bits octets)) (sym (take-octet_bits i octets))

-- a word written over eight octets
pub word_put : (octets new : List ℕ) (i k word : ℕ) → i + 8 ≤ length octets → k ≡ 8 → new ≡ divided word → octet_bits (put_mid i k octets new) ≡ spliced (8 * i) (8 * i + 64) (bits 64 word) (octet_bits octets)
word_put octets new i k word h ke e = octets_put octets new i k 8 h ke (ap length e) ∙ ap (λ xs. spliced (8 * i) (8 * i + 64) xs (octet_bits octets)) (ap octet_bits e ∙ divided_is word)

-- whole octets copied over as many others
pub octets_copied : (octets source new : List ℕ) (at len k : ℕ) → at % 8 ≡ 0 → len % 8 ≡ 0 → len ≤ 8 * length source → at + len ≤ 8 * length octets → k ≡ len / 8 → new ≡ take (len / 8) source → octet_bits (put_mid (at / 8) k octets new) ≡ spliced at (at + len) (take len (octet_bits source)) (octet_bits octets)
octets_copied octets source new at len k pa pl short fits ke e =
    let i = at / 8 in
    let m = len / 8 in
    let ia : 8 * i ≡ at = omega arith in
    let ml : 8 * m ≡ len = omega arith in
    let is : octet_bits new ≡ take (8 * m) (octet_bits source) = ap octet_bits e ∙ sym (take-octet_bits m source) in
    octets_put octets new i k m (omega arith) ke (ap length e ∙ length-take-le m source (omega arith))
    ∙ ap (λ xs. spliced (8 * i) (8 * i + 8 * m) xs (octet_bits octets)) is
    ∙ ap (λ (n : ℕ). spliced n (n + 8 * m) (take (8 * m) (octet_bits source)) (octet_bits octets)) ia
    ∙ ap (λ (n : ℕ). spliced at (at + n) (take n (octet_bits source)) (octet_bits octets)) ml

-- the number of one window behind another
pub two_windows : (at h k : ℕ) (xs : List Bool) → at + (h + k) ≤ length xs → num (take (h + k) (drop at xs)) ≡ num (take h (drop at xs)) * 2 ^ k + num (take k (drop (at + h) xs))
two_windows at h k xs le =
    let rest = drop at xs in
    let there : drop h rest ≡ drop (at + h) xs = drop-drop h at xs in
    let long : length (take k (drop (at + h) xs)) ≡ k = length-take-le k (drop (at + h) xs) (omega (arith, length-drop (at + h) xs)) in
    ap num (take-add h k rest)
    ∙ num-append (take h rest) (take k (drop h rest))
    ∙ ap (λ ys. num (take h rest) * 2 ^ length (take k ys) + num (take k ys)) there
    ∙ ap (λ (n : ℕ). num (take h rest) * 2 ^ n + num (take k (drop (at + h) xs))) long

-- a number of more than 64 bits that was read as two
pub wide_read : (xs : List Bool) (at width behind high low : ℕ) → 64 < width → width ≤ 128 → behind + 64 ≡ at + width → at + width ≤ length xs → high ≡ num (take (width - 64) (drop at xs)) → low ≡ num (take 64 (drop behind xs)) → bit_or (high * 18446744073709551616 % 340282366920938463463374607431768211456) low ≡ num (take width (drop at xs))
wide_read xs at width behind high low some most e room h l =
    let front = width - 64 in
    let all : front + 64 ≡ width = omega arith in
    let place : behind ≡ at + front = omega arith in
    let below : high < 2 ^ front = rw h (num_of_take_below front (drop at xs)) in
    let small : low < 2 ^ 64 = rw l (num_of_take_below 64 (drop behind xs)) in
    pushed_is high front 64 low below (omega arith) small
    ∙ ap (λ (n : ℕ). n * 2 ^ 64 + low) h
    ∙ ap (λ (n : ℕ). num (take front (drop at xs)) * 2 ^ 64 + n) (l ∙ ap (λ (n : ℕ). num (take 64 (drop n xs))) place)
    ∙ sym (two_windows at front 64 xs (omega arith))
    ∙ ap (λ (n : ℕ). num (take n (drop at xs))) all

-- a number whose front and end were written one behind the other
pub two_writes : (at h value : ℕ) (old now new : List Bool) → at ≤ length old → now ≡ spliced at (at + h) (bits h (value / 2 ^ 64)) old → new ≡ spliced (at + h) (at + h + 64) (bits 64 (value % 2 ^ 64)) now → new ≡ spliced at (at + (h + 64)) (bits (h + 64) value) old
two_writes at h value old now new le first second =
    let high = bits h (value / 2 ^ 64) in
    let low = bits 64 (value % 2 ^ 64) in
    let to : at + h + 64 ≡ at + (h + 64) = omega arith in
    let both : high ++ low ≡ bits (h + 64) value = ap (λ xs. high ++ xs) (bits-mod 64 value) ∙ sym (bits-add h 64 value) in
    second
    ∙ ap (spliced (at + h) (at + h + 64) low) first
    ∙ spliced_twice at (at + h) (at + h + 64) high low old le (ap (λ (n : ℕ). at + n) (length-bits h (value / 2 ^ 64))) (omega arith)
    ∙ ap (λ xs. spliced at (at + h + 64) xs old) both
    ∙ ap (λ (n : ℕ). spliced at n (bits (h + 64) value) old) to

pub wide_written : (at width behind value : ℕ) (old now new : List Bool) → 64 < width → behind + 64 ≡ at + width → at ≤ length old → now ≡ spliced at (at + (width - 64)) (bits (width - 64) (value / 2 ^ 64)) old → new ≡ spliced behind (behind + 64) (bits 64 (value % 2 ^ 64)) now → new ≡ spliced at (at + width) (bits width value) old
wide_written at width behind value old now new some e le first second =
    let front = width - 64 in
    let all : front + 64 ≡ width = omega arith in
    let place : behind ≡ at + front = omega arith in
    let moved : new ≡ spliced (at + front) (at + front + 64) (bits 64 (value % 2 ^ 64)) now = second ∙ ap (λ (n : ℕ). spliced n (n + 64) (bits 64 (value % 2 ^ 64)) now) place in
    two_writes at front value old now new le first moved ∙ ap (λ (n : ℕ). spliced at (at + n) (bits n value) old) all

-- a shift to the left and one to the right leave a part of a word
pub part_shifted : (n skip count : ℕ) → skip + count ≤ 64 → n * 2 ^ skip % 18446744073709551616 / 2 ^ (64 - count) ≡ n / 2 ^ (64 - skip - count) % 2 ^ count
part_shifted n skip count le =
    let rest = 64 - skip - count in
    let all : count + rest + skip ≡ 64 = omega arith in
    let right : 64 - count ≡ skip + rest = omega arith in
    let none : n * 2 ^ skip % 2 ^ skip ≡ 0 = mul-mod_left n (2 ^ skip) in
    let back : n * 2 ^ skip / 2 ^ skip ≡ n = shl-shr n skip in
    let low : n * 2 ^ skip % 2 ^ 64 ≡ n % 2 ^ (count + rest) * 2 ^ skip =
    ap (λ (k : ℕ). n * 2 ^ skip % 2 ^ k) (sym all)
    ∙ mod-pow-add (n * 2 ^ skip) (count + rest) skip
    ∙ ap (λ (k : ℕ). k % 2 ^ (count + rest) * 2 ^ skip + n * 2 ^ skip % 2 ^ skip) back
    ∙ ap (λ (k : ℕ). n % 2 ^ (count + rest) * 2 ^ skip + k) none
    ∙ omega arith in
    let cut : n % 2 ^ (count + rest) / 2 ^ rest ≡ n / 2 ^ rest % 2 ^ count =
    ap (λ (k : ℕ). k / 2 ^ rest) (mod-pow-add n count rest) ∙ shr_high (n / 2 ^ rest % 2 ^ count) rest (n % 2 ^ rest) (omega (arith, pow_pos rest)) in
    ap (λ (k : ℕ). k / 2 ^ (64 - count)) low
    ∙ ap (λ (k : ℕ). n % 2 ^ (count + rest) * 2 ^ skip / 2 ^ k) right
    ∙ sym (shr-shr (n % 2 ^ (count + rest) * 2 ^ skip) skip rest)
    ∙ ap (λ (k : ℕ). k / 2 ^ rest) (shl-shr (n % 2 ^ (count + rest)) skip)
    ∙ cut

-- what a part of a word counts
pub part_counts : (n skip count : ℕ) → skip + count ≤ 64 → n * 2 ^ skip % 18446744073709551616 / 2 ^ (64 - count) * 2 ^ (64 - skip - count) % 18446744073709551616 ≡ n / 2 ^ (64 - skip - count) % 2 ^ count * 2 ^ (64 - skip - count)
part_counts n skip count le =
    let rest = 64 - skip - count in
    ap (λ (k : ℕ). k * 2 ^ rest % 18446744073709551616) (part_shifted n skip count le)
    ∙ shl_whole (n / 2 ^ rest % 2 ^ count) count rest 64 (omega (arith, pow_pos count)) (omega arith)

-- a word is its front, a part and its end
pub word_parts : (n skip count : ℕ) → skip + count ≤ 64 → (n / 2 ^ (64 - skip) * 2 ^ count + n / 2 ^ (64 - skip - count) % 2 ^ count) * 2 ^ (64 - skip - count) + n % 2 ^ (64 - skip - count) ≡ n
word_parts n skip count le =
    let rest = 64 - skip - count in
    let up : rest + count ≡ 64 - skip = omega arith in
    let high : n / 2 ^ rest / 2 ^ count ≡ n / 2 ^ (64 - skip) = shr-shr n rest count ∙ ap (λ (k : ℕ). n / 2 ^ k) up in
    let inner : n / 2 ^ (64 - skip) * 2 ^ count + n / 2 ^ rest % 2 ^ count ≡ n / 2 ^ rest = ap (λ (k : ℕ). k * 2 ^ count + n / 2 ^ rest % 2 ^ count) (sym high) ∙ div-add-mod' (n / 2 ^ rest) (2 ^ count) in
    ap (λ (k : ℕ). k * 2 ^ rest + n % 2 ^ rest) inner ∙ div-add-mod' n (2 ^ rest)

-- a word whose part was taken out and another put in
pub word_rebuilt : (n skip count number : ℕ) → skip + count ≤ 64 → number < 2 ^ count → n - n * 2 ^ skip % 18446744073709551616 / 2 ^ (64 - count) * 2 ^ (64 - skip - count) % 18446744073709551616 + number * 2 ^ (64 - skip - count) % 18446744073709551616 ≡ (n / 2 ^ (64 - skip) * 2 ^ count + number) * 2 ^ (64 - skip - count) + n % 2 ^ (64 - skip - count)
word_rebuilt n skip count number le small =
    let rest = 64 - skip - count in
    let high = n / 2 ^ (64 - skip) in
    let part = n / 2 ^ rest % 2 ^ count in
    let new : number * 2 ^ rest % 18446744073709551616 ≡ number * 2 ^ rest = shl_whole number count rest 64 small (omega arith) in
    let whole : (high * 2 ^ count + part) * 2 ^ rest + n % 2 ^ rest ≡ n = word_parts n skip count le in
    rw (part_counts n skip count le, new) (omega (arith, whole))

pub part_within : (n skip count : ℕ) → skip + count ≤ 64 → n * 2 ^ skip % 18446744073709551616 / 2 ^ (64 - count) * 2 ^ (64 - skip - count) % 18446744073709551616 ≤ n
part_within n skip count le =
    let rest = 64 - skip - count in
    rw (part_counts n skip count le) (omega (arith, word_parts n skip count le))

pub rebuilt_below : (n skip count number : ℕ) → n < 18446744073709551616 → skip + count ≤ 64 → number < 2 ^ count → (n / 2 ^ (64 - skip) * 2 ^ count + number) * 2 ^ (64 - skip - count) + n % 2 ^ (64 - skip - count) < 18446744073709551616
rebuilt_below n skip count number h le small =
    let rest = 64 - skip - count in
    let back : skip + (64 - skip) ≡ 64 = omega arith in
    let fits : n < 2 ^ (skip + (64 - skip)) = rw back h in
    let all : skip + count + rest ≡ 64 = omega arith in
    let front : n / 2 ^ (64 - skip) * 2 ^ count + number < 2 ^ (skip + count) = joined_below (n / 2 ^ (64 - skip)) number skip count (shr_below n skip (64 - skip) fits) small in
    let below : (n / 2 ^ (64 - skip) * 2 ^ count + number) * 2 ^ rest + n % 2 ^ rest < 2 ^ (skip + count + rest) = joined_below (n / 2 ^ (64 - skip) * 2 ^ count + number) (n % 2 ^ rest) (skip + count) rest front (omega (arith, pow_pos rest)) in
    rw all at below

pub rebuilt_is : (n skip count number : ℕ) → skip + count ≤ 64 → number < 2 ^ count → bits 64 ((n / 2 ^ (64 - skip) * 2 ^ count + number) * 2 ^ (64 - skip - count) + n % 2 ^ (64 - skip - count)) ≡ spliced skip (skip + count) (bits count number) (bits 64 n)
rebuilt_is n skip count number le small =
    let rest = 64 - skip - count in
    ap (λ (k : ℕ). bits 64 ((n / 2 ^ (64 - skip) * 2 ^ count + k) * 2 ^ rest + n % 2 ^ rest)) (sym (mod-eq_of_lt small)) ∙ with_part_is 64 n skip count number le
