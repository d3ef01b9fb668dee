-- The words of a list, of which the last may be filled.
use Rattle.std.proofs.Common.{◌≡◌, ℕ, zero, suc, ◌+◌, ◌-◌, ◌*◌, ◌/◌, ◌%◌, ◌^◌, ◌<◌, ◌≤◌, Bool, false, List, [], ◌∷◌, ◌++◌, length, take, drop, get_or, map, replicate, reverse, fold, flat_map, refl, sym, ap, ◌∙◌, arith, length-append, length-drop, take-add, take-take, take_all, take_at, drop_at, drop-drop, mod-eq_of_lt, append-nil}
use Rattle.std.proofs.Math.Seq.{take-append-add}
use Rattle.std.proofs.lemmas.List.{take-append-le, drop-append-le, take-replicate, length-replicate, drop-take, map-append}
use Rattle.std.proofs.lemmas.List.Concat.{flat_map-append}
use Rattle.std.proofs.lemmas.List.Folds.{flat_map-map}
use Rattle.std.proofs.lemmas.List.Sums.{fold-append}
use Rattle.p4x_bits.specs.BitLists.{num, bits, octet_bits, IsOctets}
use Rattle.p4x_bits.proofs.BitLists.{length-bits, num-append, num-bits, bits-num, length-octet_bits, octet_is}
use Rattle.p4x_bits.proofs.Splices.{octet_window}
use Rattle.calc_core.specs.Calculations.{parts, reflected, ones_sum, csum16}

parts-add : (m n width : ℕ) (xs : List Bool) → parts (m + n) width xs ≡ parts m width xs ++ parts n width (drop (m * width) xs)
parts-add zero n width xs =
    let e : zero + n ≡ n = omega arith in
    let z : 0 ≡ zero * width = omega arith in
    ap (λ (k : ℕ). parts k width xs) e ∙ ap (λ (k : ℕ). parts n width (drop k xs)) z
parts-add (suc m) n width xs =
    let e : suc m + n ≡ suc (m + n) = omega arith in
    let f : width + m * width ≡ suc m * width = omega arith in
    ap (λ (k : ℕ). parts k width xs) e
    ∙ ap (λ ys. take width xs ∷ ys) (
    parts-add m n width (drop width xs)
    ∙ ap (λ ys. parts m width (drop width xs) ++ parts n width ys) (drop-drop (m * width) width xs ∙ ap (λ (k : ℕ). drop k xs) f)
    )

-- the parts lie in the first bits of a list
parts_same : (m width : ℕ) (xs ys : List Bool) → take (m * width) xs ≡ take (m * width) ys → parts m width xs ≡ parts m width ys
parts_same zero width xs ys e = refl
parts_same (suc m) width xs ys e =
    let f : width + m * width ≡ suc m * width = omega arith in
    let front : take width xs ≡ take width ys =
    sym (take-take width (suc m * width) xs (omega arith)) ∙ ap (take width) e ∙ take-take width (suc m * width) ys (omega arith) in
    let back : take (m * width) (drop width xs) ≡ take (m * width) (drop width ys) =
    sym (drop-take width (m * width) xs)
    ∙ ap (λ (k : ℕ). drop width (take k xs)) f
    ∙ ap (drop width) e
    ∙ ap (λ (k : ℕ). drop width (take k ys)) (sym f)
    ∙ drop-take width (m * width) ys in
    ap (λ zs. zs ∷ parts m width (drop width xs)) front ∙ ap (λ zs. take width ys ∷ zs) (parts_same m width (drop width xs) (drop width ys) back)

octet_parts : (octets : List ℕ) → parts (length octets) 8 (octet_bits octets) ≡ map (bits 8) octets
octet_parts [] = refl
octet_parts (octet ∷ octets) =
    ap (λ zs. zs ∷ parts (length octets) 8 (drop 8 (bits 8 octet ++ octet_bits octets))) (take_at (bits 8 octet) (octet_bits octets) 8 (length-bits 8 octet))
    ∙ ap (λ zs. bits 8 octet ∷ parts (length octets) 8 zs) (drop_at (bits 8 octet) (octet_bits octets) 8 (length-bits 8 octet))
    ∙ ap (λ zs. bits 8 octet ∷ zs) (octet_parts octets)

num_of_zeros : (k : ℕ) → num (replicate k false) ≡ 0
unfolding num
num_of_zeros zero = refl
num_of_zeros (suc k) = omega (arith, num_of_zeros k)

-- the last word, filled with zeros
filled_word : (width rest : ℕ) (xs : List Bool) → length xs ≡ rest → rest ≤ width → take width (xs ++ replicate width false) ≡ bits width (num xs * 2 ^ (width - rest))
filled_word width rest xs e le =
    let k = width - rest in
    let split : width ≡ length xs + k = omega arith in
    let zeros = replicate k false in
    let whole = xs ++ zeros in
    let cut : take width (xs ++ replicate width false) ≡ whole =
    ap (λ (n : ℕ). take n (xs ++ replicate width false)) split
    ∙ take-append-add xs (replicate width false) k
    ∙ ap (λ ys. xs ++ ys) (take-replicate k width false (omega arith)) in
    let long : length whole ≡ width = length-append xs zeros ∙ omega (arith, length-replicate k false) in
    let value : num whole ≡ num xs * 2 ^ k = num-append xs zeros ∙ rw (num_of_zeros k, length-replicate k false) (omega arith) in
    cut ∙ sym (bits-num width whole long) ∙ ap (bits width) value

parts_filled : (width m rest : ℕ) (list : List Bool) → length list ≡ m * width + rest → rest ≤ width → parts (m + 1) width (list ++ replicate width false) ≡ parts m width (list ++ replicate width false) ++ bits width (num (drop (m * width) list) * 2 ^ (width - rest)) ∷ []
parts_filled width m rest list e le =
    let filled = list ++ replicate width false in
    let behind : drop (m * width) filled ≡ drop (m * width) list ++ replicate width false = drop-append-le (m * width) list (replicate width false) (omega arith) in
    let long : length (drop (m * width) list) ≡ rest = length-drop (m * width) list ∙ omega arith in
    parts-add m 1 width filled
    ∙ ap (λ ys. parts m width filled ++ ys ∷ []) (ap (take width) behind ∙ filled_word width rest (drop (m * width) list) long le)

parts_whole : (width m : ℕ) (list : List Bool) → m * width ≤ length list → parts m width (list ++ replicate width false) ≡ parts m width list
parts_whole width m list le = parts_same m width (list ++ replicate width false) list (take-append-le (m * width) list (replicate width false) le)

-- the whole octets of a list
whole_octets : (list : List Bool) (octets : List ℕ) → length octets ≡ length list / 8 → octet_bits octets ≡ take (8 * (length list / 8)) list → parts (length list / 8) 8 (list ++ replicate 8 false) ≡ map (bits 8) octets
whole_octets list octets l e =
    let m = length list / 8 in
    let f : 8 * m ≡ m * 8 = omega arith in
    let all : take (m * 8) (octet_bits octets) ≡ octet_bits octets = take_all (m * 8) (octet_bits octets) (omega (arith, length-octet_bits octets)) in
    parts_whole 8 m list (omega arith)
    ∙ parts_same m 8 list (octet_bits octets) (ap (λ (k : ℕ). take k list) (sym f) ∙ sym e ∙ sym all)
    ∙ ap (λ (k : ℕ). parts k 8 (octet_bits octets)) (sym l)
    ∙ octet_parts octets

pub reflected_whole : (list : List Bool) (octets : List ℕ) → length octets ≡ length list / 8 → octet_bits octets ≡ take (8 * (length list / 8)) list → length list % 8 ≡ 0 → reflected list ≡ flat_map (λ octet. reverse (bits 8 octet)) octets
reflected_whole list octets l e none =
    let count : (length list + (8 - 1)) / 8 ≡ length list / 8 = omega arith in
    ap (λ (k : ℕ). flat_map reverse (parts k 8 (list ++ replicate 8 false))) count
    ∙ ap (flat_map reverse) (whole_octets list octets l e)
    ∙ flat_map-map reverse (bits 8) octets

pub reflected_filled : (list : List Bool) (octets : List ℕ) (rest : ℕ) → length octets ≡ length list / 8 → octet_bits octets ≡ take (8 * (length list / 8)) list → length list % 8 ≡ rest → 0 < rest → reflected list ≡ flat_map (λ octet. reverse (bits 8 octet)) octets ++ reverse (bits 8 (num (drop (length list / 8 * 8) list) * 2 ^ (8 - rest)))
reflected_filled list octets rest l e r some =
    let m = length list / 8 in
    let last = bits 8 (num (drop (m * 8) list) * 2 ^ (8 - rest)) in
    let count : (length list + (8 - 1)) / 8 ≡ m + 1 = omega arith in
    ap (λ (k : ℕ). flat_map reverse (parts k 8 (list ++ replicate 8 false))) count
    ∙ ap (flat_map reverse) (parts_filled 8 m rest list (omega arith) (omega arith))
    ∙ flat_map-append reverse (parts m 8 (list ++ replicate 8 false)) (last ∷ [])
    ∙ ap (λ xs. flat_map reverse xs ++ flat_map reverse (last ∷ [])) (whole_octets list octets l e)
    ∙ ap (λ xs. xs ++ flat_map reverse (last ∷ [])) (flat_map-map reverse (bits 8) octets)
    ∙ ap (λ xs. flat_map (λ octet. reverse (bits 8 octet)) octets ++ xs) (append-nil (reverse last))

-- the sum of the first words
abbrev pub sum_of : ℕ → List Bool → ℕ
sum_of count list = fold ones_sum 0 (map num (parts count 16 list))

sum_more : (front : List (List Bool)) (word : List Bool) → fold ones_sum 0 (map num (front ++ word ∷ [])) ≡ ones_sum (fold ones_sum 0 (map num front)) (num word)
sum_more front word = ap (fold ones_sum 0) (map-append num front (word ∷ [])) ∙ fold-append ones_sum 0 (map num front) (num word ∷ [])

-- two octets are a word
word_is : (octets : List ℕ) (i : ℕ) → IsOctets octets → 2 * i + 1 < length octets → num (take 16 (drop (i * 16) (octet_bits octets))) ≡ get_or octets (2 * i) 0 * 256 + get_or octets (2 * i + 1) 0
word_is octets i small h =
    let list = octet_bits octets in
    let rest = drop (i * 16) list in
    let first = bits 8 (get_or octets (2 * i) 0) in
    let second = bits 8 (get_or octets (2 * i + 1) 0) in
    let a : i * 16 ≡ 8 * (2 * i) + 0 = omega arith in
    let b : i * 16 + 8 ≡ 8 * (2 * i + 1) + 0 = omega arith in
    let front : take 8 rest ≡ first =
    ap (λ (k : ℕ). take 8 (drop k list)) a ∙ octet_window octets (2 * i) 0 8 (omega arith) (omega arith) ∙ take_all 8 first (omega (arith, length-bits 8 (get_or octets (2 * i) 0))) in
    let back : take 8 (drop 8 rest) ≡ second =
    ap (take 8) (drop-drop 8 (i * 16) list ∙ ap (λ (k : ℕ). drop k list) b) ∙ octet_window octets (2 * i + 1) 0 8 h (omega arith) ∙ take_all 8 second (omega (arith, length-bits 8 (get_or octets (2 * i + 1) 0))) in
    ap num (take-add 8 8 rest)
    ∙ num-append (take 8 rest) (take 8 (drop 8 rest))
    ∙ rw (front, back, length-bits 8 (get_or octets (2 * i + 1) 0), octet_is (get_or octets (2 * i) 0) (small (2 * i) 0 (omega arith)), octet_is (get_or octets (2 * i + 1) 0) (small (2 * i + 1) 0 h))

pub sums_on : (octets : List ℕ) (i sum word : ℕ) → IsOctets octets → 2 * i + 1 < length octets → sum ≡ sum_of i (octet_bits octets) → word ≡ get_or octets (2 * i) 0 * 256 + get_or octets (2 * i + 1) 0 → ones_sum sum word ≡ sum_of (i + 1) (octet_bits octets)
sums_on octets i sum word small h s w =
    let list = octet_bits octets in
    ap (λ (n : ℕ). ones_sum n word) s
    ∙ ap (ones_sum (sum_of i list)) (w ∙ sym (word_is octets i small h))
    ∙ sym (sum_more (parts i 16 list) (take 16 (drop (i * 16) list)))
    ∙ sym (ap (λ xs. fold ones_sum 0 (map num xs)) (parts-add i 1 16 list))

-- the words of whole octets are the first words of the list
whole_words : (list : List Bool) (octets : List ℕ) → octet_bits octets ≡ take (8 * (length list / 8)) list → parts (length list / 16) 16 (list ++ replicate 16 false) ≡ parts (length list / 16) 16 (octet_bits octets)
whole_words list octets e =
    let m = length list / 16 in
    parts_whole 16 m list (omega arith)
    ∙ parts_same m 16 list (octet_bits octets) (sym (ap (take (m * 16)) e ∙ take-take (m * 16) (8 * (length list / 8)) list (omega arith)))

pub csum_whole : (list : List Bool) (octets : List ℕ) (sum : ℕ) → octet_bits octets ≡ take (8 * (length list / 8)) list → length list % 16 ≡ 0 → sum ≡ sum_of (length list / 16) (octet_bits octets) → 65535 - sum ≡ csum16 list
csum_whole list octets sum e none s =
    let count : length list / 16 ≡ (length list + (16 - 1)) / 16 = omega arith in
    ap (λ (n : ℕ). 65535 - n) (
    s
    ∙ ap (λ xs. fold ones_sum 0 (map num xs)) (sym (whole_words list octets e))
    ∙ ap (λ (k : ℕ). fold ones_sum 0 (map num (parts k 16 (list ++ replicate 16 false)))) count
    )

pub csum_filled : (list : List Bool) (octets : List ℕ) (sum rest last : ℕ) → octet_bits octets ≡ take (8 * (length list / 8)) list → length list % 16 ≡ rest → 0 < rest → sum ≡ sum_of (length list / 16) (octet_bits octets) → last ≡ num (drop (length list / 16 * 16) list) * 2 ^ (16 - rest) → last < 65536 → 65535 - ones_sum sum last ≡ csum16 list
csum_filled list octets sum rest last e r some s l small =
    let m = length list / 16 in
    let filled = list ++ replicate 16 false in
    let word = bits 16 (num (drop (m * 16) list) * 2 ^ (16 - rest)) in
    let count : m + 1 ≡ (length list + (16 - 1)) / 16 = omega arith in
    let value : last ≡ num word = sym (mod-eq_of_lt small) ∙ sym (num-bits 16 last) ∙ ap (λ (n : ℕ). num (bits 16 n)) l in
    ap (λ (n : ℕ). 65535 - n) (
    ap (λ (n : ℕ). ones_sum n last) (s ∙ ap (λ xs. fold ones_sum 0 (map num xs)) (sym (whole_words list octets e)))
    ∙ ap (ones_sum (fold ones_sum 0 (map num (parts m 16 filled)))) value
    ∙ sym (sum_more (parts m 16 filled) word)
    ∙ ap (λ xs. fold ones_sum 0 (map num xs)) (sym (parts_filled 16 m rest list (omega arith) (omega arith)))
    ∙ ap (λ (k : ℕ). fold ones_sum 0 (map num (parts k 16 filled))) count
    )
