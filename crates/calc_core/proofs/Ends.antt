-- What the whole octets and the filled rest of a list give together.
use Rattle.std.proofs.Common.{◌≡◌, ℕ, zero, ◌+◌, ◌-◌, ◌*◌, ◌/◌, ◌%◌, ◌^◌, ◌<◌, ◌≤◌, Bool, List, ◌++◌, length, take, drop, reverse, fold, flat_map, bit_or, sym, ap, ◌∙◌, arith, length-drop, take_all}
use Rattle.std.proofs.lemmas.List.Sums.{fold-append}
use Rattle.std.proofs.lemmas.Nat.{shl_whole, shl_below, or_shifted}
use Rattle.p4x_bits.specs.BitLists.{num, bits, octet_bits, IsOctets}
use Rattle.calc_core.specs.Calculations.{crc, reflected}
use Rattle.calc_core.specs.internal.Tables.{divided_octet}
use Rattle.calc_core.proofs.Division.{number, step, crc_is}
use Rattle.calc_core.proofs.Registers.{octet_steps, octets_steps}
use Rattle.calc_core.proofs.Words.{reflected_whole, reflected_filled}

-- the bits behind the whole words
pub tail_is : (list : List Bool) (at rest whole : ℕ) → at + rest ≡ length list → at ≡ whole → take rest (drop at list) ≡ drop whole list
tail_is list at rest whole e w = take_all rest (drop at list) (omega (arith, length-drop at list)) ∙ ap (λ (k : ℕ). drop k list) w

-- a field, filled with zeros at its end
pub filled_is : (width rest field : ℕ) → field < 2 ^ rest → rest ≤ width → width ≤ 16 → field * 2 ^ (width - rest) % 340282366920938463463374607431768211456 ≡ field * 2 ^ (width - rest)
filled_is width rest field h le most = shl_whole field rest (width - rest) 128 h (omega arith)

pub filled_below : (width rest field : ℕ) → field < 2 ^ rest → rest ≤ width → field * 2 ^ (width - rest) < 2 ^ width
filled_below width rest field h le = let e : rest + (width - rest) ≡ width = omega arith in let b : field * 2 ^ (width - rest) < 2 ^ (rest + (width - rest)) = shl_below field rest (width - rest) h in rw e at b

-- a word of two octets
pub pair_is : (a b : ℕ) → a < 256 → b < 256 → bit_or (a * 2 ^ 8 % 65536) b ≡ a * 256 + b
pair_is a b h k = ap (λ (n : ℕ). bit_or n b) (shl_whole a 8 8 16 h (omega arith)) ∙ or_shifted a 8 b k

divided_octets : (divisor start : List Bool) (octets : List ℕ) → IsOctets octets → fold (step (number divisor)) (number start) (flat_map (λ octet. reverse (bits 8 octet)) octets) ≡ fold (divided_octet (number divisor)) (number start) octets
divided_octets divisor start octets small = octets_steps (number divisor) (number start) octets small

pub crc_whole : (divisor start list : List Bool) (octets : List ℕ) (register : ℕ) → length start ≡ length divisor → zero < length divisor → IsOctets octets → length octets ≡ length list / 8 → octet_bits octets ≡ take (8 * (length list / 8)) list → length list % 8 ≡ 0 → register ≡ fold (divided_octet (number divisor)) (number start) octets → register ≡ crc divisor start (reflected list)
crc_whole divisor start list octets register e pos small l o none r =
    r
    ∙ sym (divided_octets divisor start octets small)
    ∙ ap (fold (step (number divisor)) (number start)) (sym (reflected_whole list octets l o none))
    ∙ sym (crc_is divisor start (reflected list) e pos)

pub crc_filled : (divisor start list : List Bool) (octets : List ℕ) (register rest last : ℕ) → length start ≡ length divisor → zero < length divisor → IsOctets octets → length octets ≡ length list / 8 → octet_bits octets ≡ take (8 * (length list / 8)) list → length list % 8 ≡ rest → 0 < rest → register ≡ fold (divided_octet (number divisor)) (number start) octets → last ≡ num (drop (length list / 8 * 8) list) * 2 ^ (8 - rest) → last < 256 → divided_octet (number divisor) register last ≡ crc divisor start (reflected list)
crc_filled divisor start list octets register rest last e pos small l o is some r f below =
    let message = flat_map (λ octet. reverse (bits 8 octet)) octets in
    ap (λ (n : ℕ). divided_octet (number divisor) n last) (r ∙ sym (divided_octets divisor start octets small))
    ∙ sym (octet_steps (number divisor) (fold (step (number divisor)) (number start) message) last below)
    ∙ sym (fold-append (step (number divisor)) (number start) message (reverse (bits 8 last)))
    ∙ ap (λ (n : ℕ). fold (step (number divisor)) (number start) (message ++ reverse (bits 8 n))) f
    ∙ ap (fold (step (number divisor)) (number start)) (sym (reflected_filled list octets rest l o is some))
    ∙ sym (crc_is divisor start (reflected list) e pos)
