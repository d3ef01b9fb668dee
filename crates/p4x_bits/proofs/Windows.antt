-- Laws of windows: `written at width value old` is a list of bits in which a number was written into `width` bits from the
-- bit `at` on, which is what the contracts of `write_field` and `write_octet_field` say of the list afterwards.
use Rattle.std.proofs.Common.{◌≡◌, ℕ, ◌+◌, ◌-◌, ◌*◌, ◌^◌, ◌<◌, ◌≤◌, ◌⊎◌, inl, inr, Bool, List, ◌++◌, length, take, drop, sym, ap, ◌∙◌, arith, length-append, length-take-le, append_assoc, length-drop, mod-eq_of_lt, drop-drop}
use Rattle.std.proofs.lemmas.List.{take_at, drop_at, take-append-le, take-take, drop-take}
use Rattle.p4x_bits.specs.BitLists.{num, bits, octet_bits}
use Rattle.p4x_bits.specs.Lending.{overwritten}
use Rattle.p4x_bits.proofs.BitLists.{length-bits, num-bits, length-octet_bits}
use Rattle.p4x_bits.proofs.Splices.{spliced_again, spliced_within}

-- the list in which a number was written into so many bits
abbrev pub written : ℕ → ℕ → ℕ → List Bool → List Bool
written at width value old = take at old ++ bits width value ++ drop (at + width) old

-- a window read after it was written gives the value
pub window_written : (at width value : ℕ) (old : List Bool) → at ≤ length old → value < 2 ^ width → num (take width (drop at (written at width value old))) ≡ value
window_written at width value old h v =
    let new = bits width value in
    let behind = drop (at + width) old in
    let long : length (take at old) ≡ at = length-take-le at old h in
    let grouped : drop at (take at old ++ new ++ behind) ≡ new ++ behind =
    ap (drop at) (append_assoc (take at old) new behind) ∙ drop_at (take at old) (new ++ behind) at long in
    ap (λ xs. num (take width xs)) grouped
    ∙ ap num (take_at new behind width (length-bits width value))
    ∙ num-bits width value
    ∙ mod-eq_of_lt v

-- a window that ends before one that was written reads as before
pub window_before : (at width value from count : ℕ) (old : List Bool) → at ≤ length old → from + count ≤ at → take count (drop from (written at width value old)) ≡ take count (drop from old)
window_before at width value from count old h le =
    let new = bits width value in
    let behind = drop (at + width) old in
    let long : length (take at old) ≡ at = length-take-le at old h in
    sym (drop-take from count (take at old ++ new ++ behind))
    ∙ ap (λ xs. drop from (take (from + count) xs)) (append_assoc (take at old) new behind)
    ∙ ap (drop from) (take-append-le (from + count) (take at old) (new ++ behind) (omega arith) ∙ take-take (from + count) at old le)
    ∙ drop-take from count old

-- a window that begins behind one that was written reads as before
pub window_behind : (at width value from count : ℕ) (old : List Bool) → at ≤ length old → at + width ≤ from → take count (drop from (written at width value old)) ≡ take count (drop from old)
window_behind at width value from count old h le =
    let front = take at old ++ bits width value in
    let behind = drop (at + width) old in
    let k = from - (at + width) in
    let split : at + width + k ≡ from = omega arith in
    let long : length front ≡ at + width = length-append (take at old) (bits width value) ∙ rw (length-take-le at old h, length-bits width value) in
    let cut : drop from (front ++ behind) ≡ drop from old =
    ap (λ (n : ℕ). drop n (front ++ behind)) (sym split)
    ∙ sym (drop-drop k (at + width) (front ++ behind))
    ∙ ap (drop k) (drop_at front behind (at + width) long)
    ∙ drop-drop k (at + width) old
    ∙ ap (λ (n : ℕ). drop n old) split in
    ap (take count) cut

-- a window apart from the one that was written reads as before
pub window_apart : (at width value from count : ℕ) (old : List Bool) → at ≤ length old → (from + count ≤ at) ⊎ (at + width ≤ from) → take count (drop from (written at width value old)) ≡ take count (drop from old)
window_apart at width value from count old h (inl le) = window_before at width value from count old h le
window_apart at width value from count old h (inr le) = window_behind at width value from count old h le

-- of two numbers written into one window the last one stays
pub written_twice : (at width first last : ℕ) (old : List Bool) → at ≤ length old → written at width last (written at width first old) ≡ written at width last old
written_twice at width first last old h = spliced_again at (at + width) (bits width first) (bits width last) old h (ap (λ (n : ℕ). at + n) (length-bits width first))

-- a write doesn't change how many bits there are
pub length-written : (at width value : ℕ) (old : List Bool) → at + width ≤ length old → length (written at width value old) ≡ length old
length-written at width value old le =
    let front = take at old ++ bits width value in
    let behind = drop (at + width) old in
    let long : length front ≡ at + width = length-append (take at old) (bits width value) ∙ rw (length-take-le at old (omega arith), length-bits width value) in
    length-append front behind ∙ omega (arith, length-drop (at + width) old)

-- a write within the first bits of octets
pub written_within : (octets now : List ℕ) (old : List Bool) (len at width value : ℕ) → len ≤ 8 * length octets → take len (octet_bits octets) ≡ old → at + width ≤ len → octet_bits now ≡ written at width value (octet_bits octets) → take len (octet_bits now) ≡ written at width value old
written_within octets now old len at width value h view le is =
    ap (take len) is
    ∙ spliced_within len at (at + width) (bits width value) (octet_bits octets) (omega (arith, length-octet_bits octets)) (ap (λ (k : ℕ). at + k) (length-bits width value)) le
    ∙ ap (written at width value) view

-- a list lent for writing ends as what was written there, since that is as long
pub overwritten_is : {X : Type 0} → (old now : List X) → length now ≡ length old → overwritten old now ≡ now
overwritten_is old now e = take_at now (drop (length now) old) (length old) e
