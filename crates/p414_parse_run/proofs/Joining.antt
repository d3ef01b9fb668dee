-- The values of a select, joined.
use Rattle.std.proofs.Common.{◌≡◌, ℕ, ◌+◌, ◌*◌, ◌%◌, ◌^◌, ◌<◌, ◌≤◌, List, [], ◌∷◌, length, map, get_or, drop, Option, Some, None, refl, sym, ap, ◌∙◌, subst, pow_pos, pow_mono, arith}
use Rattle.std.specs.List.{fold}
use Rattle.std.proofs.Math.Nat.{mod-lt, mul-le-mul_left, mul-le-mul_right}
use Rattle.std.proofs.lemmas.Nat.{pow-add}
use Rattle.std.proofs.lemmas.List.Sums.{sum_by-cons}
use Rattle.p414_sem.specs.State.{State}
use Rattle.p414_ready_parser.specs.declared.rows.SelectPart.{SelectPart}
use Rattle.p414_ready_parser.specs.Rows.{key_bits, part_width}
use Rattle.p414_ready_parser.specs.Running.{join_by, join_part, ready_number}
use Rattle.p414_parse_run.proofs.Turns.{next_items}

bits_of_first : (p : SelectPart) (parts : List SelectPart) → key_bits (p ∷ parts) ≡ p.width + key_bits parts
bits_of_first p parts = sum_by-cons (λ (x : ℕ). x) p.width (map part_width parts)

-- the bits from a part on are its own and those behind it
bits_from : (parts : List SelectPart) (i : ℕ) (d : SelectPart) → i < length parts → key_bits (drop i parts) ≡ (get_or parts i d).width + key_bits (drop (i + 1) parts)
bits_from parts i d lt = ap key_bits (next_items parts i d lt) ∙ bits_of_first (get_or parts i d) (drop (i + 1) parts)

pub rest_few : (parts : List SelectPart) (i : ℕ) (d : SelectPart) → i < length parts → key_bits (drop i parts) ≤ 128 → key_bits (drop (i + 1) parts) ≤ 128
rest_few parts i d lt few = let sum : key_bits (drop i parts) ≡ (get_or parts i d).width + key_bits (drop (i + 1) parts) = bits_from parts i d lt in omega arith

-- there is room for the bits that are still to come

pub room_first : (parts : List SelectPart) → key_bits parts ≤ 128 → 1 * 2 ^ key_bits parts ≤ 2 ^ 128
room_first parts few = let below : 2 ^ key_bits parts ≤ 2 ^ 128 = pow_mono few in omega arith

room_split : (parts : List SelectPart) (i front : ℕ) (d : SelectPart) → i < length parts → (front + 1) * 2 ^ key_bits (drop i parts) ≤ 2 ^ 128 → (front + 1) * (2 ^ (get_or parts i d).width * 2 ^ key_bits (drop (i + 1) parts)) ≤ 2 ^ 128
room_split parts i front d lt room =
    subst (λ (n : ℕ). (front + 1) * n ≤ 2 ^ 128) (ap (λ (k : ℕ). 2 ^ k) (bits_from parts i d lt) ∙ pow-add 2 (get_or parts i d).width (key_bits (drop (i + 1) parts))) room

front_by : (front a b most : ℕ) → 0 < b → (front + 1) * (a * b) ≤ most → (front + 1) * a ≤ most
front_by front a b most some room =
    let more : (front + 1) * a * 1 ≤ (front + 1) * a * b = mul-le-mul_left ((front + 1) * a) some in
    omega arith

pub room_here : (parts : List SelectPart) (i front : ℕ) (d : SelectPart) → i < length parts → (front + 1) * 2 ^ key_bits (drop i parts) ≤ 2 ^ 128 → (front + 1) * 2 ^ (get_or parts i d).width ≤ 2 ^ 128
room_here parts i front d lt room =
    front_by front (2 ^ (get_or parts i d).width) (2 ^ key_bits (drop (i + 1) parts)) (2 ^ 128) (pow_pos (key_bits (drop (i + 1) parts))) (room_split parts i front d lt room)

rest_by : (front v a b most : ℕ) → v < a → (front + 1) * (a * b) ≤ most → (front * a + v + 1) * b ≤ most
rest_by front v a b most lt room =
    let fewer : (front * a + v + 1) * b ≤ (front * a + a) * b = mul-le-mul_right b (omega arith) in
    omega arith

pub room_behind : (parts : List SelectPart) (i front value : ℕ) (d : SelectPart) → i < length parts → (front + 1) * 2 ^ key_bits (drop i parts) ≤ 2 ^ 128 → (front * 2 ^ (get_or parts i d).width + value % 2 ^ (get_or parts i d).width + 1) * 2 ^ key_bits (drop (i + 1) parts) ≤ 2 ^ 128
room_behind parts i front value d lt room =
    rest_by front (value % 2 ^ (get_or parts i d).width) (2 ^ (get_or parts i d).width) (2 ^ key_bits (drop (i + 1) parts)) (2 ^ 128) (mod-lt value (pow_pos (get_or parts i d).width)) (room_split parts i front d lt room)

-- one more is joined, or one goes past the end

pub joined : (element : ℕ) (s : State) (parts : List SelectPart) (i front value : ℕ) (d : SelectPart) (due : Option ℕ) → i < length parts → Some value ≡ ready_number element s (get_or parts i d).value → fold (join_part element s) (Some front) (drop i parts) ≡ due → fold (join_part element s) (Some (front * 2 ^ (get_or parts i d).width + value % 2 ^ (get_or parts i d).width)) (drop (i + 1) parts) ≡ due
joined element s parts i front value d due lt is so =
    ap (λ (o : Option ℕ). fold (join_part element s) (join_by (get_or parts i d).width (Some front) o) (drop (i + 1) parts)) is
    ∙ ap (fold (join_part element s) (Some front)) (sym (next_items parts i d lt))
    ∙ so

none_by : (width : ℕ) (o : Option ℕ) → join_by width None o ≡ None
none_by width (Some n) = refl
none_by width None = refl

past : (element : ℕ) (s : State) (parts : List SelectPart) → fold (join_part element s) None parts ≡ None
past element s [] = refl
past element s (p ∷ parts) =
    ap (λ (o : Option ℕ). fold (join_part element s) o parts) (none_by p.width (ready_number element s p.value)) ∙ past element s parts

pub unjoined : (element : ℕ) (s : State) (parts : List SelectPart) (i front : ℕ) (d : SelectPart) (due : Option ℕ) → i < length parts → None ≡ ready_number element s (get_or parts i d).value → fold (join_part element s) (Some front) (drop i parts) ≡ due → None ≡ due
unjoined element s parts i front d due lt is so =
    sym (past element s (drop (i + 1) parts))
    ∙ ap (λ (o : Option ℕ). fold (join_part element s) (join_by (get_or parts i d).width (Some front) o) (drop (i + 1) parts)) is
    ∙ ap (fold (join_part element s) (Some front)) (sym (next_items parts i d lt))
    ∙ so
