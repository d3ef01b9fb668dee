-- Fields of octets, as parts of their bits.
use Rattle.std.proofs.Common.{◌≡◌, ℕ, suc, ◌+◌, ◌-◌, ◌*◌, ◌/◌, ◌%◌, ◌^◌, ◌<◌, ◌≤◌, Bool, List, [], ◌∷◌, ◌++◌, length, take, drop, get_or, set, sym, ap, ◌∙◌, arith, length-append, length-drop, append_assoc, pow_pos, shr-shr, take-add, drop-drop, length-take-le, drop-cons, take-append-drop}
use Rattle.std.proofs.Math.Seq.{take-append-add, drop-append-add}
use Rattle.std.proofs.lemmas.List.{take_at, drop_at, take-append-le, drop-append-le, set_split, take-take, append-nil, drop-take, take_all, length-take}
use Rattle.p4x_bits.specs.BitLists.{num, bits, octet_bits}
use Rattle.p4x_bits.proofs.BitLists.{length-bits, num-append, num-bits, bits-mod, bits-num, bits-add, bits-append, take-bits, drop-bits, octet_bits-append, length-octet_bits}

-- a list with others in place of its items between two places
abbrev pub spliced : ℕ → ℕ → List Bool → List Bool → List Bool
spliced from to new old = take from old ++ new ++ drop to old

-- a second splice right behind a first is one splice
pub spliced_twice : (from mid to : ℕ) (x y old : List Bool) → from ≤ length old → from + length x ≡ mid → mid ≤ to → spliced mid to y (spliced from mid x old) ≡ spliced from to (x ++ y) old
spliced_twice from mid to x y old h e le =
    let front = take from old ++ x in
    let long : length front ≡ mid = length-append (take from old) x ∙ omega (arith, length-take-le from old h) in
    let k = to - mid in
    let split : mid + k ≡ to = omega arith in
    let first : take mid (front ++ drop mid old) ≡ front = take_at front (drop mid old) mid long in
    let last : drop to (front ++ drop mid old) ≡ drop to old =
    ap (λ (n : ℕ). drop n (front ++ drop mid old)) (sym split)
    ∙ sym (drop-drop k mid (front ++ drop mid old))
    ∙ ap (drop k) (drop_at front (drop mid old) mid long)
    ∙ drop-drop k mid old
    ∙ ap (λ (n : ℕ). drop n old) split in
    ap (λ zs. zs ++ y ++ drop to (front ++ drop mid old)) first
    ∙ ap (λ zs. front ++ y ++ zs) last
    ∙ ap (λ zs. zs ++ drop to old) (append_assoc (take from old) x y)

-- of two splices between the same places the last one stays
pub spliced_again : (from to : ℕ) (x y old : List Bool) → from ≤ length old → from + length x ≡ to → spliced from to y (spliced from to x old) ≡ spliced from to y old
spliced_again from to x y old h e =
    let short : length (take from old) ≡ from = length-take-le from old h in
    let long : length (take from old ++ x) ≡ to = length-append (take from old) x ∙ omega (arith, short) in
    let first : take from (take from old ++ x ++ drop to old) ≡ take from old = ap (take from) (append_assoc (take from old) x (drop to old)) ∙ take_at (take from old) (x ++ drop to old) from short in
    let last : drop to (take from old ++ x ++ drop to old) ≡ drop to old = drop_at (take from old ++ x) (drop to old) to long in
    rw (first, last)

-- a splice of nothing
pub spliced_none : (at : ℕ) (old : List Bool) → old ≡ spliced at at [] old
spliced_none at old = sym (ap (λ zs. zs ++ drop at old) (append-nil (take at old)) ∙ take-append-drop at old)

-- a splice inside of the middle part of a list
spliced_inside : (p from to : ℕ) (new xs ys zs : List Bool) → length xs ≡ p → from ≤ to → to ≤ length ys → xs ++ (spliced from to new ys ++ zs) ≡ spliced (p + from) (p + to) new (xs ++ (ys ++ zs))
spliced_inside p from to new xs ys zs e h le =
    let first : take (p + from) (xs ++ (ys ++ zs)) ≡ xs ++ take from ys =
    ap (λ (n : ℕ). take (n + from) (xs ++ (ys ++ zs))) (sym e)
    ∙ take-append-add xs (ys ++ zs) from
    ∙ ap (λ ws. xs ++ ws) (take-append-le from ys zs (omega arith)) in
    let last : drop (p + to) (xs ++ (ys ++ zs)) ≡ drop to ys ++ zs =
    ap (λ (n : ℕ). drop (n + to) (xs ++ (ys ++ zs))) (sym e)
    ∙ drop-append-add xs (ys ++ zs) to
    ∙ drop-append-le to ys zs le in
    rw (first, last) (simp append_assoc)

-- the bits of octets, cut before and behind the octet at a place
octets_around : (octets : List ℕ) (index : ℕ) → index < length octets → octet_bits octets ≡ octet_bits (take index octets) ++ (bits 8 (get_or octets index 0) ++ octet_bits (drop (suc index) octets))
octets_around octets index h =
    ap octet_bits (sym (take-append-drop index octets) ∙ ap (λ xs. take index octets ++ xs) (drop-cons octets index 0 h))
    ∙ octet_bits-append (take index octets) (get_or octets index 0 ∷ drop (suc index) octets)

front_length : (octets : List ℕ) (index : ℕ) → index < length octets → length (octet_bits (take index octets)) ≡ 8 * index
front_length octets index h = length-octet_bits (take index octets) ∙ ap (λ (n : ℕ). 8 * n) (length-take-le index octets (omega arith))

-- the bits within one octet
pub octet_window : (octets : List ℕ) (index skip count : ℕ) → index < length octets → skip + count ≤ 8 → take count (drop (8 * index + skip) (octet_bits octets)) ≡ take count (drop skip (bits 8 (get_or octets index 0)))
octet_window octets index skip count h le =
    let front = octet_bits (take index octets) in
    let octet = bits 8 (get_or octets index 0) in
    let behind = octet_bits (drop (suc index) octets) in
    let eight : length octet ≡ 8 = length-bits 8 (get_or octets index 0) in
    ap (λ xs. take count (drop (8 * index + skip) xs)) (octets_around octets index h)
    ∙ ap (λ (n : ℕ). take count (drop (n + skip) (front ++ (octet ++ behind)))) (sym (front_length octets index h))
    ∙ ap (take count) (drop-append-add front (octet ++ behind) skip)
    ∙ ap (take count) (drop-append-le skip octet behind (omega arith))
    ∙ take-append-le count (drop skip octet) behind (omega (arith, length-drop skip octet))

-- a write within one octet
pub octet_spliced : (octets : List ℕ) (index skip count octet : ℕ) (new : List Bool) → index < length octets → skip + count ≤ 8 → bits 8 octet ≡ spliced skip (skip + count) new (bits 8 (get_or octets index 0)) → octet_bits (set octets index octet) ≡ spliced (8 * index + skip) (8 * index + (skip + count)) new (octet_bits octets)
octet_spliced octets index skip count octet new h le e =
    let front = octet_bits (take index octets) in
    let old = bits 8 (get_or octets index 0) in
    let behind = octet_bits (drop (suc index) octets) in
    let eight : length old ≡ 8 = length-bits 8 (get_or octets index 0) in
    ap octet_bits (set_split octets index octet h)
    ∙ octet_bits-append (take index octets) (octet ∷ drop (suc index) octets)
    ∙ ap (λ xs. front ++ (xs ++ behind)) e
    ∙ spliced_inside (8 * index) skip (skip + count) new front old behind (front_length octets index h) (omega arith) (omega arith)
    ∙ ap (spliced (8 * index + skip) (8 * index + (skip + count)) new) (sym (octets_around octets index h))

-- one turn of a read
pub reads_on : (octets : List ℕ) (at done index skip count part number : ℕ) → 8 * index + skip ≡ at + done → skip + count ≤ 8 → index < length octets → 8 * index + skip + count ≤ 8 * length octets → part ≡ num (take count (drop skip (bits 8 (get_or octets index 0)))) → number ≡ num (take done (drop at (octet_bits octets))) → number * 2 ^ count + part ≡ num (take (done + count) (drop at (octet_bits octets)))
reads_on octets at done index skip count part number e le h within p n =
    let whole = octet_bits octets in
    let rest = drop at whole in
    let there : drop done rest ≡ drop (8 * index + skip) whole = drop-drop done at whole ∙ ap (λ (k : ℕ). drop k whole) (sym e) in
    let window : take count (drop done rest) ≡ take count (drop skip (bits 8 (get_or octets index 0))) = ap (take count) there ∙ octet_window octets index skip count h le in
    let room : count ≤ length (drop done rest) = omega (arith, ap length there, length-drop (8 * index + skip) whole, length-octet_bits octets) in
    let long : length (take count (drop done rest)) ≡ count = length-take-le count (drop done rest) room in
    sym (
    ap num (take-add done count rest)
    ∙ num-append (take done rest) (take count (drop done rest))
    ∙ rw (long, window, n, p)
    )

-- the last bits of a front are those of a quotient
pub part_is : (w n skip count : ℕ) → skip + count ≤ w → n / 2 ^ (w - skip - count) % 2 ^ count ≡ num (take count (drop skip (bits w n)))
part_is w n skip count le =
    let rest = w - skip - count in
    let all : skip + (count + rest) ≡ w = omega arith in
    sym (
    ap (λ (k : ℕ). num (take count (drop skip (bits k n)))) (sym all)
    ∙ ap (λ xs. num (take count xs)) (drop-bits skip (count + rest) n)
    ∙ ap num (take-bits count rest n)
    ∙ num-bits count (n / 2 ^ rest)
    )

-- a number of w bits with a part written anew
pub with_part_is : (w n skip count number : ℕ) → skip + count ≤ w → bits w ((n / 2 ^ (w - skip) * 2 ^ count + number % 2 ^ count) * 2 ^ (w - skip - count) + n % 2 ^ (w - skip - count)) ≡ spliced skip (skip + count) (bits count number) (bits w n)
with_part_is w n skip count number le =
    let rest = w - skip - count in
    let high = n / 2 ^ (w - skip) in
    let all : skip + count + rest ≡ w = omega arith in
    let back : skip + (w - skip) ≡ w = omega arith in
    let front : take skip (bits w n) ≡ bits skip high = ap (λ (k : ℕ). take skip (bits k n)) (sym back) ∙ take-bits skip (w - skip) n in
    let behind : drop (skip + count) (bits w n) ≡ bits rest n = ap (λ (k : ℕ). drop (skip + count) (bits k n)) (sym all) ∙ drop-bits (skip + count) rest n in
    let small : number % 2 ^ count < 2 ^ count = omega (arith, pow_pos count) in
    let low : n % 2 ^ rest < 2 ^ rest = omega (arith, pow_pos rest) in
    ap (λ (k : ℕ). bits k ((high * 2 ^ count + number % 2 ^ count) * 2 ^ rest + n % 2 ^ rest)) (sym all)
    ∙ sym (bits-append (skip + count) rest (high * 2 ^ count + number % 2 ^ count) (n % 2 ^ rest) low)
    ∙ ap (λ xs. xs ++ bits rest (n % 2 ^ rest)) (sym (bits-append skip count high (number % 2 ^ count) small))
    ∙ rw (bits-mod count number, bits-mod rest n, front, behind)

-- one turn of a write
pub writes_on : (old now new : List ℕ) (at done index skip count left number octet : ℕ) → at ≤ 8 * length old → 8 * index + skip ≡ at + done → skip + count ≤ 8 → index < length now → bits 8 octet ≡ spliced skip (skip + count) (bits count (number / 2 ^ left)) (bits 8 (get_or now index 0)) → new ≡ set now index octet → octet_bits now ≡ spliced at (at + done) (bits done (number / 2 ^ (left + count))) (octet_bits old) → octet_bits new ≡ spliced at (at + (done + count)) (bits (done + count) (number / 2 ^ left)) (octet_bits old)
writes_on old now new at done index skip count left number octet le e fit h o n is =
    let first = bits done (number / 2 ^ (left + count)) in
    let second = bits count (number / 2 ^ left) in
    let old_bits = octet_bits old in
    let bound : at ≤ length old_bits = omega (arith, length-octet_bits old) in
    let long : at + length first ≡ at + done = ap (λ (k : ℕ). at + k) (length-bits done (number / 2 ^ (left + count))) in
    let joined : first ++ second ≡ bits (done + count) (number / 2 ^ left) = sym (bits-add done count (number / 2 ^ left) ∙ ap (λ (k : ℕ). bits done k ++ second) (shr-shr number left count)) in
    let to : 8 * index + (skip + count) ≡ at + (done + count) = omega arith in
    let moved : spliced (8 * index + skip) (8 * index + (skip + count)) second (octet_bits now) ≡ spliced (at + done) (at + (done + count)) second (spliced at (at + done) first old_bits) = rw (e, to, is) in
    ap octet_bits n
    ∙ octet_spliced now index skip count octet second h fit o
    ∙ moved
    ∙ spliced_twice at (at + done) (at + (done + count)) first second old_bits bound long (omega arith)
    ∙ ap (λ xs. spliced at (at + (done + count)) xs old_bits) joined

-- one turn of a copy
pub copies_on : (source old now new : List Bool) (at done width field : ℕ) → done + width ≤ length source → at ≤ length old → field ≡ num (take width (drop done source)) → new ≡ spliced (at + done) (at + done + width) (bits width field) now → now ≡ spliced at (at + done) (take done source) old → new ≡ spliced at (at + (done + width)) (take (done + width) source) old
copies_on source old now new at done width field within le f n is =
    let part = take width (drop done source) in
    let room : width ≤ length (drop done source) = omega (arith, length-drop done source) in
    let copied : length (take done source) ≡ done = length-take-le done source (omega arith) in
    let same : bits width field ≡ part = ap (bits width) f ∙ bits-num width part (length-take-le width (drop done source) room) in
    let to : at + done + width ≡ at + (done + width) = omega arith in
    let moved : spliced (at + done) (at + done + width) (bits width field) now ≡ spliced (at + done) (at + (done + width)) part (spliced at (at + done) (take done source) old) = rw (same, to, is) in
    n
    ∙ moved
    ∙ spliced_twice at (at + done) (at + (done + width)) (take done source) part old le (ap (λ (k : ℕ). at + k) copied) (omega arith)
    ∙ ap (λ xs. spliced at (at + (done + width)) xs old) (sym (take-add done width source))

-- a splice within the first bits of a list
pub spliced_within : (len from to : ℕ) (new old : List Bool) → len ≤ length old → from + length new ≡ to → to ≤ len → take len (spliced from to new old) ≡ spliced from to new (take len old)
spliced_within len from to new old h e le =
    let front = take from old ++ new in
    let k = len - to in
    let split : to + k ≡ len = omega arith in
    let long : length front ≡ to = length-append (take from old) new ∙ omega (arith, length-take-le from old (omega arith)) in
    let first : take from (take len old) ≡ take from old = take-take from len old (omega arith) in
    ap (λ (n : ℕ). take n (front ++ drop to old)) (sym split)
    ∙ ap (λ (n : ℕ). take (n + k) (front ++ drop to old)) (sym long)
    ∙ take-append-add front (drop to old) k
    ∙ ap (λ xs. front ++ xs) (sym (drop-take to k old) ∙ ap (λ (n : ℕ). drop to (take n old)) split)
    ∙ ap (λ xs. xs ++ new ++ drop to (take len old)) (sym first)

-- a splice right behind the first bits of a list
pub spliced_behind : (len to : ℕ) (new old : List Bool) → len ≤ length old → len + length new ≡ to → take to (spliced len to new old) ≡ take len old ++ new
spliced_behind len to new old h e =
    let front = take len old ++ new in
    let long : length front ≡ to = length-append (take len old) new ∙ omega (arith, length-take-le len old h) in
    take_at front (drop to old) to long

-- a splice of a block that was itself spliced
pub block_spliced : (p long skip count at : ℕ) (block after new old : List Bool) → p + long ≤ length old → skip + count ≤ long → p + skip ≡ at → block ≡ take long (drop p old) → after ≡ spliced skip (skip + count) new block → spliced p (p + long) after old ≡ spliced at (at + count) new old
block_spliced p long skip count at block after new old room le e b a =
    let front = take p old in
    let behind = drop (p + long) old in
    let size : length block ≡ long = ap length b ∙ length-take-le long (drop p old) (omega (arith, length-drop p old)) in
    let whole : front ++ (block ++ behind) ≡ old =
    ap (λ xs. front ++ (xs ++ behind)) b
    ∙ ap (λ xs. front ++ (take long (drop p old) ++ xs)) (sym (drop-drop long p old))
    ∙ ap (λ xs. front ++ xs) (take-append-drop long (drop p old))
    ∙ take-append-drop p old in
    let to : p + (skip + count) ≡ at + count = omega arith in
    append_assoc front after behind
    ∙ ap (λ xs. front ++ (xs ++ behind)) a
    ∙ spliced_inside p skip (skip + count) new front block behind (length-take-le p old (omega arith)) (omega arith) (omega arith)
    ∙ ap (spliced (p + skip) (p + (skip + count)) new) whole
    ∙ ap (λ (n : ℕ). spliced n (p + (skip + count)) new old) e
    ∙ ap (λ (n : ℕ). spliced at n new old) to

-- bits that a longer list of octets begins with
pub grown : (old more : List ℕ) → take (8 * length old) (octet_bits (old ++ more)) ≡ octet_bits old
grown old more = ap (take (8 * length old)) (octet_bits-append old more) ∙ take_at (octet_bits old) (octet_bits more) (8 * length old) (length-octet_bits old)

pub not_grown : (octets : List ℕ) → take (8 * length octets) (octet_bits octets) ≡ octet_bits octets
not_grown octets = take_all (8 * length octets) (octet_bits octets) (omega (arith, length-octet_bits octets))

-- what was put behind the first bits of a list that grew
pub pushed_behind : (len to n : ℕ) (old longer now new : List Bool) → len ≤ n → take n longer ≡ old → n ≤ length longer → to ≤ length longer → len + length new ≡ to → now ≡ spliced len to new longer → take to now ≡ take len old ++ new
pushed_behind len to n old longer now new le keeps fits room e is =
    ap (take to) is
    ∙ spliced_behind len to new longer (omega arith) e
    ∙ ap (λ xs. xs ++ new) (sym (take-take len n longer le) ∙ ap (take len) keeps)

-- a list that begins with another is no shorter
pub begins_longer : (n : ℕ) (longer old : List Bool) → take n longer ≡ old → length old ≡ n → n ≤ length longer
begins_longer n longer old e l = omega (arith, ap length e, length-take n longer)

-- a window of the first bits of a list is one of the list
pub window_within : (len at width : ℕ) (xs : List Bool) → at + width ≤ len → take width (drop at (take len xs)) ≡ take width (drop at xs)
window_within len at width xs le =
    let k = len - at in
    let split : at + k ≡ len = omega arith in
    ap (λ (n : ℕ). take width (drop at (take n xs))) (sym split)
    ∙ ap (take width) (drop-take at k xs)
    ∙ take-take width k (drop at xs) (omega arith)
