-- What octets are read as when more of them come.
use Rattle.std.proofs.Common.{◌≡◌, ℕ, zero, suc, ◌+◌, ◌<◌, ◌≤◌, Bool, true, false, cond, List, [], ◌∷◌, ◌++◌, length, take, drop, Option, None, Some, refl, sym, ap, subst, ◌∙◌, arith, length-drop, length-append}
use Rattle.std.proofs.lemmas.List.{take-append-le, drop-append-le}
use Rattle.byteorder.specs.Numbers.{big_from-append, little_from-append}
use Rattle.p4x_fault.specs.declared.Fault.{Fault}
use Rattle.pcap_io.specs.declared.head.Head.{Head}
use Rattle.pcap_io.specs.declared.order.Order.{Order}
use Rattle.pcap_io.specs.declared.order.Order.TheVariants.{Little, Big}
use Rattle.pcap_io.specs.declared.records.Record.{Record}
use Rattle.pcap_io.specs.Numbers.{number_in, half_at, word_at}
use Rattle.pcap_io.specs.Captures.{longest_record, captured_length, is_too_long, is_whole, record_of, refused, order_of, head_in, head_of, Reading, behind, ending, records_in}
use Rattle.pcap_io.proofs.Whole.{by_record, by_whole, whole_within, no_record}

number_first : (order : Order) (size place : ℕ) (xs ys : List ℕ) → place + size ≤ length xs →
    number_in order size (drop place (xs ++ ys)) ≡ number_in order size (drop place xs)
number_first Little size place xs ys within =
    ap (number_in Little size) (drop-append-le place xs ys (omega arith)) ∙ little_from-append size (drop place xs) ys (omega (arith, length-drop place xs))
number_first Big size place xs ys within =
    ap (number_in Big size) (drop-append-le place xs ys (omega arith)) ∙ big_from-append size (drop place xs) ys (omega (arith, length-drop place xs))

word_first : (order : Order) (place : ℕ) (xs ys : List ℕ) → place + 4 ≤ length xs → word_at order place (xs ++ ys) ≡ word_at order place xs
unfolding word_at
word_first order place xs ys within = number_first order 4 place xs ys within

half_first : (order : Order) (place : ℕ) (xs ys : List ℕ) → place + 2 ≤ length xs → half_at order place (xs ++ ys) ≡ half_at order place xs
unfolding half_at
half_first order place xs ys within = number_first order 2 place xs ys within

-- a whole record stays whole, and the same

whole_parts : (order : Order) (xs : List ℕ) → is_whole order xs ≡ true → (16 ≤ length xs) × (captured_length order xs ≤ longest_record) × (16 + captured_length order xs ≤ length xs)
unfolding is_whole
whole_parts order xs whole = (grind arith, grind arith, grind arith)

pub is_whole_by : (order : Order) (xs : List ℕ) → 16 ≤ length xs → captured_length order xs ≤ longest_record → 16 + captured_length order xs ≤ length xs → is_whole order xs ≡ true
unfolding is_whole
is_whole_by order xs header small within = grind arith

whole_first : (order : Order) (xs ys : List ℕ) → is_whole order xs ≡ true → is_whole order (xs ++ ys) ≡ true
whole_first order xs ys whole =
    let parts = whole_parts order xs whole in
    let size : captured_length order (xs ++ ys) ≡ captured_length order xs = word_first order 8 xs ys (omega (arith, parts.0)) in
    let long = length-append xs ys in
    is_whole_by order (xs ++ ys) (omega (arith, parts.0, long)) (omega (arith, parts.1, size)) (omega (arith, parts.2, size, long))

record_first : (order : Order) (xs ys : List ℕ) → is_whole order xs ≡ true → record_of order (xs ++ ys) ≡ record_of order xs
record_first order xs ys whole =
    let parts = whole_parts order xs whole in
    let header = parts.0 in
    let size : captured_length order (xs ++ ys) ≡ captured_length order xs = word_first order 8 xs ys (omega arith) in
    let seconds : word_at order 0 (xs ++ ys) ≡ word_at order 0 xs = word_first order 0 xs ys (omega arith) in
    let fraction : word_at order 4 (xs ++ ys) ≡ word_at order 4 xs = word_first order 4 xs ys (omega arith) in
    let body : drop 16 (xs ++ ys) ≡ drop 16 xs ++ ys = drop-append-le 16 xs ys header in
    let octets : take (captured_length order (xs ++ ys)) (drop 16 (xs ++ ys)) ≡ take (captured_length order xs) (drop 16 xs) =
    ap (λ (n : ℕ). take n (drop 16 (xs ++ ys))) size ∙ ap (take (captured_length order xs)) body
    ∙ take-append-le (captured_length order xs) (drop 16 xs) ys (omega (arith, parts.2, length-drop 16 xs)) in
    ap (λ (o : List ℕ). let r : Record = record { octets = o; seconds = word_at order 0 (xs ++ ys); fraction = word_at order 4 (xs ++ ys) } in r) octets
    ∙ ap (λ (s : ℕ). let r : Record = record { octets = take (captured_length order xs) (drop 16 xs); seconds = s; fraction = word_at order 4 (xs ++ ys) } in r) seconds
    ∙ ap (λ (f : ℕ). let r : Record = record { octets = take (captured_length order xs) (drop 16 xs); seconds = word_at order 0 xs; fraction = f } in r) fraction

-- a captured length that is too great stays so

long_parts : (order : Order) (xs : List ℕ) → is_too_long order xs ≡ true → (16 ≤ length xs) × (longest_record < captured_length order xs)
unfolding is_too_long
long_parts order xs long = (grind arith, grind arith)

is_long_by : (order : Order) (xs : List ℕ) → 16 ≤ length xs → longest_record < captured_length order xs → is_too_long order xs ≡ true
unfolding is_too_long
is_long_by order xs header great = grind arith

not_whole_by : (order : Order) (xs : List ℕ) → longest_record < captured_length order xs → is_whole order xs ≡ false
unfolding is_whole
not_whole_by order xs great = grind arith

long_captured : (order : Order) (xs ys : List ℕ) → is_too_long order xs ≡ true → longest_record < captured_length order (xs ++ ys)
long_captured order xs ys long =
    let parts = long_parts order xs long in
    let size : captured_length order (xs ++ ys) ≡ captured_length order xs = word_first order 8 xs ys (omega (arith, parts.0)) in
    omega (arith, parts.1, size)

long_first : (order : Order) (xs ys : List ℕ) → is_too_long order xs ≡ true → is_too_long order (xs ++ ys) ≡ true
long_first order xs ys long =
    is_long_by order (xs ++ ys) (omega (arith, (long_parts order xs long).0, length-append xs ys)) (long_captured order xs ys long)

long_not_whole : (order : Order) (xs ys : List ℕ) → is_too_long order xs ≡ true → is_whole order (xs ++ ys) ≡ false
long_not_whole order xs ys long = not_whole_by order (xs ++ ys) (long_captured order xs ys long)

-- what records are read as when more octets come

unfoldable pub continued : Head → Option Fault → Reading → List ℕ → Reading
continued head None reading ys = behind reading.records (records_in head (reading.left ++ ys) 0)
continued head (Some fault) reading ys = reading

continued_behind : (head : Head) (fault : Option Fault) (one : Record) (reading : Reading) (ys : List ℕ) →
    behind (one ∷ []) (continued head fault reading ys) ≡ continued head fault (behind (one ∷ []) reading) ys
unfolding continued
continued_behind head None one reading ys = refl
continued_behind head (Some fault) one reading ys = refl

unfoldable pub more_after : Head → Reading → List ℕ → Reading
more_after head reading ys = continued head reading.fault reading ys

by_long : Head → List ℕ → Bool → Reading
by_long head octets long =
    cond long (record { head = Some head; records = []; left = []; fault = Some (refused 5) }) (record { head = Some head; records = []; left = octets; fault = None })

ending_is : (head : Head) (octets : List ℕ) (long : Bool) → is_too_long head.order octets ≡ long → ending head octets ≡ by_long head octets long
unfolding by_long
ending_is head octets long e = ap (λ (b : Bool). by_long head octets b) e

-- nothing is left and nothing comes in front
after_nothing : (head : Head) (xs ys : List ℕ) → records_in head (xs ++ ys) 0 ≡ more_after head (record { head = Some head; records = []; left = xs; fault = None }) ys
unfolding more_after continued
after_nothing head xs ys = refl

after_ending : (head : Head) (xs ys : List ℕ) (long : Bool) → is_too_long head.order xs ≡ long → records_in head (xs ++ ys) 0 ≡ more_after head (by_long head xs long) ys
unfolding by_long more_after continued
after_ending head xs ys true e =
    no_record head (xs ++ ys) (long_not_whole head.order xs ys e) ∙ ending_is head (xs ++ ys) true (long_first head.order xs ys e)
after_ending head xs ys false e = after_nothing head xs ys

after_whole : (head : Head) (o : ℕ) (xs ys : List ℕ) → is_whole head.order (o ∷ xs) ≡ true →
    records_in head (xs ++ ys) (15 + captured_length head.order (o ∷ xs)) ≡ more_after head (records_in head xs (15 + captured_length head.order (o ∷ xs))) ys →
    records_in head ((o ∷ xs) ++ ys) 0 ≡ more_after head (by_record head o xs true) ys
unfolding by_record more_after
after_whole head o xs ys whole later =
    let parts = whole_parts head.order (o ∷ xs) whole in
    let size : captured_length head.order (o ∷ xs ++ ys) ≡ captured_length head.order (o ∷ xs) = word_first head.order 8 (o ∷ xs) ys (omega (arith, parts.0)) in
    by_whole head o (xs ++ ys) true (whole_first head.order (o ∷ xs) ys whole)
    ∙ ap (λ (r : Record). behind (r ∷ []) (records_in head (xs ++ ys) (15 + captured_length head.order (o ∷ xs ++ ys)))) (record_first head.order (o ∷ xs) ys whole)
    ∙ ap (λ (n : ℕ). behind (record_of head.order (o ∷ xs) ∷ []) (records_in head (xs ++ ys) (15 + n))) size
    ∙ ap (λ (r : Reading). behind (record_of head.order (o ∷ xs) ∷ []) r) later
    ∙ continued_behind head (records_in head xs (15 + captured_length head.order (o ∷ xs))).fault (record_of head.order (o ∷ xs))
    (records_in head xs (15 + captured_length head.order (o ∷ xs))) ys

-- what is read of a list and of more octets behind it, where a record begins at its first octet and where the octets behind that are known
at_record : (head : Head) (o : ℕ) (xs ys : List ℕ) (whole : Bool) → is_whole head.order (o ∷ xs) ≡ whole →
    (captured_length head.order (o ∷ xs) + 15 ≤ length xs →
    records_in head (xs ++ ys) (15 + captured_length head.order (o ∷ xs)) ≡ more_after head (records_in head xs (15 + captured_length head.order (o ∷ xs))) ys) →
    records_in head ((o ∷ xs) ++ ys) 0 ≡ more_after head (by_record head o xs whole) ys
unfolding by_record by_long
at_record head o xs ys true e later = after_whole head o xs ys e (later (omega (arith, whole_within head.order (o ∷ xs) e)))
at_record head o xs ys false e later =
    after_ending head (o ∷ xs) ys (is_too_long head.order (o ∷ xs)) refl
    ∙ ap (λ (r : Reading). more_after head r ys) (sym (ending_is head (o ∷ xs) (is_too_long head.order (o ∷ xs)) refl))

-- what is read of a list and of more octets behind it
pub records_append : (head : Head) (xs ys : List ℕ) (owed : ℕ) → owed ≤ length xs → records_in head (xs ++ ys) owed ≡ more_after head (records_in head xs owed) ys
unfolding records_in more_after continued by_record
records_append head [] ys zero within = refl
records_append head [] ys (suc owed) within = absurd (omega arith)
records_append head (o ∷ xs) ys (suc owed) within = records_append head xs ys owed (omega arith)
records_append head (o ∷ xs) ys zero within =
    at_record head o xs ys (is_whole head.order (o ∷ xs)) refl (λ fits. records_append head xs ys (15 + captured_length head.order (o ∷ xs)) (omega arith))

-- the file header stays the same

order_first : (xs ys : List ℕ) → 24 ≤ length xs → order_of (xs ++ ys) ≡ order_of xs
order_first xs ys long = simp (word_first Little 0 xs ys (omega arith), word_first Big 0 xs ys (omega arith))

head_in_first : (order : Option Order) (xs ys : List ℕ) → 24 ≤ length xs → head_in (xs ++ ys) order ≡ head_in xs order
head_in_first None xs ys long = refl
head_in_first (Some order) xs ys long =
    simp (half_first order 4 xs ys (omega arith), half_first order 6 xs ys (omega arith), word_first order 0 xs ys (omega arith), word_first order 20 xs ys (omega arith))

pub head_first : (xs ys : List ℕ) → 24 ≤ length xs → head_of (xs ++ ys) ≡ head_of xs
unfolding head_of
head_first xs ys long = head_in_first (order_of (xs ++ ys)) xs ys long ∙ ap (head_in xs) (order_first xs ys long)

long_head : (head : Head) (octets : List ℕ) (long : Bool) → (by_long head octets long).head ≡ Some head
unfolding by_long
long_head head octets true = refl
long_head head octets false = refl

ending_head : (head : Head) (octets : List ℕ) → (ending head octets).head ≡ Some head
ending_head head octets =
    ap (λ (r : Reading). r.head) (ending_is head octets (is_too_long head.order octets) refl) ∙ long_head head octets (is_too_long head.order octets)

record_head : (head : Head) (o : ℕ) (xs : List ℕ) (whole : Bool) → (records_in head xs (15 + captured_length head.order (o ∷ xs))).head ≡ Some head → (by_record head o xs whole).head ≡ Some head
unfolding by_record
record_head head o xs true later = later
record_head head o xs false later = ending_head head (o ∷ xs)

-- what octets behind a file header are read as tells that header
pub records_head : (head : Head) (xs : List ℕ) (owed : ℕ) → (records_in head xs owed).head ≡ Some head
unfolding records_in by_record
records_head head [] owed = refl
records_head head (o ∷ xs) (suc owed) = records_head head xs owed
records_head head (o ∷ xs) zero = record_head head o xs (is_whole head.order (o ∷ xs)) (records_head head xs (15 + captured_length head.order (o ∷ xs)))

-- what is left is less than a record

not_whole_short : (order : Order) (xs : List ℕ) → is_whole order xs ≡ false → is_too_long order xs ≡ false → length xs < 16 + longest_record
unfolding is_whole is_too_long
not_whole_short order xs short small = grind arith

long_left : (head : Head) (xs : List ℕ) (long : Bool) → is_whole head.order xs ≡ false → is_too_long head.order xs ≡ long → length (by_long head xs long).left < 16 + longest_record
unfolding by_long
long_left head xs true short e = omega arith
long_left head xs false short e = not_whole_short head.order xs short e

ending_left : (head : Head) (xs : List ℕ) → is_whole head.order xs ≡ false → length (ending head xs).left < 16 + longest_record
ending_left head xs short =
    let is = ending_is head xs (is_too_long head.order xs) refl in
    let P : Reading → Type 0 = λ r. length r.left < 16 + longest_record in
    subst P (sym is) (long_left head xs (is_too_long head.order xs) short refl)

record_left : (head : Head) (o : ℕ) (xs : List ℕ) (whole : Bool) → is_whole head.order (o ∷ xs) ≡ whole →
    length (records_in head xs (15 + captured_length head.order (o ∷ xs))).left < 16 + longest_record → length (by_record head o xs whole).left < 16 + longest_record
unfolding by_record
record_left head o xs true e later = later
record_left head o xs false e later = ending_left head (o ∷ xs) e

pub records_left : (head : Head) (xs : List ℕ) (owed : ℕ) → length (records_in head xs owed).left < 16 + longest_record
unfolding records_in by_record
records_left head [] owed = omega arith
records_left head (o ∷ xs) (suc owed) = records_left head xs owed
records_left head (o ∷ xs) zero = record_left head o xs (is_whole head.order (o ∷ xs)) refl (records_left head xs (15 + captured_length head.order (o ∷ xs)))
