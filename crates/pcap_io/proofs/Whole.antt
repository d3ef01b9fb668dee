-- Whole records, one after the other.
use Rattle.std.proofs.Common.{◌≡◌, ℕ, zero, suc, ◌+◌, ◌≤◌, Bool, true, false, cond, List, [], ◌∷◌, ◌++◌, length, take, drop, All, refl, sym, ap, subst, ◌∙◌, arith, append_assoc}
use Rattle.std.proofs.lemmas.List.{drop-drop, length-take, take-append-le}
use Rattle.std.proofs.lemmas.List.Elements.{All-push}
use Rattle.pcap_io.specs.declared.head.Head.{Head}
use Rattle.pcap_io.specs.declared.order.Order.{Order}
use Rattle.pcap_io.specs.declared.records.Record.{Record}
use Rattle.pcap_io.specs.Numbers.{word_at}
use Rattle.pcap_io.specs.Captures.{captured_length, is_too_long, is_whole, record_of, Reading, behind, ending, records_in, IsRecord}

-- octets that belong to the record before are passed over
records_behind : (head : Head) (octets : List ℕ) (owed : ℕ) → owed ≤ length octets → records_in head octets owed ≡ records_in head (drop owed octets) 0
unfolding records_in
records_behind head [] zero h = refl
records_behind head [] (suc owed) h = absurd (omega arith)
records_behind head (o ∷ octets) zero h = refl
records_behind head (o ∷ octets) (suc owed) h = records_behind head octets owed (omega arith)

-- what the octets are, by whether they begin with a whole record
unfoldable pub by_record : (head : Head) (o : ℕ) (octets : List ℕ) → Bool → Reading
by_record head o octets whole =
    cond whole (behind (record_of head.order (o ∷ octets) ∷ []) (records_in head octets (15 + captured_length head.order (o ∷ octets)))) (ending head (o ∷ octets))

pub by_whole : (head : Head) (o : ℕ) (octets : List ℕ) (whole : Bool) → is_whole head.order (o ∷ octets) ≡ whole → records_in head (o ∷ octets) 0 ≡ by_record head o octets whole
unfolding records_in by_record
by_whole head o octets whole e = ap (λ (b : Bool). by_record head o octets b) e

-- a whole record has its octets
pub whole_within : (order : Order) (octets : List ℕ) → is_whole order octets ≡ true → 16 + captured_length order octets ≤ length octets
unfolding is_whole
whole_within order octets whole = grind arith

-- a whole record and what stands behind it
pub first_record : (head : Head) (octets : List ℕ) → is_whole head.order octets ≡ true →
    records_in head octets 0 ≡ behind (record_of head.order octets ∷ []) (records_in head (drop (16 + captured_length head.order octets) octets) 0)
unfolding by_record
first_record head [] whole = absurd (omega (arith, whole_within head.order [] whole))
first_record head (o ∷ octets) whole =
    by_whole head o octets true whole
    ∙ ap (λ (rest : Reading). behind (record_of head.order (o ∷ octets) ∷ []) rest)
    (records_behind head octets (15 + captured_length head.order (o ∷ octets)) (omega (arith, whole_within head.order (o ∷ octets) whole))
    ∙ ap (λ (rest : List ℕ). records_in head rest 0) (one_less (captured_length head.order (o ∷ octets))))
  where
    one_less : (n : ℕ) → drop (15 + n) octets ≡ drop (16 + n) (o ∷ octets)
    one_less n = let e : suc (15 + n) ≡ 16 + n = omega arith in ap (λ (k : ℕ). drop k (o ∷ octets)) e

nothing_left : (head : Head) → records_in head [] 0 ≡ ending head []
unfolding records_in is_too_long
nothing_left head = refl

-- octets that begin with no whole record
pub no_record : (head : Head) (octets : List ℕ) → is_whole head.order octets ≡ false → records_in head octets 0 ≡ ending head octets
unfolding by_record
no_record head [] short = nothing_left head
no_record head (o ∷ octets) short = by_whole head o octets false short

pub record_is : (order : Order) (octets captured : List ℕ) (seconds fraction : ℕ) (one : Record) →
    one ≡ record { octets = captured; seconds = seconds; fraction = fraction } → captured ≡ take (captured_length order octets) (drop 16 octets) →
    seconds ≡ word_at order 0 octets → fraction ≡ word_at order 4 octets → one ≡ record_of order octets
record_is order octets captured seconds fraction one one_is captured_is seconds_is fraction_is = simp (one_is, captured_is, seconds_is, fraction_is)

-- the records so far, one more, and those behind it
pub one_more : (head : Head) (octets rest more : List ℕ) (before so_far now : List Record) (one : Record) (place size : ℕ) →
    behind before (records_in head octets 0) ≡ behind so_far (records_in head rest 0) → is_whole head.order rest ≡ true → one ≡ record_of head.order rest →
    rest ≡ drop place octets → size ≡ captured_length head.order rest → more ≡ drop (place + (16 + size)) octets → now ≡ so_far ++ one ∷ [] →
    behind before (records_in head octets 0) ≡ behind now (records_in head more 0)
one_more head octets rest more before so_far now one place size before_is whole one_is rest_is size_is more_is now_is =
    before_is ∙ ap (λ (r : Reading). behind so_far r) (first_record head rest whole)
    ∙ ap (λ (r : Record). behind so_far (behind (r ∷ []) (records_in head (drop (16 + captured_length head.order rest) rest) 0))) (sym one_is)
    ∙ ap (λ (xs : List ℕ). behind so_far (behind (one ∷ []) (records_in head xs 0))) same
    ∙ moved (records_in head more 0)
    ∙ ap (λ (records : List Record). behind records (records_in head more 0)) (sym now_is)
  where
    moved : (r : Reading) → behind so_far (behind (one ∷ []) r) ≡ behind (so_far ++ one ∷ []) r
    moved r = ap (λ (records : List Record). let changed : Reading = record r { records = records } in changed) (sym (append_assoc so_far (one ∷ []) r.records))

    same : drop (16 + captured_length head.order rest) rest ≡ more
    same =
        ap (λ (n : ℕ). drop (16 + n) rest) (sym size_is) ∙ ap (λ (xs : List ℕ). drop (16 + size) xs) rest_is ∙ drop-drop (16 + size) place octets ∙ sym more_is

-- all whole records were taken
pub all_taken : (head : Head) (octets rest : List ℕ) (before now : List Record) (place : ℕ) →
    behind before (records_in head octets 0) ≡ behind now (records_in head rest 0) → is_whole head.order rest ≡ false → rest ≡ drop place octets →
    behind before (records_in head octets 0) ≡ behind now (ending head (drop place octets))
all_taken head octets rest before now place before_is short rest_is =
    before_is ∙ ap (λ (r : Reading). behind now r) (no_record head rest short) ∙ ap (λ (xs : List ℕ). behind now (ending head xs)) rest_is

-- the records that were there stay in front
pub still_in_front : (before so_far now : List Record) (one : Record) → take (length before) so_far ≡ before → now ≡ so_far ++ one ∷ [] → take (length before) now ≡ before
still_in_front before so_far now one front now_is =
    let long : length before ≤ length so_far = (let e = ap length front in omega (arith, length-take (length before) so_far, e)) in
    ap (take (length before)) now_is ∙ take-append-le (length before) so_far (one ∷ []) long ∙ front

pub still_fit : (so_far now : List Record) (one : Record) → All IsRecord so_far → IsRecord one → now ≡ so_far ++ one ∷ [] → All IsRecord now
still_fit so_far now one fits fit now_is = let P : List Record → Type 0 = λ l. All IsRecord l in subst P (sym now_is) (All-push IsRecord so_far one fits fit)
