-- Captures that are written, and read again.
use Rattle.std.proofs.Common.{◌≡◌, ℕ, suc, ◌+◌, ◌<◌, ◌≤◌, ◌^◌, Bool, true, false, List, [], ◌∷◌, ◌++◌, length, map, take, drop, get_or, All, Option, None, Some, Result, Ok, Err, if◌then◌else◌, ◌==◌, ◌&&◌, refl, sym, ap, ◌∙◌, arith, append_assoc, length-append}
use Rattle.std.specs.Int.{w32, to_le_bytes}
use Rattle.std.specs.List.{flat_map}
use Rattle.std.proofs.lemmas.List.{drop-drop}
use Rattle.std.proofs.Math.Seq.{take-append_seam, drop-append_seam}
use Rattle.byteorder.specs.Endian.{little_bytes, little_number}
use Rattle.byteorder.specs.Numbers.{little_number-reads_back}
use Rattle.p4x_fault.specs.declared.Fault.{Fault}
use Rattle.fabric.specs.declared.packets.Arrival.{Arrival}
use Rattle.fabric.specs.Numbers.{IsArrival}
use Rattle.pcap_io.specs.declared.head.Head.{Head}
use Rattle.pcap_io.specs.declared.order.Order.{Order}
use Rattle.pcap_io.specs.declared.order.Order.TheVariants.{Little, Big}
use Rattle.pcap_io.specs.declared.records.Record.{Record}
use Rattle.pcap_io.specs.Numbers.{half_at, word_at}
use Rattle.pcap_io.specs.Captures.{longest_record, captured_length, is_whole, record_of, nano_magic, is_magic, order_of, refused, head_in, head_of, Reading, behind, opened, records_in, reading_of, refusal_in, link_of, nano_of, arrivals_of, IsCapture}
use Rattle.pcap_io.specs.Sent.{magic_of, file_header_of, record_header_of, arrival_bytes}
use Rattle.pcap_io.proofs.Whole.{first_record}
use Rattle.pcap_io.proofs.Opening.{is_opened}
use Rattle.pcap_io.proofs.Growing.{is_whole_by}

pub header_octets : (link : ℕ) (nano : Bool) (m l : List ℕ) → m ≡ to_le_bytes w32 (magic_of nano) → l ≡ to_le_bytes w32 link →
    file_header_of link nano
    ≡ get_or m 0 0 ∷ get_or m 1 0 ∷ get_or m 2 0 ∷ get_or m 3 0 ∷ 2 ∷ 0 ∷ 4 ∷ 0 ∷ 0 ∷ 0 ∷ 0 ∷ 0 ∷ 0 ∷ 0 ∷ 0 ∷ 0 ∷ 0 ∷ 0 ∷ 4 ∷ 0
    ∷ get_or l 0 0 ∷ get_or l 1 0 ∷ get_or l 2 0 ∷ get_or l 3 0 ∷ []
unfolding file_header_of
header_octets link nano m l em el = simp (em, el)

pub record_octets : (seconds fraction size : ℕ) (s f n : List ℕ) → s ≡ to_le_bytes w32 seconds → f ≡ to_le_bytes w32 fraction → n ≡ to_le_bytes w32 size →
    record_header_of seconds fraction size
    ≡ get_or s 0 0 ∷ get_or s 1 0 ∷ get_or s 2 0 ∷ get_or s 3 0 ∷ get_or f 0 0 ∷ get_or f 1 0 ∷ get_or f 2 0 ∷ get_or f 3 0
    ∷ get_or n 0 0 ∷ get_or n 1 0 ∷ get_or n 2 0 ∷ get_or n 3 0 ∷ get_or n 0 0 ∷ get_or n 1 0 ∷ get_or n 2 0 ∷ get_or n 3 0 ∷ []
unfolding record_header_of
record_octets seconds fraction size s f n es ef en = simp (es, ef, en)

-- a number that stands behind some octets

word_written : (front : List ℕ) (x : ℕ) (rest : List ℕ) → x < 2 ^ 32 → word_at Little (length front) (front ++ (little_bytes 4 x ++ rest)) ≡ x
unfolding word_at
word_written front x rest small =
    ap (little_number 4) (drop-append_seam front (little_bytes 4 x ++ rest)) ∙ little_number-reads_back 4 x rest small

half_written : (front : List ℕ) (x : ℕ) (rest : List ℕ) → x < 2 ^ 16 → half_at Little (length front) (front ++ (little_bytes 2 x ++ rest)) ≡ x
unfolding half_at
half_written front x rest small =
    ap (little_number 2) (drop-append_seam front (little_bytes 2 x ++ rest)) ∙ little_number-reads_back 2 x rest small

-- the numbers of a record header

seconds_written : (s f n : ℕ) (rest : List ℕ) → s < 2 ^ 32 → word_at Little 0 (record_header_of s f n ++ rest) ≡ s
unfolding record_header_of
seconds_written s f n rest small = word_written [] s (little_bytes 4 f ++ (little_bytes 4 n ++ (little_bytes 4 n ++ rest))) small

fraction_written : (s f n : ℕ) (rest : List ℕ) → f < 2 ^ 32 → word_at Little 4 (record_header_of s f n ++ rest) ≡ f
unfolding record_header_of
fraction_written s f n rest small = word_written (little_bytes 4 s) f (little_bytes 4 n ++ (little_bytes 4 n ++ rest)) small

length_written : (s f n : ℕ) (rest : List ℕ) → n < 2 ^ 32 → word_at Little 8 (record_header_of s f n ++ rest) ≡ n
unfolding record_header_of
length_written s f n rest small = word_written (little_bytes 4 s ++ little_bytes 4 f) n (little_bytes 4 n ++ rest) small

behind_header : (s f n : ℕ) (rest : List ℕ) → drop 16 (record_header_of s f n ++ rest) ≡ rest
unfolding record_header_of
behind_header s f n rest = refl

header_size : (s f n : ℕ) → length (record_header_of s f n) ≡ 16
unfolding record_header_of
header_size s f n = refl

-- the records of packets

record_for : Arrival → Record
record_for arrival = record { octets = arrival.octets; seconds = arrival.seconds; fraction = arrival.fraction }

IsShort : Arrival → Type 0
IsShort arrival = length arrival.octets ≤ longest_record

-- a record and more octets, without brackets
one_written : (arrival : Arrival) (more : List ℕ) →
    arrival_bytes arrival ++ more ≡ record_header_of arrival.seconds arrival.fraction (length arrival.octets) ++ (arrival.octets ++ more)
one_written arrival more = append_assoc (record_header_of arrival.seconds arrival.fraction (length arrival.octets)) arrival.octets more

size_written : (arrival : Arrival) (more : List ℕ) → IsShort arrival → captured_length Little (arrival_bytes arrival ++ more) ≡ length arrival.octets
unfolding IsShort
size_written arrival more short =
    ap (captured_length Little) (one_written arrival more)
    ∙ length_written arrival.seconds arrival.fraction (length arrival.octets) (arrival.octets ++ more) (omega (arith, short))

body_written : (arrival : Arrival) (more : List ℕ) → drop 16 (arrival_bytes arrival ++ more) ≡ arrival.octets ++ more
body_written arrival more =
    ap (drop 16) (one_written arrival more) ∙ behind_header arrival.seconds arrival.fraction (length arrival.octets) (arrival.octets ++ more)

length_of_written : (arrival : Arrival) (more : List ℕ) → length (arrival_bytes arrival ++ more) ≡ 16 + (length arrival.octets + length more)
length_of_written arrival more =
    ap length (one_written arrival more) ∙ length-append (record_header_of arrival.seconds arrival.fraction (length arrival.octets)) (arrival.octets ++ more)
    ∙ ap (λ (n : ℕ). n + length (arrival.octets ++ more)) (header_size arrival.seconds arrival.fraction (length arrival.octets))
    ∙ ap (λ (n : ℕ). 16 + n) (length-append arrival.octets more)

whole_written : (arrival : Arrival) (more : List ℕ) → IsShort arrival → is_whole Little (arrival_bytes arrival ++ more) ≡ true
unfolding IsShort
whole_written arrival more short =
    let size = size_written arrival more short in
    let long = length_of_written arrival more in
    is_whole_by Little (arrival_bytes arrival ++ more) (omega (arith, long)) (omega (arith, size, short)) (omega (arith, long, size))

record_written : (arrival : Arrival) (more : List ℕ) → IsArrival arrival → IsShort arrival → record_of Little (arrival_bytes arrival ++ more) ≡ record_for arrival
unfolding record_for
record_written arrival more fits short =
    let octets : take (captured_length Little (arrival_bytes arrival ++ more)) (drop 16 (arrival_bytes arrival ++ more)) ≡ arrival.octets =
    ap (λ (n : ℕ). take n (drop 16 (arrival_bytes arrival ++ more))) (size_written arrival more short)
    ∙ ap (take (length arrival.octets)) (body_written arrival more) ∙ take-append_seam arrival.octets more in
    let seconds : word_at Little 0 (arrival_bytes arrival ++ more) ≡ arrival.seconds =
    ap (word_at Little 0) (one_written arrival more)
    ∙ seconds_written arrival.seconds arrival.fraction (length arrival.octets) (arrival.octets ++ more) fits.seconds in
    let fraction : word_at Little 4 (arrival_bytes arrival ++ more) ≡ arrival.fraction =
    ap (word_at Little 4) (one_written arrival more)
    ∙ fraction_written arrival.seconds arrival.fraction (length arrival.octets) (arrival.octets ++ more) fits.fraction in
    ap (λ (o : List ℕ). let r : Record = record { octets = o; seconds = word_at Little 0 (arrival_bytes arrival ++ more); fraction = word_at Little 4 (arrival_bytes arrival ++ more) } in r) octets
    ∙ ap (λ (s : ℕ). let r : Record = record { octets = arrival.octets; seconds = s; fraction = word_at Little 4 (arrival_bytes arrival ++ more) } in r) seconds
    ∙ ap (λ (f : ℕ). let r : Record = record { octets = arrival.octets; seconds = arrival.seconds; fraction = f } in r) fraction

rest_written : (arrival : Arrival) (more : List ℕ) → IsShort arrival → drop (16 + captured_length Little (arrival_bytes arrival ++ more)) (arrival_bytes arrival ++ more) ≡ more
rest_written arrival more short =
    ap (λ (n : ℕ). drop (16 + n) (arrival_bytes arrival ++ more)) (size_written arrival more short)
    ∙ sym (drop-drop (length arrival.octets) 16 (arrival_bytes arrival ++ more))
    ∙ ap (drop (length arrival.octets)) (body_written arrival more) ∙ drop-append_seam arrival.octets more

head_for : ℕ → Bool → Head
head_for link nano = record { order = Little; nano = nano; link = link }

all_rest : {X : Type 0} (P : X → Type 0) (x : X) (xs : List X) → All P (x ∷ xs) → All P xs
all_rest P x xs all = λ k d small. all (suc k) d (omega arith)

records_written : (link : ℕ) (nano : Bool) (arrivals : List Arrival) → All IsArrival arrivals → All IsShort arrivals →
    records_in (head_for link nano) (flat_map arrival_bytes arrivals) 0 ≡ record { head = Some (head_for link nano); records = map record_for arrivals; left = []; fault = None }
unfolding records_in head_for
records_written link nano [] fits short = refl
records_written link nano (arrival ∷ arrivals) fits short =
    let more = flat_map arrival_bytes arrivals in
    let first_fits : IsArrival arrival = fits 0 arrival (omega arith) in
    let first_short : IsShort arrival = short 0 arrival (omega arith) in
    first_record (head_for link nano) (arrival_bytes arrival ++ more) (whole_written arrival more first_short)
    ∙ ap (λ (r : Record). behind (r ∷ []) (records_in (head_for link nano) (drop (16 + captured_length Little (arrival_bytes arrival ++ more)) (arrival_bytes arrival ++ more)) 0))
    (record_written arrival more first_fits first_short)
    ∙ ap (λ (rest : List ℕ). behind (record_for arrival ∷ []) (records_in (head_for link nano) rest 0)) (rest_written arrival more first_short)
    ∙ ap (λ (r : Reading). behind (record_for arrival ∷ []) r)
    (records_written link nano arrivals (all_rest IsArrival arrival arrivals fits) (all_rest IsShort arrival arrivals short))

-- the file header

magic_small : (nano : Bool) → magic_of nano < 2 ^ 32
magic_small true = omega arith
magic_small false = omega arith

magic_written : (link : ℕ) (nano : Bool) (rest : List ℕ) → word_at Little 0 (file_header_of link nano ++ rest) ≡ magic_of nano
unfolding file_header_of
magic_written link nano rest =
    word_written [] (magic_of nano) (little_bytes 2 2 ++ (little_bytes 2 4 ++ (little_bytes 4 0 ++ (little_bytes 4 0 ++ (little_bytes 4 262144 ++ (little_bytes 4 link ++ rest))))))
    (magic_small nano)

major_written : (link : ℕ) (nano : Bool) (rest : List ℕ) → half_at Little 4 (file_header_of link nano ++ rest) ≡ 2
unfolding file_header_of
major_written link nano rest =
    half_written (little_bytes 4 (magic_of nano)) 2 (little_bytes 2 4 ++ (little_bytes 4 0 ++ (little_bytes 4 0 ++ (little_bytes 4 262144 ++ (little_bytes 4 link ++ rest))))) (omega arith)

minor_written : (link : ℕ) (nano : Bool) (rest : List ℕ) → half_at Little 6 (file_header_of link nano ++ rest) ≡ 4
unfolding file_header_of
minor_written link nano rest =
    half_written (little_bytes 4 (magic_of nano) ++ little_bytes 2 2) 4 (little_bytes 4 0 ++ (little_bytes 4 0 ++ (little_bytes 4 262144 ++ (little_bytes 4 link ++ rest)))) (omega arith)

link_written : (link : ℕ) (nano : Bool) (rest : List ℕ) → link < 2 ^ 32 → word_at Little 20 (file_header_of link nano ++ rest) ≡ link
unfolding file_header_of
link_written link nano rest small =
    word_written (little_bytes 4 (magic_of nano) ++ (little_bytes 2 2 ++ (little_bytes 2 4 ++ (little_bytes 4 0 ++ (little_bytes 4 0 ++ little_bytes 4 262144)))))
    link rest small

file_header_size : (link : ℕ) (nano : Bool) → length (file_header_of link nano) ≡ 24
unfolding file_header_of
file_header_size link nano = refl

behind_file_header : (link : ℕ) (nano : Bool) (rest : List ℕ) → drop 24 (file_header_of link nano ++ rest) ≡ rest
unfolding file_header_of
behind_file_header link nano rest = refl

first_order : ℕ → ℕ → Option Order
first_order first second = if is_magic first then Some Little else (if is_magic second then Some Big else None)

order_by : (nano : Bool) (second : ℕ) → first_order (magic_of nano) second ≡ Some Little
unfolding first_order
order_by true second = refl
order_by false second = refl

order_written : (link : ℕ) (nano : Bool) (rest : List ℕ) → order_of (file_header_of link nano ++ rest) ≡ Some Little
unfolding first_order
order_written link nano rest =
    ap (λ (word : ℕ). first_order word (word_at Big 0 (file_header_of link nano ++ rest))) (magic_written link nano rest)
    ∙ order_by nano (word_at Big 0 (file_header_of link nano ++ rest))

head_by : (major minor magic link : ℕ) → Result Head Fault
head_by major minor magic link = if major == 2 && minor == 4 then Ok (record { order = Little; nano = magic == nano_magic; link = link }) else Err (refused 3)

head_told : (link : ℕ) (nano : Bool) → head_by 2 4 (magic_of nano) link ≡ Ok (head_for link nano)
unfolding head_by head_for
head_told link true = refl
head_told link false = refl

head_written : (link : ℕ) (nano : Bool) (rest : List ℕ) → link < 2 ^ 32 → head_of (file_header_of link nano ++ rest) ≡ Ok (head_for link nano)
unfolding head_of head_by
head_written link nano rest small =
    let file = file_header_of link nano ++ rest in
    ap (head_in file) (order_written link nano rest)
    ∙ ap (λ (major : ℕ). head_by major (half_at Little 6 file) (word_at Little 0 file) (word_at Little 20 file)) (major_written link nano rest)
    ∙ ap (λ (minor : ℕ). head_by 2 minor (word_at Little 0 file) (word_at Little 20 file)) (minor_written link nano rest)
    ∙ ap (λ (magic : ℕ). head_by 2 4 magic (word_at Little 20 file)) (magic_written link nano rest)
    ∙ ap (λ (told : ℕ). head_by 2 4 (magic_of nano) told) (link_written link nano rest small)
    ∙ head_told link nano

-- the whole capture

-- a capture of these packets
abbrev capture_bytes : ℕ → Bool → List Arrival → List ℕ
capture_bytes link nano arrivals = file_header_of link nano ++ flat_map arrival_bytes arrivals

reading_written : (link : ℕ) (nano : Bool) (arrivals : List Arrival) → link < 2 ^ 32 → All IsArrival arrivals → All IsShort arrivals →
    reading_of (capture_bytes link nano arrivals) ≡ record { head = Some (head_for link nano); records = map record_for arrivals; left = []; fault = None }
reading_written link nano arrivals small fits short =
    let records = flat_map arrival_bytes arrivals in
    is_opened (file_header_of link nano ++ records) (omega (arith, length-append (file_header_of link nano) records, file_header_size link nano))
    ∙ ap (opened (drop 24 (file_header_of link nano ++ records))) (head_written link nano records small)
    ∙ ap (λ (rest : List ℕ). records_in (head_for link nano) rest 0) (behind_file_header link nano records)
    ∙ records_written link nano arrivals fits short

arrivals_written : (arrivals : List Arrival) → arrivals ≡ arrivals_of (map (λ (arrival : Arrival). arrival.port) arrivals) (map record_for arrivals)
unfolding record_for
arrivals_written [] = refl
arrivals_written (arrival ∷ arrivals) = ap (λ (rest : List Arrival). arrival ∷ rest) (arrivals_written arrivals)

pub capture_written : (link : ℕ) (nano : Bool) (arrivals : List Arrival) → link < 2 ^ 32 → All IsArrival arrivals → All (λ arrival. length arrival.octets ≤ longest_record) arrivals →
    IsCapture (capture_bytes link nano arrivals) (map (λ (arrival : Arrival). arrival.port) arrivals) link nano arrivals
unfolding head_for IsShort
capture_written link nano arrivals small fits short =
    let is = reading_written link nano arrivals small fits short in
    record {
      whole = ap refusal_in is;
      of_link = ap link_of is;
      of_unit = ap nano_of is;
      of_records =
          arrivals_written arrivals
          ∙ ap (λ (r : Reading). arrivals_of (map (λ (arrival : Arrival). arrival.port) arrivals) r.records) (sym is);
    }
