-- A reader that is fed a further piece.
use Rattle.std.proofs.Common.{◌≡◌, ℕ, zero, suc, ◌+◌, ◌-◌, ◌<◌, ◌≤◌, Bool, true, false, nat_lt, List, [], ◌∷◌, ◌++◌, length, take, drop, slice_get, Option, None, Some, Result, Ok, Err, refl, sym, ap, subst, ◌∙◌, arith, zero-add, length-append, length-drop}
use Rattle.std.proofs.lemmas.Bool.Decides.{nat_tests}
use Rattle.std.specs.List.{copy_within}
use Rattle.std.proofs.Math.Seq.{paste}
use Rattle.std.proofs.lemmas.List.{drop-append-le, drop-drop, take_all}
use Rattle.std.proofs.lemmas.List.Edits.{take-paste}
use Rattle.p4x_fault.specs.declared.Fault.{Fault}
use Rattle.pcap_io.specs.declared.head.Head.{Head}
use Rattle.pcap_io.specs.declared.records.Record.{Record}
use Rattle.pcap_io.specs.Captures.{longest_record, head_of, Reading, behind, opened, records_in, reading_of, refusal, refusal_in, link_of, nano_of}
use Rattle.pcap_io.specs.declared.faults.CaptureFault.{CaptureFault}
use Rattle.pcap_io.specs.declared.faults.CaptureFault.TheVariants.{Memory, Refused}
use Rattle.pcap_io.specs.Reader.{taken_from, HasRead, read_on, fed_by, fed, ByMemory}
use Rattle.pcap_io.proofs.Opening.{unread, is_opened}
use Rattle.pcap_io.proofs.Growing.{continued, more_after, records_append, head_first, records_head, records_left}

-- what is read of the octets of a file and of more behind them, by what the file header says

by_fault : (fault : Option Fault) (head : Head) (reading : Reading) (ys : List ℕ) → reading.head ≡ Some head → continued head fault reading ys ≡ fed_by fault reading ys
unfolding continued
by_fault None head reading ys is = ap (λ (h : Option Head). behind reading.records (read_on h (reading.left ++ ys))) (sym is)
by_fault (Some fault) head reading ys is = refl

fed_opened : (xs ys : List ℕ) (head : Result Head Fault) → opened (xs ++ ys) head ≡ fed (opened xs head) ys
unfolding more_after
fed_opened xs ys (Err fault) = refl
fed_opened xs ys (Ok head) = records_append head xs ys 0 (omega arith) ∙ by_fault (records_in head xs 0).fault head (records_in head xs 0) ys (records_head head xs 0)

-- what is read of octets and of more behind them is what a reader holds that was fed first the ones and then the others
pub fed_more : (xs ys : List ℕ) → reading_of (xs ++ ys) ≡ fed (reading_of xs) ys
fed_more xs ys = by_size (nat_lt (length xs) 24) refl
  where
    few : length xs < 24 → reading_of (xs ++ ys) ≡ fed (reading_of xs) ys
    few small = ap (λ (r : Reading). fed r ys) (sym (unread xs small))

    many : 24 ≤ length xs → reading_of (xs ++ ys) ≡ fed (reading_of xs) ys
    many long =
        is_opened (xs ++ ys) (omega (arith, length-append xs ys))
        ∙ ap (λ (rest : List ℕ). opened rest (head_of (xs ++ ys))) (drop-append-le 24 xs ys long)
        ∙ ap (opened (drop 24 xs ++ ys)) (head_first xs ys long)
        ∙ fed_opened (drop 24 xs) ys (head_of xs)
        ∙ ap (λ (r : Reading). fed r ys) (sym (is_opened xs long))

    by_size : (small : Bool) → nat_lt (length xs) 24 ≡ small → reading_of (xs ++ ys) ≡ fed (reading_of xs) ys
    by_size true e = few (grind (arith, nat_tests))
    by_size false e = many (grind (arith, nat_tests))

-- records that were taken before make no difference

fed_taken_by : (fault : Option Fault) (taken : ℕ) (reading : Reading) (ys : List ℕ) → taken ≤ length reading.records →
    fed_by fault (taken_from taken reading) ys ≡ taken_from taken (fed_by fault reading ys)
fed_taken_by (Some fault) taken reading ys some = refl
fed_taken_by None taken reading ys some =
    let more = read_on reading.head (reading.left ++ ys) in
    ap (λ (all : List Record). let r : Reading = record more { records = all } in r) (sym (drop-append-le taken reading.records more.records some))

more_records_by : (fault : Option Fault) (taken : ℕ) (reading : Reading) (ys : List ℕ) → taken ≤ length reading.records → taken ≤ length (fed_by fault reading ys).records
more_records_by (Some fault) taken reading ys some = some
more_records_by None taken reading ys some = omega (arith, some, length-append reading.records (read_on reading.head (reading.left ++ ys)).records)

has_read_more : (xs ys : List ℕ) (taken : ℕ) (old new : Reading) → HasRead xs taken old → new ≡ fed old ys → HasRead (xs ++ ys) taken new
has_read_more xs ys taken old new read is = record {
  holds =
      is ∙ ap (λ (r : Reading). fed r ys) read.holds ∙ fed_taken_by (reading_of xs).fault taken (reading_of xs) ys read.some
      ∙ ap (taken_from taken) (sym (fed_more xs ys));
  some = let P : Reading → Type 0 = λ r. taken ≤ length r.records in subst P (sym (fed_more xs ys)) (more_records_by (reading_of xs).fault taken (reading_of xs) ys read.some);
}

pub has_read_none : (new : Reading) → new ≡ record { head = None; records = []; left = []; fault = None } → HasRead [] 0 new
has_read_none new is = record { holds = is ∙ ap (taken_from 0) (sym (unread [] (omega arith))); some = omega arith }

-- the fault that is found
pub fault_more : (xs ys : List ℕ) (taken : ℕ) (old : Reading) → HasRead xs taken old → (fed old ys).fault ≡ (reading_of (xs ++ ys)).fault
fault_more xs ys taken old read = ap (λ (r : Reading). r.fault) (has_read_more xs ys taken old (fed old ys) read refl).holds

-- the answer of a call by what it left

pub reads_by : (result : Result (Unit {0}) CaptureFault) (xs ys : List ℕ) (taken : ℕ) (old new : Reading) → HasRead xs taken old →
    ByMemory result (new ≡ old) (new ≡ fed old ys) → ByMemory result (HasRead xs taken new) (HasRead (xs ++ ys) taken new)
reads_by (Ok value) xs ys taken old new read is = has_read_more xs ys taken old new read is
reads_by (Err (Refused fault)) xs ys taken old new read is = has_read_more xs ys taken old new read is
reads_by (Err Memory) xs ys taken old new read is = let P : Reading → Type 0 = λ r. HasRead xs taken r in subst P (sym is) read

-- what is taken

first_there : (all : List Record) (taken : ℕ) (one : Record) → Some one ≡ slice_get (drop taken all) 0 → taken + 1 ≤ length all
first_there [] zero one is = absurd (cc)
first_there [] (suc taken) one is = absurd (cc)
first_there (r ∷ all) zero one is = omega arith
first_there (r ∷ all) (suc taken) one is = omega (arith, first_there all taken one is)

none_there : (all : List Record) → None ≡ slice_get all 0 → drop 1 all ≡ all
none_there [] is = refl
none_there (r ∷ all) is = absurd (cc)

first_dropped : (all : List Record) (taken : ℕ) → slice_get (drop taken all) 0 ≡ slice_get all taken
first_dropped [] zero = refl
first_dropped [] (suc taken) = refl
first_dropped (r ∷ all) zero = refl
first_dropped (r ∷ all) (suc taken) = first_dropped all taken

pub next_taken : (xs : List ℕ) (taken : ℕ) (old new : Reading) (one : Record) → HasRead xs taken old → new ≡ taken_from 1 old → Some one ≡ slice_get old.records 0 → HasRead xs (taken + 1) new
next_taken xs taken old new one read is first = record {
  holds =
      is ∙ ap (taken_from 1) read.holds
      ∙ ap (λ (all : List Record). let r : Reading = record (reading_of xs) { records = all } in r) (drop-drop 1 taken (reading_of xs).records);
  some = first_there (reading_of xs).records taken one (first ∙ ap (λ (r : Reading). slice_get r.records 0) read.holds);
}

pub none_taken : (xs : List ℕ) (taken : ℕ) (old new : Reading) → HasRead xs taken old → new ≡ taken_from 1 old → None ≡ slice_get old.records 0 → HasRead xs taken new
none_taken xs taken old new read is first =
    let same : new ≡ old = is ∙ ap (λ (all : List Record). let r : Reading = record old { records = all } in r) (none_there old.records first) in
    record { holds = same ∙ read.holds; some = read.some }

-- what is told

pub refusal_read : (xs : List ℕ) (taken : ℕ) (reader : Reading) → HasRead xs taken reader → refusal_in reader ≡ refusal xs
refusal_read xs taken reader read = ap refusal_in read.holds

pub link_read : (xs : List ℕ) (taken : ℕ) (reader : Reading) → HasRead xs taken reader → link_of reader ≡ link_of (reading_of xs)
link_read xs taken reader read = ap link_of read.holds

pub nano_read : (xs : List ℕ) (taken : ℕ) (reader : Reading) → HasRead xs taken reader → nano_of reader ≡ nano_of (reading_of xs)
nano_read xs taken reader read = ap nano_of read.holds

-- what is held of a file header or a record that isn't whole

opened_left : (xs : List ℕ) (head : Result Head Fault) → length (opened xs head).left < 16 + longest_record
opened_left xs (Err fault) = omega arith
opened_left xs (Ok head) = records_left head xs 0

reading_left : (xs : List ℕ) → length (reading_of xs).left < 16 + longest_record
reading_left xs = by_size (nat_lt (length xs) 24) refl
  where
    by_size : (small : Bool) → nat_lt (length xs) 24 ≡ small → length (reading_of xs).left < 16 + longest_record
    by_size true e = let few : length xs < 24 = grind (arith, nat_tests) in let Q : Reading → Type 0 = λ r. length r.left < 16 + longest_record in subst Q (sym (unread xs few)) (omega (arith, few))
    by_size false e = let many : 24 ≤ length xs = grind (arith, nat_tests) in let Q : Reading → Type 0 = λ r. length r.left < 16 + longest_record in subst Q (sym (is_opened xs many)) (opened_left (drop 24 xs) (head_of xs))

pub left_read : (xs : List ℕ) (taken : ℕ) (reader : Reading) → HasRead xs taken reader → length reader.left < 16 + longest_record
left_read xs taken reader read = let Q : Reading → Type 0 = λ r. length r.left < 16 + longest_record in subst Q (sym read.holds) (reading_left xs)

-- what stands behind a place, copied to the front

pub moved_down : (xs : List ℕ) (size left : ℕ) → size ≤ length xs → left + size ≡ length xs → take left (copy_within xs size (length xs) 0) ≡ drop size xs
moved_down xs size left within is =
    let long : left ≡ length (drop size xs) = omega (arith, is, length-drop size xs) in
    let many : length xs - size ≡ left = omega (arith, is) in
    ap (λ (n : ℕ). take left (paste xs 0 (drop size xs) n)) many
    ∙ ap (λ (n : ℕ). take n (paste xs 0 (drop size xs) left)) (sym (zero-add left))
    ∙ take-paste xs 0 (drop size xs) left (omega arith) (omega (arith, long))
    ∙ take_all left (drop size xs) (omega (arith, long))
