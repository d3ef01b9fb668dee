-- A reader that makes its records one by one.
use Rattle.std.proofs.Common.{◌≡◌, ℕ, ◌+◌, ◌≤◌, true, false, List, [], ◌∷◌, length, drop, Option, None, Some, Ok, Err, sym, ap, ◌∙◌}
use Rattle.std.proofs.lemmas.List.{drop-drop}
use Rattle.std.proofs.Math.Seq.{drop-length}
use Rattle.p4x_fault.specs.declared.Fault.{Fault}
use Rattle.pcap_io.specs.declared.head.Head.{Head}
use Rattle.pcap_io.specs.declared.progress.Progress.{Progress}
use Rattle.pcap_io.specs.declared.records.Record.{Record}
use Rattle.pcap_io.specs.Captures.{Reading, behind, opened, head_of, records_in, reading_of, is_whole, record_of, captured_length, ending}
use Rattle.pcap_io.specs.Reader.{read_on, rest_of}
use Rattle.pcap_io.specs.internal.Held.{held, AwaitsHeader}
use Rattle.pcap_io.proofs.Opening.{unread, is_opened}
use Rattle.pcap_io.proofs.Growing.{records_head}
use Rattle.pcap_io.proofs.Whole.{first_record, no_record}

-- The file header is read.

pub opened_head : (head : Option Head) (octets : List ℕ) → AwaitsHeader head None octets → head ≡ (read_on head octets).head
opened_head None octets few = sym (ap (λ (r : Reading). r.head) (unread octets few))
opened_head (Some head) octets few = sym (records_head head octets 0)

taken_is : (octets : List ℕ) (head : Head) → 24 ≤ length octets → Ok head ≡ head_of octets → reading_of octets ≡ records_in head (drop 24 octets) 0
taken_is octets head long is = is_opened octets long ∙ ap (opened (drop 24 octets)) (sym is)

pub taken_reads : (octets : List ℕ) (head : Head) → 24 ≤ length octets → Ok head ≡ head_of octets
    → rest_of (held (record { head = Some head; used = 24; fault = None }) [] octets) ≡ reading_of octets
taken_reads octets head long is = sym (taken_is octets head long is)

pub taken_head : (octets : List ℕ) (head : Head) → 24 ≤ length octets → Ok head ≡ head_of octets → Some head ≡ (reading_of octets).head
taken_head octets head long is = sym (ap (λ (r : Reading). r.head) (taken_is octets head long is) ∙ records_head head (drop 24 octets) 0)

refused_is : (octets : List ℕ) (fault : Fault) → 24 ≤ length octets → Err fault ≡ head_of octets → reading_of octets ≡ record { head = None; records = []; left = []; fault = Some fault }
refused_is octets fault long is = is_opened octets long ∙ ap (opened (drop 24 octets)) (sym is)

pub refused_reads : (octets : List ℕ) (fault : Fault) → 24 ≤ length octets → Err fault ≡ head_of octets
    → rest_of (held (record { head = None; used = length octets; fault = Some fault }) [] octets) ≡ reading_of octets
refused_reads octets fault long is =
    ap (λ (left : List ℕ). let r : Reading = record { head = None; records = []; left = left; fault = Some fault } in r) (drop-length octets) ∙ sym (refused_is octets fault long is)

pub refused_head : (octets : List ℕ) (fault : Fault) → 24 ≤ length octets → Err fault ≡ head_of octets → None ≡ (reading_of octets).head
refused_head octets fault long is = sym (ap (λ (r : Reading). r.head) (refused_is octets fault long is))

-- A record is taken, or none is left.

one_taken : (head : Head) (octets more : List ℕ) (one : Record) (place size : ℕ) → is_whole head.order (drop place octets) ≡ true → one ≡ record_of head.order (drop place octets)
    → size ≡ captured_length head.order (drop place octets) → more ≡ drop (place + (16 + size)) octets
    → records_in head (drop place octets) 0 ≡ behind (one ∷ []) (records_in head more 0)
one_taken head octets more one place size whole one_is size_is more_is =
    first_record head (drop place octets) whole
    ∙ ap (λ (r : Record). behind (r ∷ []) (records_in head (drop (16 + captured_length head.order (drop place octets)) (drop place octets)) 0)) (sym one_is)
    ∙ ap (λ (n : ℕ). behind (one ∷ []) (records_in head (drop (16 + n) (drop place octets)) 0)) (sym size_is)
    ∙ ap (λ (xs : List ℕ). behind (one ∷ []) (records_in head xs 0)) (drop-drop (16 + size) place octets ∙ sym more_is)

none_taken : (head : Head) (octets : List ℕ) (place : ℕ) (progress : Progress) → is_whole head.order (drop place octets) ≡ false
    → behind [] (ending head (drop place octets)) ≡ held progress [] octets → records_in head (drop place octets) 0 ≡ held progress [] octets
none_taken head octets place progress short read = no_record head (drop place octets) short ∙ read

-- The same of what the reader holds.

abbrev reader : Option Head → List ℕ → Option Fault → Reading
reader head left fault = record { head = head; records = []; left = left; fault = fault }

pub still_opened : (known : Option Head) (head : Head) (fault : Option Fault) (left : List ℕ) → known ≡ Some head → AwaitsHeader known fault left
still_opened (Some other) head fault left is = tt
still_opened None head fault left is = absurd (cc is)

pub unopened : (known : Option Head) (fault : Option Fault) (left : List ℕ) → known ≡ None → fault ≡ None → AwaitsHeader known fault left → rest_of (reader known left fault) ≡ reader known left fault
unopened None None left head_is fault_is few = unread left few
unopened None (Some fault) left head_is fault_is few = absurd (cc fault_is)
unopened (Some head) fault left head_is fault_is few = absurd (cc head_is)

rest_is : (known : Option Head) (fault : Option Fault) (head : Head) (left : List ℕ) → known ≡ Some head → fault ≡ None → rest_of (reader known left fault) ≡ records_in head left 0
rest_is known fault head left head_is fault_is =
    ap (λ (h : Option Head). rest_of (reader h left fault)) head_is ∙ ap (λ (f : Option Fault). rest_of (reader (Some head) left f)) fault_is

pub one_drawn : (known : Option Head) (fault : Option Fault) (head : Head) (octets more : List ℕ) (one : Record) (place size : ℕ) → known ≡ Some head → fault ≡ None
    → is_whole head.order (drop place octets) ≡ true → one ≡ record_of head.order (drop place octets) → size ≡ captured_length head.order (drop place octets)
    → more ≡ drop (place + (16 + size)) octets
    → rest_of (reader known (drop place octets) fault) ≡ behind (one ∷ []) (rest_of (reader known more fault))
one_drawn known fault head octets more one place size head_is fault_is whole one_is size_is more_is =
    rest_is known fault head (drop place octets) head_is fault_is
    ∙ one_taken head octets more one place size whole one_is size_is more_is
    ∙ ap (λ (r : Reading). behind (one ∷ []) r) (sym (rest_is known fault head more head_is fault_is))

pub none_drawn : (known : Option Head) (fault : Option Fault) (head : Head) (octets : List ℕ) (place : ℕ) (progress : Progress) → known ≡ Some head → fault ≡ None
    → is_whole head.order (drop place octets) ≡ false → behind [] (ending head (drop place octets)) ≡ held progress [] octets
    → rest_of (reader known (drop place octets) fault) ≡ reader known (drop progress.used octets) progress.fault
none_drawn known fault head octets place progress head_is fault_is short read =
    let left = none_taken head octets place progress short read in
    rest_is known fault head (drop place octets) head_is fault_is ∙ left
    ∙ ap (λ (h : Option Head). reader h (drop progress.used octets) progress.fault)
    (sym (ap (λ (r : Reading). r.head) left) ∙ records_head head (drop place octets) 0 ∙ sym head_is)
