-- The file header, and what stands behind it.
use Rattle.std.proofs.Common.{◌≡◌, ℕ, ◌+◌, ◌<◌, ◌≤◌, Bool, true, false, cond, nat_lt, List, [], length, drop, None, Some, Ok, Err, sym, ap, ◌∙◌, arith, append-nil}
use Rattle.std.proofs.lemmas.Bool.Decides.{nat_tests}
use Rattle.std.proofs.lemmas.List.{drop-drop}
use Rattle.std.proofs.Math.Seq.{drop-length}
use Rattle.p4x_fault.specs.declared.Fault.{Fault}
use Rattle.pcap_io.specs.declared.head.Head.{Head}
use Rattle.pcap_io.specs.declared.progress.Progress.{Progress}
use Rattle.pcap_io.specs.declared.records.Record.{Record}
use Rattle.pcap_io.specs.Captures.{Reading, behind, opened, head_of, records_in, reading_of}
use Rattle.pcap_io.specs.internal.Held.{held}

-- what the octets are read as, by whether they are too few for a file header
by_header : List ℕ → Bool → Reading
by_header octets few = cond few (record { head = None; records = []; left = octets; fault = None }) (opened (drop 24 octets) (head_of octets))

header_is : (octets : List ℕ) (few : Bool) → nat_lt (length octets) 24 ≡ few → reading_of octets ≡ by_header octets few
unfolding reading_of by_header
header_is octets few e = ap (λ (b : Bool). by_header octets b) e

pub unread : (octets : List ℕ) → length octets < 24 → reading_of octets ≡ record { head = None; records = []; left = octets; fault = None }
unfolding by_header
unread octets few = header_is octets true (grind (arith, nat_tests))

pub is_opened : (octets : List ℕ) → 24 ≤ length octets → reading_of octets ≡ opened (drop 24 octets) (head_of octets)
unfolding by_header
is_opened octets long = header_is octets false (grind (arith, nat_tests))

-- the same of what is held

pub held_unread : (records : List Record) (octets : List ℕ) → length octets < 24 →
    behind records (reading_of octets) ≡ held (record { head = None; used = 0; fault = None }) records octets
held_unread records octets few =
    ap (λ (r : Reading). behind records r) (unread octets few)
    ∙ ap (λ (all : List Record). let r : Reading = record { head = None; records = all; left = octets; fault = None } in r) (append-nil records)

pub held_refused : (records : List Record) (octets : List ℕ) (fault : Fault) → 24 ≤ length octets → Err fault ≡ head_of octets →
    behind records (reading_of octets) ≡ held (record { head = None; used = length octets; fault = Some fault }) records octets
held_refused records octets fault long is =
    ap (λ (r : Reading). behind records r) (is_opened octets long ∙ ap (opened (drop 24 octets)) (sym is))
    ∙ ap (λ (all : List Record). let r : Reading = record { head = None; records = all; left = []; fault = Some fault } in r) (append-nil records)
    ∙ ap (λ (left : List ℕ). let r : Reading = record { head = None; records = records; left = left; fault = Some fault } in r) (sym (drop-length octets))

pub held_opened : (before now : List Record) (octets rest : List ℕ) (head : Head) (progress : Progress) → 24 ≤ length octets → Ok head ≡ head_of octets → rest ≡ drop 24 octets →
    behind before (records_in head rest 0) ≡ held progress now rest →
    behind before (reading_of octets) ≡ held (record { head = progress.head; used = 24 + progress.used; fault = progress.fault }) now octets
held_opened before now octets rest head progress long is rest_is read =
    ap (λ (r : Reading). behind before r) (is_opened octets long ∙ ap (opened (drop 24 octets)) (sym is) ∙ ap (λ (xs : List ℕ). records_in head xs 0) (sym rest_is))
    ∙ read
    ∙ ap (λ (left : List ℕ). let r : Reading = record { head = progress.head; records = now; left = left; fault = progress.fault } in r)
    (ap (drop progress.used) rest_is ∙ drop-drop progress.used 24 octets)
