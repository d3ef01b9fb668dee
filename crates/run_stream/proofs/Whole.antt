-- What a capture comes to, and what stops a command there.
use Rattle.std.proofs.Common.{◌≡◌, ◌⊎◌, inl, inr, ◌<◌, ◌≤◌, ◌+◌, ℕ, zero, suc, nat_lt, ◌%◌, ◌^◌, Bool, true, false, if◌then◌else◌, List, [], ◌∷◌, length, drop, Option, Some, None, option_map, Result, Ok, Err, refl, sym, ◌∙◌, ap, subst, arith}
use Rattle.std.proofs.lemmas.Bool.Decides.{nat_tests}
use Rattle.p4x_fault.specs.declared.Fault.{Fault as Refusal}
use Rattle.p4x_fault.specs.declared.Rule.TheVariants.{K}
use Rattle.fabric.specs.declared.packets.Arrival.{Arrival}
use Rattle.pcap_io.specs.declared.head.Head.{Head}
use Rattle.pcap_io.specs.declared.records.Record.{Record}
use Rattle.pcap_io.specs.Captures.{Reading, IsCapture, refused, captured_length, record_of, is_too_long, is_whole, behind, ending, records_in, opened, head_of, reading_of, refusal, refusal_by, refusal_in, arrivals_of}
use Rattle.pcap_io.specs.Sent.{sent_bytes_of}
use Rattle.file_work.specs.declared.stop.Limited.TheVariants.{Capture}
use Rattle.file_work.specs.declared.stop.Stop.{Stop}
use Rattle.file_work.specs.declared.stop.Stop.TheVariants.{Fault, Refused, Limit}
use Rattle.file_work.specs.Stops.{code_of}
use Rattle.file_work.proofs.Ends.{stop_in, not_done}
use Rattle.run_stream.specs.Captured.{EndLines, Reports, capture_limit, stopped, run_reports, reading_reports, reports_over, lined, CaptureIs, GivesNothing, IsOver}
use Rattle.run_stream.specs.Runs.{Ran}
use Rattle.run_stream.specs.Reports.{sent_lines, report_of, run_line}

-- What stops the command at the capture, if anything does.

abbrev pub refused_by : Option Refusal → Option Stop
refused_by None = None
refused_by (Some fault) = Some (Refused fault)

-- what stops the command at the capture, by whether it is over its limit
abbrev pub limited_stop : List ℕ → Bool → Option Stop
limited_stop octets over = if over then Some (Limit Capture) else refused_by (refusal octets)

abbrev pub capture_stop : Option (List ℕ) → Option Stop
capture_stop None = Some Fault
capture_stop (Some octets) = limited_stop octets (nat_lt capture_limit (length octets))

run_stop : {C : Type 0} → (word : List ℕ) (lines : EndLines C) (found : Option Refusal) (head : Option Head) (arrivals : List Arrival) (ran : Ran C) → stop_in (lined word (run_reports lines found head arrivals ran).end) ≡ refused_by found
run_stop word lines None head arrivals ran = refl
run_stop word lines (Some fault) head arrivals ran = refl

pub reports_stop : {C : Type 0} → (word : List ℕ) (lines : EndLines C) (run : List Arrival → Ran C) (ports : List ℕ) (o : Option (List ℕ)) → stop_in (lined word (reports_over lines run ports o).end) ≡ capture_stop o
reports_stop word lines run ports None = refl
reports_stop word lines run ports (Some octets) = by_limit (nat_lt capture_limit (length octets))
  where
    by_limit : (over : Bool) → stop_in (lined word (if over then stopped (Limit Capture) else reading_reports lines run ports (reading_of octets)).end) ≡ limited_stop octets over
    by_limit true = refl
    by_limit false = run_stop word lines _ _ _ _

-- that stop says what the capture is
abbrev pub CaptureEnd : Option (List ℕ) → Option Stop → Type 0
CaptureEnd o None = CaptureIs o None
CaptureEnd o (Some Fault) = Unit {0}
CaptureEnd o (Some (Refused fault)) = CaptureIs o (Some fault)
CaptureEnd o (Some (Limit Capture)) = IsOver o
CaptureEnd o (Some stop) = ⊥

pub capture_ends : (o : Option (List ℕ)) → CaptureEnd o (capture_stop o)
capture_ends None = tt
capture_ends (Some octets) = by_limit (nat_lt capture_limit (length octets)) refl
  where
    by_rule : length octets ≤ capture_limit → (found : Option Refusal) → refusal octets ≡ found → CaptureEnd (Some octets) (refused_by found)
    by_rule fits None is = (fits, is)
    by_rule fits (Some fault) is = (fits, is)

    by_limit : (over : Bool) → nat_lt capture_limit (length octets) ≡ over → CaptureEnd (Some octets) (limited_stop octets over)
    by_limit true test = grind (arith, nat_tests)
    by_limit false test = by_rule (grind (arith, nat_tests)) (refusal octets) refl

pub capture_taken : (o : Option (List ℕ)) (found : Option Refusal) → CaptureIs o found → capture_stop o ≡ refused_by found
capture_taken None found is = absurd is
capture_taken (Some octets) found is =
    let within : nat_lt capture_limit (length octets) ≡ false = let fits = is.0 in grind (arith, nat_tests) in
    ap (limited_stop octets) within ∙ ap refused_by is.1

pub capture_over : (o : Option (List ℕ)) → IsOver o → capture_stop o ≡ Some (Limit Capture)
capture_over None over = absurd over
capture_over (Some octets) over =
    let above : nat_lt capture_limit (length octets) ≡ true = grind (arith, nat_tests) in
    ap (limited_stop octets) above

-- What a capture comes to whose run was done: it is a whole one, and these are the sent file, the report and the line of the run.
pub record Whole {C : Type 0} (word : List ℕ) (lines : EndLines C) (run : List Arrival → Ran C) (ports : List ℕ) (file : Option (List ℕ)) (r : Reports) : Type 0 where
  pub octets : List ℕ
  pub link : ℕ
  pub nano : Bool
  pub arrivals : List Arrival
  pub capture : file ≡ Some octets
  pub fits : length octets ≤ capture_limit
  pub whole : IsCapture octets ports link nano arrivals
  pub sent : r.sent ≡ sent_bytes_of link nano arrivals (run arrivals).sent
  pub report : r.report ≡ report_of (length arrivals) (run arrivals).sent ((run arrivals).cut % 2 ^ 64) (lines (run arrivals).store ((run arrivals).work % 2 ^ 64))
  pub end : lined word r.end ≡ Ok (run_line word (length arrivals) (length (run arrivals).sent) ((run arrivals).cut % 2 ^ 64))

-- what no rule refuses has a file header
headed : (fault : Option Refusal) (head : Option Head) (left : List ℕ) → refusal_by fault head left ≡ None → (h : Head) × (head ≡ Some h)
headed (Some fault) head left is = absurd (cc is)
headed None None left is = absurd (cc is)
headed None (Some h) left is = (h, refl)

module _ {C : Type 0} (word : List ℕ) (lines : EndLines C) (run : List Arrival → Ran C) (ports octets : List ℕ) where
  abbrev arrivals_in : List Arrival
  arrivals_in = arrivals_of ports (reading_of octets).records

  whole_run : length octets ≤ capture_limit → (h : Head) → refusal octets ≡ None → (reading_of octets).head ≡ Some h → Whole word lines run ports (Some octets) (run_reports lines None (Some h) arrivals_in (run arrivals_in))
  whole_run fits h none head = record {
    octets = octets;
    link = h.link;
    nano = h.nano;
    arrivals = arrivals_in;
    capture = refl;
    fits = fits;
    whole = record { whole = none; of_link = ap (λ (x : Option Head). option_map (λ (y : Head). y.link) x) head; of_unit = ap (λ (x : Option Head). option_map (λ (y : Head). y.nano) x) head; of_records = refl };
    sent = refl;
    report = refl;
    end = refl;
  }

  whole_reading : length octets ≤ capture_limit → (found : Option Refusal) → refusal octets ≡ found → 0 ≡ code_of (lined word (run_reports lines found (reading_of octets).head arrivals_in (run arrivals_in)).end)
      → Whole word lines run ports (Some octets) (run_reports lines found (reading_of octets).head arrivals_in (run arrivals_in))
  whole_reading fits (Some fault) is done = absurd (not_done (Refused fault) done)
  whole_reading fits None is done =
      let there = headed (reading_of octets).fault (reading_of octets).head (reading_of octets).left is in
      subst (λ (x : Option Head). Whole word lines run ports (Some octets) (run_reports lines None x arrivals_in (run arrivals_in))) (sym there.1) (whole_run fits there.0 is there.1)

  whole_octets : (over : Bool) → nat_lt capture_limit (length octets) ≡ over → 0 ≡ code_of (lined word (if over then stopped (Limit Capture) else reading_reports lines run ports (reading_of octets)).end)
      → Whole word lines run ports (Some octets) (if over then stopped (Limit Capture) else reading_reports lines run ports (reading_of octets))
  whole_octets true test done = absurd (not_done (Limit Capture) done)
  whole_octets false test done = whole_reading (grind (arith, nat_tests)) (refusal octets) refl done

pub whole_capture : {C : Type 0} → (word : List ℕ) (lines : EndLines C) (run : List Arrival → Ran C) (ports : List ℕ) (file : Option (List ℕ)) → 0 ≡ code_of (lined word (reports_over lines run ports file).end) → Whole word lines run ports file (reports_over lines run ports file)
whole_capture word lines run ports None done = absurd (not_done Fault done)
whole_capture word lines run ports (Some octets) done = whole_octets word lines run ports octets (nat_lt capture_limit (length octets)) refl done

-- Where K1, K2 or K3 refuses the capture, or it is over its limit, nothing is sent.

-- a reading behind a file header is refused by K4 or K5
abbrev IsLate : Head → Reading → Type 0
IsLate head reading = (reading.head ≡ Some head) × ((reading.fault ≡ None) ⊎ (reading.fault ≡ Some (refused 5)))

late_end : (head : Head) (octets : List ℕ) (long : Bool) → IsLate head (if long then record { head = Some head; records = []; left = []; fault = Some (refused 5) } else record { head = Some head; records = []; left = octets; fault = None })
late_end head octets true = (refl, inr refl)
late_end head octets false = (refl, inl refl)

late_step : (head : Head) (octets : List ℕ) (first : List Record) (rest : Reading) (whole : Bool) → IsLate head rest → IsLate head (if whole then behind first rest else ending head octets)
late_step head octets first rest true late = late
late_step head octets first rest false late = late_end head octets (is_too_long head.order octets)

late_records : (head : Head) (octets : List ℕ) (owed : ℕ) → IsLate head (records_in head octets owed)
unfolding records_in
late_records head [] owed = (refl, inl refl)
late_records head (o ∷ octets) (suc owed) = late_records head octets owed
late_records head (o ∷ octets) zero =
    late_step head (o ∷ octets) (record_of head.order (o ∷ octets) ∷ []) (records_in head octets (15 + captured_length head.order (o ∷ octets))) (is_whole head.order (o ∷ octets))
    (late_records head octets (15 + captured_length head.order (o ∷ octets)))

same_rule : (a b : ℕ) → refused a ≡ refused b → a ≡ b
same_rule a b is = let rule : K a ≡ K b = ap (λ (x : Refusal). x.rule) is in cc rule

not_early : (rule : ℕ) → rule ≤ 3 → (head : Head) (fault : Option Refusal) (found : Option Head) (left : List ℕ) → found ≡ Some head → (fault ≡ None) ⊎ (fault ≡ Some (refused 5)) → refusal_by fault found left ≡ Some (refused rule) → ⊥
not_early rule early head None None left is late refuses = cc is
not_early rule early head None (Some h) [] is late refuses = cc refuses
not_early rule early head None (Some h) (o ∷ left) is late refuses =
    let same : refused 4 ≡ refused rule = cc refuses in
    let four = same_rule 4 rule same in omega arith
not_early rule early head (Some fault) found left is (inl late) refuses = cc late
not_early rule early head (Some fault) found left is (inr late) refuses =
    let same : refused 5 ≡ refused rule = cc (late, refuses) in
    let five = same_rule 5 rule same in omega arith

abbrev IsNothing : Reading → Type 0
IsNothing reading = (reading.head ≡ None) × (reading.records ≡ [])

early_opened : (rule : ℕ) → rule ≤ 3 → (octets : List ℕ) (head : Result Head Refusal) → refusal_in (opened octets head) ≡ Some (refused rule) → IsNothing (opened octets head)
early_opened rule early octets (Err fault) is = (refl, refl)
early_opened rule early octets (Ok head) is =
    let late = late_records head octets 0 in
    absurd (not_early rule early head (records_in head octets 0).fault (records_in head octets 0).head (records_in head octets 0).left late.0 late.1 is)

abbrev sized : List ℕ → Bool → Reading
sized octets short = if short then record { head = None; records = []; left = octets; fault = None } else opened (drop 24 octets) (head_of octets)

early_sized : (rule : ℕ) → rule ≤ 3 → (octets : List ℕ) (short : Bool) → refusal_in (sized octets short) ≡ Some (refused rule) → IsNothing (sized octets short)
early_sized rule early octets true is = (refl, refl)
early_sized rule early octets false is = early_opened rule early (drop 24 octets) (head_of octets) is

early_reading : (rule : ℕ) → rule ≤ 3 → (octets : List ℕ) → refusal octets ≡ Some (refused rule) → IsNothing (reading_of octets)
unfolding reading_of
early_reading rule early octets is = early_sized rule early octets (nat_lt (length octets) 24) is

abbrev pub Empty : Reports → Type 0
Empty r = (r.sent ≡ []) × (r.report ≡ [])

module _ {C : Type 0} (lines : EndLines C) (run : List Arrival → Ran C) (none_sent : (run []).sent ≡ []) (ports : List ℕ) where
  empty_run : (fault : Refusal) (found : Option Refusal) (head : Option Head) (records : List Record) → found ≡ Some fault → head ≡ None → records ≡ []
      → Empty (run_reports lines found head (arrivals_of ports records) (run (arrivals_of ports records)))
  empty_run fault None head records is none rest = absurd (cc is)
  empty_run fault (Some other) (Some h) records is none rest = absurd (cc none)
  empty_run fault (Some other) None (one ∷ records) is none rest = absurd (cc rest)
  empty_run fault (Some other) None [] is none rest = (refl, ap sent_lines none_sent)

  empty_within : (octets : List ℕ) (over : Bool) → nat_lt capture_limit (length octets) ≡ over → (rule : ℕ) → rule ≤ 3 → length octets ≤ capture_limit → refusal octets ≡ Some (refused rule)
      → Empty (if over then stopped (Limit Capture) else reading_reports lines run ports (reading_of octets))
  empty_within octets true test rule early fits is = (refl, refl)
  empty_within octets false test rule early fits is =
      let none = early_reading rule early octets is in
      empty_run (refused rule) (refusal octets) (reading_of octets).head (reading_of octets).records is none.0 none.1

  empty_over : (octets : List ℕ) (over : Bool) → nat_lt capture_limit (length octets) ≡ over → capture_limit < length octets
      → Empty (if over then stopped (Limit Capture) else reading_reports lines run ports (reading_of octets))
  empty_over octets true test above = (refl, refl)
  empty_over octets false test above = let below : length octets ≤ capture_limit = grind (arith, nat_tests) in absurd (omega arith)

  pub empty_reports : (file : Option (List ℕ)) → GivesNothing file → Empty (reports_over lines run ports file)
  empty_reports None (inl is) = absurd is.2
  empty_reports None (inr over) = absurd over
  empty_reports (Some octets) (inl is) = empty_within octets (nat_lt capture_limit (length octets)) refl is.0 is.1 is.2.0 is.2.1
  empty_reports (Some octets) (inr over) = empty_over octets (nat_lt capture_limit (length octets)) refl over

-- runs that are the same on all packets give the same
pub same_reports : {C : Type 0} → (lines : EndLines C) (run other : List Arrival → Ran C) → ((arrivals : List Arrival) → run arrivals ≡ other arrivals) → (ports : List ℕ) (file : Option (List ℕ)) → reports_over lines run ports file ≡ reports_over lines other ports file
same_reports {C = C} lines run other same ports None = refl
same_reports {C = C} lines run other same ports (Some octets) =
    let reading = reading_of octets in
    let packets = arrivals_of ports reading.records in
    ap (λ (r : Ran C). if nat_lt capture_limit (length octets) then stopped (Limit Capture) else run_reports lines (refusal_in reading) reading.head packets r) (same packets)
