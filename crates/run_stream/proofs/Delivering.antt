-- What the run over a capture delivers, beside what the capture comes to.
use Rattle.std.proofs.Common.{◌≡◌, ◌⊎◌, inl, inr, ℕ, ◌%◌, ◌^◌, ◌<◌, ◌≤◌, nat_lt, Bool, true, false, if◌then◌else◌, List, ◌++◌, length, Option, Some, None, Result, Ok, Err, IsErrAnd, refl, sym, ◌∙◌, ap, subst, arith}
use Rattle.std.proofs.lemmas.Bool.Decides.{nat_tests}
use Rattle.p4x_fault.specs.declared.Fault.{Fault as Refusal}
use Rattle.p4x_io.specs.Desk.{grown}
use Rattle.p4x_io.proofs.Desks.{grown_none}
use Rattle.fabric.specs.declared.packets.Arrival.{Arrival}
use Rattle.pcap_io.specs.Captures.{Reading, reading_of, refusal_by, refusal_in, arrivals_of}
use Rattle.file_work.specs.declared.stop.Limited.TheVariants as limited
use Rattle.file_work.specs.declared.stop.Stop.{Stop}
use Rattle.file_work.specs.declared.stop.Stop.TheVariants.{Fault, Refused, Limit, Memory}
use Rattle.file_work.specs.Phases.{GrownByFront}
use Rattle.run_stream.specs.declared.counts.Counts.{Counts}
use Rattle.run_stream.specs.Captured.{EndLines, Reports, capture_limit, reports_over, reading_reports, run_reports, stopped, IsLoose, Delivers}
use Rattle.run_stream.specs.Reports.{end_part}
use Rattle.run_stream.specs.Runs.{Outcome, Ran, run_of, AreFew}
use Rattle.run_stream.specs.internal.Streams.{View, run_view, Cut, Refuses, PieceEnds, PiecesEnd}
use Rattle.run_stream.proofs.Pieces.{exact_part, grown_still, grown_whole, grown_part, grown_front}
use Rattle.run_stream.proofs.StreamRuns.{IsRunOf, is_run_of}

loose_end : (stop : Stop) → (stop ≡ Fault) ⊎ (stop ≡ Memory) → IsLoose (Err stop)
loose_end stop (inl is) = inl (ap (λ (s : Stop). Err s) is)
loose_end stop (inr is) = inr (ap (λ (s : Stop). Err s) is)

-- what a capture comes to, by whether it is over its limit
abbrev limited_by : {C : Type 0} → EndLines C → (List Arrival → Ran C) → List ℕ → List ℕ → Bool → Reports
limited_by lines run ports text over = if over then stopped (Limit limited.Capture) else reading_reports lines run ports (reading_of text)

pub within : {C : Type 0} → (lines : EndLines C) (run : List Arrival → Ran C) (ports text : List ℕ) → length text ≤ capture_limit → reports_over lines run ports (Some text) ≡ reading_reports lines run ports (reading_of text)
within lines run ports text fits =
    let not_over : nat_lt capture_limit (length text) ≡ false = grind (arith, nat_tests) in
    ap (limited_by lines run ports text) not_over

over : {C : Type 0} → (lines : EndLines C) (run : List Arrival → Ran C) (ports text : List ℕ) → capture_limit < length text → reports_over lines run ports (Some text) ≡ stopped (Limit limited.Capture)
over lines run ports text long =
    let is_over : nat_lt capture_limit (length text) ≡ true = grind (arith, nat_tests) in
    ap (limited_by lines run ports text) is_over

-- how many packets came and left, as a view tells
abbrev pub counts_in : {C : Type 0} → View C → Counts
counts_in v = record { arrivals = v.held.arrivals; sent = v.held.departures; cut = v.held.cut }

-- the end part that a view tells
abbrev pub end_in : {C : Type 0} → EndLines C → View C → List ℕ
end_in lines v = end_part v.held.arrivals v.held.departures v.held.cut (lines v.store v.work)

module _ (sent report sent' report' : Option (Option (List ℕ))) where
  abbrev Delivered : Reports → Result Counts Stop → Type 0
  Delivered r end = Delivers r end sent sent' report report'

  -- nothing was appended
  pub delivers_nothing : (r : Reports) (stop : Stop) → (stop ≡ Fault) ⊎ (stop ≡ Memory) → sent' ≡ sent → report' ≡ report → Delivered r (Err stop)
  delivers_nothing r stop loose same_sent same_report =
      inr (
        loose_end stop loose,
        subst (GrownByFront sent r.sent) (sym same_sent) (grown_still sent r.sent),
        subst (GrownByFront report r.report) (sym same_report) (grown_still report r.report),
      )

  -- the capture is over its limit
  pub delivers_over : {C : Type 0} → (lines : EndLines C) (run : List Arrival → Ran C) (ports text : List ℕ) → capture_limit < length text → sent' ≡ sent → report' ≡ report → Delivered (reports_over lines run ports (Some text)) (Err (Limit limited.Capture))
  delivers_over lines run ports text long same_sent same_report =
      subst (λ (r : Reports). Delivered r (Err (Limit limited.Capture))) (sym (over lines run ports text long))
      (inl (refl, same_sent ∙ sym (grown_none sent), same_report ∙ sym (grown_none report)))

  module _ {C : Type 0} (lines : EndLines C) (outcome : C → Arrival → Outcome C) (store : C) (few : AreFew outcome) (ports text : List ℕ) (fits : length text ≤ capture_limit) where
    abbrev packets : List Arrival
    packets = arrivals_of ports (reading_of text).records

    abbrev ran : Ran C
    ran = run_of outcome store packets

    abbrev view : View C
    view = run_view outcome store ports (reading_of text)

    abbrev due : Option Refusal → Reports
    due found = run_reports lines found (reading_of text).head packets ran

    means : IsRunOf ran (reading_of text).head packets view
    means = is_run_of outcome store ports text few fits

    due_is : (found : Option Refusal) → refusal_in (reading_of text) ≡ found → reports_over lines (run_of outcome store) ports (Some text) ≡ due found
    due_is found is = within lines (run_of outcome store) ports text fits ∙ ap due is

    by_due : (found : Option Refusal) (end : Result Counts Stop) → refusal_in (reading_of text) ≡ found → Delivered (due found) end → Delivered (reports_over lines (run_of outcome store) ports (Some text)) end
    by_due found end is so = subst (λ (r : Reports). Delivered r end) (sym (due_is found is)) so

    -- the capture is refused behind the records that were run
    pub delivers_refused : (fault : Refusal) → refusal_in (reading_of text) ≡ Some fault → sent' ≡ grown sent view.held.sent → report' ≡ grown report view.held.report
        → Delivered (reports_over lines (run_of outcome store) ports (Some text)) (Err (Refused fault))
    delivers_refused fault is now_sent now_report =
        by_due (Some fault) (Err (Refused fault)) is (inl (refl, now_sent ∙ ap (grown sent) means.sent, now_report ∙ ap (grown report) means.report))

    abbrev pub end_text : List ℕ
    end_text = end_in lines view

    report_due : (due None).report ≡ view.held.report ++ end_text
    report_due =
        sym (ap (λ (l : List ℕ). l ++ end_part (length packets) (length ran.sent) (ran.cut % 2 ^ 64) (lines ran.store (ran.work % 2 ^ 64))) means.report)
        ∙ ap (λ (n : ℕ). view.held.report ++ end_part n (length ran.sent) (ran.cut % 2 ^ 64) (lines ran.store (ran.work % 2 ^ 64))) (sym means.arrivals)
        ∙ ap (λ (n : ℕ). view.held.report ++ end_part view.held.arrivals n (ran.cut % 2 ^ 64) (lines ran.store (ran.work % 2 ^ 64))) (sym means.departures)
        ∙ ap (λ (n : ℕ). view.held.report ++ end_part view.held.arrivals view.held.departures n (lines ran.store (ran.work % 2 ^ 64))) (sym means.cut)
        ∙ ap (λ (c : C). view.held.report ++ end_part view.held.arrivals view.held.departures view.held.cut (lines c (ran.work % 2 ^ 64))) (sym means.store)
        ∙ ap (λ (n : ℕ). view.held.report ++ end_part view.held.arrivals view.held.departures view.held.cut (lines view.store n)) (sym means.work)

    -- a fault or want of memory before the end of the capture
    pub delivers_cut : (stop : Stop) → Cut view sent report sent' report' stop → Delivered (reports_over lines (run_of outcome store) ports (Some text)) (Err stop)
    delivers_cut stop cut = by_refusal (refusal_in (reading_of text)) refl
      where
        by_refusal : (found : Option Refusal) → refusal_in (reading_of text) ≡ found → Delivered (reports_over lines (run_of outcome store) ports (Some text)) (Err stop)
        by_refusal None is =
            by_due None (Err stop) is
            (inr (loose_end stop cut.0, subst (λ (l : List ℕ). GrownByFront sent l sent') means.sent cut.1, grown_front report report' view.held.report end_text (due None).report report_due cut.2))
        by_refusal (Some fault) is =
            by_due (Some fault) (Err stop) is
            (inr (loose_end stop cut.0, subst (λ (l : List ℕ). GrownByFront sent l sent') means.sent cut.1, subst (λ (l : List ℕ). GrownByFront report l report') means.report cut.2))

    -- the same while the end part of the report is appended
    pub delivers_part : (stop : Stop) (report0 : Option (Option (List ℕ))) → refusal_in (reading_of text) ≡ None → (stop ≡ Fault) ⊎ (stop ≡ Memory) → sent' ≡ grown sent view.held.sent → report0 ≡ grown report view.held.report
        → GrownByFront report0 end_text report' → Delivered (reports_over lines (run_of outcome store) ports (Some text)) (Err stop)
    delivers_part stop report0 is loose now_sent had some =
        by_due None (Err stop) is
        (inr (loose_end stop loose, exact_part sent sent' (due None).sent (now_sent ∙ ap (grown sent) means.sent), grown_part report report0 report' view.held.report end_text (due None).report report_due had some))

    counts_due : counts_in view ≡ record { arrivals = length packets; sent = length ran.sent; cut = ran.cut % 2 ^ 64 }
    counts_due =
        ap (λ (n : ℕ). let c : Counts = record { arrivals = n; sent = view.held.departures; cut = view.held.cut } in c) means.arrivals
        ∙ ap (λ (n : ℕ). let c : Counts = record { arrivals = length packets; sent = n; cut = view.held.cut } in c) means.departures
        ∙ ap (λ (n : ℕ). let c : Counts = record { arrivals = length packets; sent = length ran.sent; cut = n } in c) means.cut

    -- all was appended
    pub delivers_all : (counts : Counts) (report0 : Option (Option (List ℕ))) → refusal_in (reading_of text) ≡ None → sent' ≡ grown sent view.held.sent → report0 ≡ grown report view.held.report → report' ≡ grown report0 end_text
        → counts ≡ counts_in view → Delivered (reports_over lines (run_of outcome store) ports (Some text)) (Ok counts)
    delivers_all counts report0 is now_sent had now counts_are =
        by_due None (Ok counts) is
        (inl (ap (λ (c : Counts). let e : Result Counts Stop = Ok c in e) (counts_are ∙ counts_due), now_sent ∙ ap (grown sent) means.sent, grown_whole report report0 report' view.held.report end_text (due None).report report_due had now))

-- How the run of the pieces ends.

module _ {C : Type 0} (sent report sent' report' : Option (Option (List ℕ))) (lines : EndLines C) (outcome : C → Arrival → Outcome C) (store : C) (few : AreFew outcome) (ports : List ℕ) (reader : Reading) (stream : View C) where
  abbrev ended : Option (List ℕ) → Result Counts Stop → Type 0
  ended file end = Delivers (reports_over lines (run_of outcome store) ports file) end sent sent' report report'

  -- it was refused or cut short
  pub pieces_stopped : (file : Option (List ℕ)) (stop : Stop) (end : Result (Unit {0}) Stop) → end ≡ Err stop → ((text : List ℕ) → file ≡ Some text → length text ≤ capture_limit)
      → PiecesEnd outcome store ports file sent report sent' report' reader stream end → ended file (Err stop)
  pieces_stopped None stop end is fits so =
      let kept = subst (λ (e : Result (Unit {0}) Stop). IsErrAnd e (λ s. ((s ≡ Fault) ⊎ (s ≡ Memory)) × (sent' ≡ sent) × (report' ≡ report))) is so in
      delivers_nothing sent report sent' report' (reports_over lines (run_of outcome store) ports None) stop kept.0 kept.1 kept.2
  pieces_stopped (Some text) stop end is fits so =
      by_end (subst (λ (e : Result (Unit {0}) Stop). PieceEnds outcome store ports text sent report sent' report' reader stream e) is (so (fits text refl)))
    where
      refused : Refuses outcome store ports text sent report sent' report' stop → ended (Some text) (Err stop)
      refused found =
          subst (λ (s : Stop). ended (Some text) (Err s)) (sym found.1)
          (delivers_refused sent report sent' report' lines outcome store few ports text (fits text refl) found.0
          (ap (λ (f : Option Refusal). refusal_by f (reading_of text).head (reading_of text).left) found.2) found.3 found.4)

      by_end : PieceEnds outcome store ports text sent report sent' report' reader stream (Err stop) → ended (Some text) (Err stop)
      by_end (inl found) = refused found
      by_end (inr cut) = delivers_cut sent report sent' report' lines outcome store few ports text (fits text refl) stop cut

  -- the capture is refused at its end
  pub pieces_refused : (file : Option (List ℕ)) (fault : Refusal) → ((text : List ℕ) → file ≡ Some text → length text ≤ capture_limit)
      → PiecesEnd outcome store ports file sent report sent' report' reader stream (Ok tt) → refusal_in reader ≡ Some fault → ended file (Err (Refused fault))
  pieces_refused None fault fits so is = absurd so
  pieces_refused (Some text) fault fits so is =
      let done = (so (fits text refl)).1 in
      delivers_refused sent report sent' report' lines outcome store few ports text (fits text refl) fault (sym (ap refusal_in done.reader_is) ∙ is) done.sent_is done.report_is

-- the end part with lines that are equal
pub reported_by : (told told' : Option (Option (List ℕ))) (arrivals departures cut : ℕ) (a b : List ℕ) → a ≡ b → told' ≡ grown told (end_part arrivals departures cut a) → told' ≡ grown told (end_part arrivals departures cut b)
reported_by told told' arrivals departures cut a b is now = now ∙ ap (λ (l : List ℕ). grown told (end_part arrivals departures cut l)) is

pub partly_by : (told told' : Option (Option (List ℕ))) (arrivals departures cut : ℕ) (a b : List ℕ) → a ≡ b → GrownByFront told (end_part arrivals departures cut a) told' → GrownByFront told (end_part arrivals departures cut b) told'
partly_by told told' arrivals departures cut a b is part = subst (λ (l : List ℕ). GrownByFront told (end_part arrivals departures cut l) told') is part

-- the end part of the report is appended
module _ {C : Type 0} (sent report sent' report0 report' : Option (Option (List ℕ))) (lines : EndLines C) (outcome : C → Arrival → Outcome C) (store : C) (few : AreFew outcome) (ports : List ℕ) (reader : Reading) (stream : View C) where
  pub pieces_reported : (file : Option (List ℕ)) → ((text : List ℕ) → file ≡ Some text → length text ≤ capture_limit) → PiecesEnd outcome store ports file sent report sent' report0 reader stream (Ok tt)
      → refusal_in reader ≡ None → report' ≡ grown report0 (end_in lines stream) → Delivers (reports_over lines (run_of outcome store) ports file) (Ok (counts_in stream)) sent sent' report report'
  pieces_reported None fits so is now = absurd so
  pieces_reported (Some text) fits so is now =
      let done = (so (fits text refl)).1 in
      delivers_all sent report sent' report' lines outcome store few ports text (fits text refl) (counts_in stream) report0 (sym (ap refusal_in done.reader_is) ∙ is) done.sent_is done.report_is
      (now ∙ ap (λ (v : View C). grown report0 (end_in lines v)) done.stream_is) (ap counts_in done.stream_is)

  -- the desk failed there, or there was no memory
  pub pieces_partly : (file : Option (List ℕ)) (stop : Stop) → ((text : List ℕ) → file ≡ Some text → length text ≤ capture_limit) → PiecesEnd outcome store ports file sent report sent' report0 reader stream (Ok tt)
      → refusal_in reader ≡ None → (stop ≡ Fault) ⊎ (stop ≡ Memory) → GrownByFront report0 (end_in lines stream) report' → Delivers (reports_over lines (run_of outcome store) ports file) (Err stop) sent sent' report report'
  pieces_partly None stop fits so is loose part = absurd so
  pieces_partly (Some text) stop fits so is loose part =
      let done = (so (fits text refl)).1 in
      delivers_part sent report sent' report' lines outcome store few ports text (fits text refl) stop report0 (sym (ap refusal_in done.reader_is) ∙ is) loose done.sent_is done.report_is
      (subst (λ (l : List ℕ). GrownByFront report0 l report') (ap (end_in lines) done.stream_is) part)
