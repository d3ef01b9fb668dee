-- What the pieces of a capture leave on the desk.
use Rattle.std.proofs.Common.{◌≡◌, ◌⊎◌, inl, inr, ℕ, ◌+◌, ◌<◌, ◌≤◌, min, nat_le, Bool, true, false, List, [], ◌++◌, length, take, drop, Option, Some, None, Result, Ok, Err, IsErrAnd, refl, sym, ◌∙◌, ap, subst, arith, leb-true}
use Rattle.std.proofs.lemmas.Bool.Decides.{nat_tests}
use Rattle.std.proofs.lemmas.List.{append-nil, take_all, take-append-le, take-append-drop}
use Rattle.std.specs.List.{All}
use Rattle.std.proofs.lemmas.List.Elements.{All-append}
use Rattle.std.proofs.Math.Seq.{take-append-add}
use Rattle.p4x_fault.specs.declared.Fault.{Fault as Refusal}
use Rattle.p4x_io.specs.Desk.{grown}
use Rattle.p4x_io.proofs.Desks.{grown_none, grown-grown}
use Rattle.p4x_io.proofs.Reading.{Front}
use Rattle.pcap_io.specs.Captures.{Reading, reading_of, IsRecord}
use Rattle.pcap_io.specs.Reader.{fed, fed_by}
use Rattle.pcap_io.proofs.Feeding.{fed_more}
use Rattle.pcap_io.proofs.Opening.{unread}
use Rattle.fabric.specs.declared.packets.Arrival.{Arrival}
use Rattle.file_work.specs.declared.stop.Stop.{Stop}
use Rattle.file_work.specs.declared.stop.Stop.TheVariants.{Fault, Refused, Memory}
use Rattle.run_stream.specs.Captured.{capture_limit}
use Rattle.file_work.specs.Phases.{GrownByFront}
use Rattle.run_stream.specs.Runs.{Outcome}
use Rattle.run_stream.specs.internal.Streams.{Held, View, empty, start, begun, after_all, run_view, emptied, drained, nothing_read, Streamed, Cut, Refuses, PieceEnds, PiecesEnd}
use Rattle.run_stream.proofs.Streams.{preceded, next_view, more}

-- a file that had grown by a front of a text, and then by a front of what stands behind that
pub grown_part : (told before after : Option (Option (List ℕ))) (front rest whole : List ℕ) → whole ≡ front ++ rest → before ≡ grown told front → GrownByFront before rest after → GrownByFront told whole after
grown_part told before after front rest whole is had some = (
  length front + some.0,
  some.1 ∙ ap (λ (t : Option (Option (List ℕ))). grown t (take some.0 rest)) had ∙ grown-grown told front (take some.0 rest)
      ∙ ap (grown told) (sym (take-append-add front rest some.0) ∙ sym (ap (take (length front + some.0)) is)),
)

pub grown_whole : (told before after : Option (Option (List ℕ))) (front rest whole : List ℕ) → whole ≡ front ++ rest → before ≡ grown told front → after ≡ grown before rest → after ≡ grown told whole
grown_whole told before after front rest whole is had now =
    now ∙ ap (λ (t : Option (Option (List ℕ))). grown t rest) had ∙ grown-grown told front rest ∙ ap (grown told) (sym is)

pub grown_still : (told : Option (Option (List ℕ))) (rest : List ℕ) → GrownByFront told rest told
grown_still told rest = (0, sym (grown_none told))

-- all of it was appended
pub exact_part : (told after : Option (Option (List ℕ))) (content : List ℕ) → after ≡ grown told content → GrownByFront told content after
exact_part told after content is = grown_part told after after content [] content (sym (append-nil content)) is (grown_still after [])

module _ {C : Type 0} (outcome : C → Arrival → Outcome C) (store : C) (ports octets piece : List ℕ) (unbroken : (reading_of octets).fault ≡ None) where
  abbrev whole : View C
  whole = run_view outcome store ports (reading_of octets)

  abbrev later : View C
  later = run_view outcome store ports (reading_of (octets ++ piece))

  -- what the further piece gives
  abbrev added : View C
  added =
      after_all outcome (fed (drained (reading_of octets)) piece).records (begun (fed (drained (reading_of octets)) piece).head (emptied whole))

  pub later_is : later ≡ preceded whole.held.sent whole.held.report added
  later_is = next_view outcome store ports octets piece unbroken whole refl

  fed_is : fed (drained (reading_of octets)) piece ≡ more outcome store ports octets piece
  fed_is = ap (λ (f : Option Refusal). fed_by f (drained (reading_of octets)) piece) unbroken

  reading_is : reading_of (octets ++ piece) ≡ fed_by None (reading_of octets) piece
  reading_is = fed_more octets piece ∙ ap (λ (f : Option Refusal). fed_by f (reading_of octets) piece) unbroken

  pub fault_after : (reading_of (octets ++ piece)).fault ≡ (fed (drained (reading_of octets)) piece).fault
  fault_after = ap (λ (r : Reading). r.fault) reading_is ∙ sym (ap (λ (r : Reading). r.fault) fed_is)

  pub drained_after : drained (fed (drained (reading_of octets)) piece) ≡ drained (reading_of (octets ++ piece))
  drained_after = ap drained fed_is ∙ sym (ap drained reading_is)

  module _ (sent report sent0 report0 sent1 report1 : Option (Option (List ℕ))) (reader0 reader1 : Reading) (stream0 stream1 stream2 : View C)
      (so : Streamed outcome store ports octets sent report sent0 report0 reader0 stream0) where
    abbrev read : Reading
    read = fed reader0 piece

    -- what the code gives
    abbrev ran_is : Type 0
    ran_is = All IsRecord read.records × (stream1 ≡ after_all outcome read.records (begun read.head stream0))

    read_is : read ≡ fed (drained (reading_of octets)) piece
    read_is = ap (λ (r : Reading). fed r piece) so.reader_is

    stream_added : ran_is → stream1 ≡ added
    stream_added ran =
        ran.1 ∙ ap (λ (r : Reading). after_all outcome r.records (begun r.head stream0)) read_is
        ∙ ap (λ (v : View C). after_all outcome (fed (drained (reading_of octets)) piece).records (begun (fed (drained (reading_of octets)) piece).head v)) so.stream_is

    later_sent : ran_is → later.held.sent ≡ whole.held.sent ++ stream1.held.sent
    later_sent ran = ap (λ (v : View C). v.held.sent) later_is ∙ ap (λ (v : View C). whole.held.sent ++ v.held.sent) (sym (stream_added ran))

    later_report : ran_is → later.held.report ≡ whole.held.report ++ stream1.held.report
    later_report ran = ap (λ (v : View C). v.held.report) later_is ∙ ap (λ (v : View C). whole.held.report ++ v.held.report) (sym (stream_added ran))

    -- nothing of the piece was appended
    pub piece_unread : (stop : Stop) → (stop ≡ Fault) ⊎ (stop ≡ Memory) → sent1 ≡ sent0 → report1 ≡ report0 → Cut later sent report sent1 report1 stop
    piece_unread stop is same_sent same_report = (
      is,
      grown_part sent sent0 sent1 whole.held.sent added.held.sent later.held.sent (ap (λ (v : View C). v.held.sent) later_is) so.sent_is
          (subst (λ (t : Option (Option (List ℕ))). GrownByFront sent0 added.held.sent t) (sym same_sent) (grown_still sent0 added.held.sent)),
      grown_part report report0 report1 whole.held.report added.held.report later.held.report (ap (λ (v : View C). v.held.report) later_is) so.report_is
          (subst (λ (t : Option (Option (List ℕ))). GrownByFront report0 added.held.report t) (sym same_report) (grown_still report0 added.held.report)),
    )

    -- the desk failed while what the piece gives was appended
    pub piece_cut : (stop : Stop) → stop ≡ Fault → ran_is → GrownByFront sent0 stream1.held.sent sent1 → GrownByFront report0 stream1.held.report report1 → Cut later sent report sent1 report1 stop
    piece_cut stop is ran some_sent some_report = (
      inl is,
      grown_part sent sent0 sent1 whole.held.sent stream1.held.sent later.held.sent (later_sent ran) so.sent_is some_sent,
      grown_part report report0 report1 whole.held.report stream1.held.report later.held.report (later_report ran) so.report_is some_report,
    )

    -- the piece breaks a rule
    pub piece_refused : (fault : Refusal) → ran_is → Some fault ≡ read.fault → sent1 ≡ grown sent0 stream1.held.sent → report1 ≡ grown report0 stream1.held.report
        → Refuses outcome store ports (octets ++ piece) sent report sent1 report1 (Refused fault)
    piece_refused fault ran is now_sent now_report = (
      fault,
      refl,
      fault_after ∙ ap (λ (r : Reading). r.fault) (sym read_is) ∙ sym is,
      grown_whole sent sent0 sent1 whole.held.sent stream1.held.sent later.held.sent (later_sent ran) so.sent_is now_sent,
      grown_whole report report0 report1 whole.held.report stream1.held.report later.held.report (later_report ran) so.report_is now_report,
    )

    -- the piece was read and run
    pub piece_run : ran_is → reader1 ≡ drained read → None ≡ read.fault → sent1 ≡ grown sent0 stream1.held.sent → report1 ≡ grown report0 stream1.held.report → stream2 ≡ emptied stream1
        → ((reading_of (octets ++ piece)).fault ≡ None) × Streamed outcome store ports (octets ++ piece) sent report sent1 report1 reader1 stream2
    piece_run ran drains is now_sent now_report now = (
      fault_after ∙ ap (λ (r : Reading). r.fault) (sym read_is) ∙ sym is,
      record {
        reader_is = drains ∙ ap drained read_is ∙ drained_after;
        stream_is = now ∙ ap emptied (stream_added ran) ∙ ap emptied (sym later_is);
        sent_is = grown_whole sent sent0 sent1 whole.held.sent stream1.held.sent later.held.sent (later_sent ran) so.sent_is now_sent;
        report_is = grown_whole report report0 report1 whole.held.report stream1.held.report later.held.report (later_report ran) so.report_is now_report;
        known =
            subst (λ (r : Reading). All IsRecord r.records) (sym reading_is)
            (All-append IsRecord (reading_of octets).records (more outcome store ports octets piece).records so.known (subst (λ (r : Reading). All IsRecord r.records) (read_is ∙ fed_is) ran.0));
      },
    )

-- What octets come to once more octets stand behind them.

pub refused_on : (octets rest : List ℕ) (fault : Refusal) → (reading_of octets).fault ≡ Some fault → reading_of (octets ++ rest) ≡ reading_of octets
refused_on octets rest fault is = fed_more octets rest ∙ ap (λ (f : Option Refusal). fed_by f (reading_of octets) rest) is

record Fronts {C : Type 0} (front total : View C) : Type 0 where
  sent_more : List ℕ
  report_more : List ℕ
  sent_is : total.held.sent ≡ front.held.sent ++ sent_more
  report_is : total.held.report ≡ front.held.report ++ report_more

view_front : {C : Type 0} → (outcome : C → Arrival → Outcome C) (store : C) (ports octets rest : List ℕ) → Fronts (run_view outcome store ports (reading_of octets)) (run_view outcome store ports (reading_of (octets ++ rest)))
view_front {C = C} outcome store ports octets rest = by_fault (reading_of octets).fault refl
  where
    by_fault : (fault : Option Refusal) → (reading_of octets).fault ≡ fault → Fronts (run_view outcome store ports (reading_of octets)) (run_view outcome store ports (reading_of (octets ++ rest)))
    by_fault None is =
        let all = later_is outcome store ports octets rest is in
        record {
          sent_more = (added outcome store ports octets rest is).held.sent;
          report_more = (added outcome store ports octets rest is).held.report;
          sent_is = ap (λ (v : View C). v.held.sent) all;
          report_is = ap (λ (v : View C). v.held.report) all;
        }
    by_fault (Some fault) is =
        let same = ap (run_view outcome store ports) (refused_on octets rest fault is) in
        record {
          sent_more = [];
          report_more = [];
          sent_is = ap (λ (v : View C). v.held.sent) same ∙ sym (append-nil (run_view outcome store ports (reading_of octets)).held.sent);
          report_is = ap (λ (v : View C). v.held.report) same ∙ sym (append-nil (run_view outcome store ports (reading_of octets)).held.report);
        }

take_front : (n : ℕ) (front rest : List ℕ) → take (min n (length front)) (front ++ rest) ≡ take n front
take_front n front rest =
    take-append-le (min n (length front)) front rest (omega arith) ∙ by_size (nat_le n (length front)) refl
  where
    by_size : (fits : Bool) → nat_le n (length front) ≡ fits → take (min n (length front)) front ≡ take n front
    by_size true e = let same : min n (length front) ≡ n = omega (arith, leb-true n (length front) e) in ap (λ (k : ℕ). take k front) same
    by_size false e =
        let past : length front < n = grind (arith, nat_tests) in
        let same : min n (length front) ≡ length front = omega arith in
        ap (λ (k : ℕ). take k front) same ∙ take_all (length front) front (omega arith) ∙ sym (take_all n front (omega arith))

-- a file that has grown by a front of a front
pub grown_front : (told after : Option (Option (List ℕ))) (front rest total : List ℕ) → total ≡ front ++ rest → GrownByFront told front after → GrownByFront told total after
grown_front told after front rest total is some =
    (min some.0 (length front), some.1 ∙ ap (grown told) (sym (take_front some.0 front rest) ∙ sym (ap (take (min some.0 (length front))) is)))

module _ {C : Type 0} (outcome : C → Arrival → Outcome C) (store : C) (ports octets rest text : List ℕ) (is : text ≡ octets ++ rest) (sent report sent' report' : Option (Option (List ℕ))) where
  cut_parts : (front total : View C) → Fronts front total → (stop : Stop) → Cut front sent report sent' report' stop → Cut total sent report sent' report' stop
  cut_parts front total parts stop cut = (
    cut.0,
    grown_front sent sent' front.held.sent parts.sent_more total.held.sent parts.sent_is cut.1,
    grown_front report report' front.held.report parts.report_more total.held.report parts.report_is cut.2,
  )

  cut_on : (stop : Stop) → Cut (run_view outcome store ports (reading_of octets)) sent report sent' report' stop → Cut (run_view outcome store ports (reading_of text)) sent report sent' report' stop
  cut_on stop cut =
      subst (λ (l : List ℕ). Cut (run_view outcome store ports (reading_of l)) sent report sent' report' stop) (sym is)
      (cut_parts (run_view outcome store ports (reading_of octets)) (run_view outcome store ports (reading_of (octets ++ rest))) (view_front outcome store ports octets rest) stop cut)

  refuses_on : (stop : Stop) → Refuses outcome store ports octets sent report sent' report' stop → Refuses outcome store ports text sent report sent' report' stop
  refuses_on stop so =
      let same : reading_of text ≡ reading_of octets = ap reading_of is ∙ refused_on octets rest so.0 so.2 in (
        so.0,
        so.1,
        ap (λ (r : Reading). r.fault) same ∙ so.2,
        so.3 ∙ ap (λ (r : Reading). grown sent (run_view outcome store ports r).held.sent) (sym same),
        so.4 ∙ ap (λ (r : Reading). grown report (run_view outcome store ports r).held.report) (sym same),
      )

  -- a piece that ended the run ends it for the total file
  pub piece_ends : (reader : Reading) (stream : View C) (stop : Stop) → PieceEnds outcome store ports octets sent report sent' report' reader stream (Err stop)
      → PieceEnds outcome store ports text sent report sent' report' reader stream (Err stop)
  piece_ends reader stream stop (inl refuses) = inl (refuses_on stop refuses)
  piece_ends reader stream stop (inr cut) = inr (cut_on stop cut)

-- the run before the first piece

abbrev viewed : {C : Type 0} → Held → C → ℕ → View C
viewed held store work = record { held = held; store = store; work = work }

pub nothing : reading_of [] ≡ nothing_read
nothing = unread [] (omega arith)

pub unbroken_start : (reading_of []).fault ≡ None
unbroken_start = ap (λ (r : Reading). r.fault) nothing

empty_view : {C : Type 0} → (outcome : C → Arrival → Outcome C) (store : C) (ports : List ℕ) → run_view outcome store ports (reading_of []) ≡ start ports store
unfolding after_all
empty_view outcome store ports = ap (run_view outcome store ports) nothing

pub streamed_start : {C : Type 0} → (outcome : C → Arrival → Outcome C) (store : C) (ports : List ℕ) (sent report : Option (Option (List ℕ))) (reader : Reading) (stream : View C) → reader ≡ nothing_read → stream ≡ start ports store
    → Streamed outcome store ports [] sent report sent report reader stream
streamed_start {C = C} outcome store ports sent report reader stream unread started =
    let view = empty_view outcome store ports in
    record {
      reader_is = unread ∙ sym (ap drained nothing);
      stream_is = started ∙ sym (ap emptied view);
      sent_is = sym (grown_none sent) ∙ ap (λ (v : View C). grown sent v.held.sent) (sym view);
      report_is = sym (grown_none report) ∙ ap (λ (v : View C). grown report v.held.report) (sym view);
      known = subst (λ (r : Reading). All IsRecord r.records) (sym nothing) (λ k d inside. absurd (omega arith));
    }

-- the same with other names of the files, which are as they were
pub streamed_still : {C : Type 0} → (outcome : C → Arrival → Outcome C) (store : C) (ports octets : List ℕ) (sent report sent' report' sent'' report'' : Option (Option (List ℕ))) (reader : Reading) (stream : View C)
    → sent'' ≡ sent' → report'' ≡ report' → Streamed outcome store ports octets sent report sent' report' reader stream → Streamed outcome store ports octets sent report sent'' report'' reader stream
streamed_still outcome store ports octets sent report sent' report' sent'' report'' reader stream same_sent same_report so =
    record { reader_is = so.reader_is; stream_is = so.stream_is; sent_is = same_sent ∙ so.sent_is; report_is = same_report ∙ so.report_is; known = so.known }

-- the same of a setting that is equal
pub streamed_by : {C : Type 0} → (Setting : Type 0) (outcome : Setting → C → Arrival → Outcome C) (a b : Setting) (store : C) (ports octets : List ℕ) (sent report sent' report' : Option (Option (List ℕ))) (reader : Reading) (stream : View C) → a ≡ b
    → Streamed (outcome a) store ports octets sent report sent' report' reader stream → Streamed (outcome b) store ports octets sent report sent' report' reader stream
streamed_by Setting outcome a b store ports octets sent report sent' report' reader stream is so =
    subst (λ (s : Setting). Streamed (outcome s) store ports octets sent report sent' report' reader stream) is so

-- and of what ends the run at a piece
pub stopped_by : {C : Type 0} → (Setting : Type 0) (outcome : Setting → C → Arrival → Outcome C) (a b : Setting) (store : C) (ports octets : List ℕ) (sent report sent' report' : Option (Option (List ℕ))) (stop : Stop) → a ≡ b
    → Refuses (outcome a) store ports octets sent report sent' report' stop ⊎ Cut (run_view (outcome a) store ports (reading_of octets)) sent report sent' report' stop
    → Refuses (outcome b) store ports octets sent report sent' report' stop ⊎ Cut (run_view (outcome b) store ports (reading_of octets)) sent report sent' report' stop
stopped_by Setting outcome a b store ports octets sent report sent' report' stop is so =
    subst (λ (s : Setting). Refuses (outcome s) store ports octets sent report sent' report' stop ⊎ Cut (run_view (outcome s) store ports (reading_of octets)) sent report sent' report' stop) is so

-- a run whose parts are those of one before its first packet
pub starts : {C : Type 0} → (ports : List ℕ) (held : Held) (store : C) (work : ℕ) → held ≡ empty ports → work ≡ 0 → viewed held store work ≡ start ports store
starts ports held store work is none = ap (λ (h : Held). viewed h store work) is ∙ ap (λ (n : ℕ). viewed (empty ports) store n) none

front_split : (octets text : List ℕ) → take (length octets) text ≡ octets → text ≡ octets ++ drop (length octets) text
front_split octets text front = sym (take-append-drop (length octets) text) ∙ ap (λ (l : List ℕ). l ++ drop (length octets) text) front

module _ {C : Type 0} (outcome : C → Arrival → Outcome C) (store : C) (ports octets : List ℕ) (sent report sent' report' : Option (Option (List ℕ))) (reader : Reading) (stream : View C)
    (unbroken : (reading_of octets).fault ≡ None) (so : Streamed outcome store ports octets sent report sent' report' reader stream) where
  -- the desk failed before a further piece
  pub pieces_cut : (file : Option (List ℕ)) → Front file octets → (sent'' report'' : Option (Option (List ℕ))) (end : Result (Unit {0}) Stop) (stop : Stop) → sent'' ≡ sent' → report'' ≡ report' → stop ≡ Fault → end ≡ Err stop
      → PiecesEnd outcome store ports file sent report sent'' report'' reader stream end
  pieces_cut None front sent'' report'' end stop same_sent same_report is ends =
      let none : run_view outcome store ports (reading_of octets) ≡ run_view outcome store ports (reading_of []) = ap (λ (l : List ℕ). run_view outcome store ports (reading_of l)) front in
      let empty = empty_view outcome store ports in
      subst (λ (e : Result (Unit {0}) Stop). IsErrAnd e (λ s. ((s ≡ Fault) ⊎ (s ≡ Memory)) × (sent'' ≡ sent) × (report'' ≡ report))) (sym ends) (
        inl is,
        same_sent ∙ so.sent_is ∙ ap (λ (v : View C). grown sent v.held.sent) (none ∙ empty) ∙ grown_none sent,
        same_report ∙ so.report_is ∙ ap (λ (v : View C). grown report v.held.report) (none ∙ empty) ∙ grown_none report,
      )
  pieces_cut (Some text) front sent'' report'' end stop same_sent same_report is ends = λ fits.
      let rest = drop (length octets) text in
      let cut = piece_unread outcome store ports octets rest unbroken sent report sent' report' sent'' report'' reader reader stream stream stream so stop (inl is) same_sent same_report in
      subst (λ (e : Result (Unit {0}) Stop). PieceEnds outcome store ports text sent report sent'' report'' reader stream e) (sym ends)
      (inr (subst (λ (l : List ℕ). Cut (run_view outcome store ports (reading_of l)) sent report sent'' report'' stop) (sym (front_split octets text front)) cut))

  -- the file ends behind these octets
  pub pieces_end : (file : Option (List ℕ)) (sent'' report'' : Option (Option (List ℕ))) → sent'' ≡ sent' → report'' ≡ report' → file ≡ Some octets
      → PiecesEnd outcome store ports file sent report sent'' report'' reader stream (Ok tt)
  pieces_end file sent'' report'' same_sent same_report is =
      subst (λ (f : Option (List ℕ)). PiecesEnd outcome store ports f sent report sent'' report'' reader stream (Ok tt)) (sym is)
      (λ fits. (unbroken, streamed_still outcome store ports octets sent report sent' report' sent'' report'' reader stream same_sent same_report so))

  -- so many octets were read as a file may have
  pub pieces_all : (file : Option (List ℕ)) → Front file octets → capture_limit ≤ length octets → PiecesEnd outcome store ports file sent report sent' report' reader stream (Ok tt)
  pieces_all None front many = absurd (omega (arith, ap length front))
  pieces_all (Some text) front many = λ fits.
      let same : text ≡ octets = sym (take_all (length octets) text (omega arith)) ∙ front in
      subst (λ (l : List ℕ). PieceEnds outcome store ports l sent report sent' report' reader stream (Ok tt)) (sym same) (unbroken, so)

-- what ended the run at a piece that came to these octets
pub pieces_stop : {C : Type 0} → (outcome : C → Arrival → Outcome C) (store : C) (ports octets : List ℕ) (sent report sent' report' : Option (Option (List ℕ))) (reader : Reading) (stream : View C) (file : Option (List ℕ)) (end : Result (Unit {0}) Stop) (stop : Stop)
    → (file ≡ None → ⊥) → Front file octets → end ≡ Err stop → PieceEnds outcome store ports octets sent report sent' report' reader stream end → PiecesEnd outcome store ports file sent report sent' report' reader stream end
pieces_stop outcome store ports octets sent report sent' report' reader stream None end stop there front is so = absurd (there refl)
pieces_stop outcome store ports octets sent report sent' report' reader stream (Some text) end stop there front is so = λ fits.
    subst (λ (e : Result (Unit {0}) Stop). PieceEnds outcome store ports text sent report sent' report' reader stream e) (sym is)
    (piece_ends outcome store ports octets (drop (length octets) text) text (front_split octets text front) sent report sent' report' reader stream stop
    (subst (λ (e : Result (Unit {0}) Stop). PieceEnds outcome store ports octets sent report sent' report' reader stream e) is so))

-- the same from files and ports that are equal
pub ends_from : {C : Type 0} → (outcome : C → Arrival → Outcome C) (store : C) (ports ports0 : List ℕ) (file : Option (List ℕ)) (sent report sent0 report0 sent' report' : Option (Option (List ℕ))) (reader : Reading) (stream : View C) (end : Result (Unit {0}) Stop)
    → ports ≡ ports0 → sent ≡ sent0 → report ≡ report0 → PiecesEnd outcome store ports file sent report sent' report' reader stream end → PiecesEnd outcome store ports0 file sent0 report0 sent' report' reader stream end
ends_from outcome store ports ports0 file sent report sent0 report0 sent' report' reader stream end same_ports same_sent same_report so =
    subst (λ (t : Option (Option (List ℕ))). PiecesEnd outcome store ports0 file sent0 t sent' report' reader stream end) same_report
    (subst (λ (t : Option (Option (List ℕ))). PiecesEnd outcome store ports0 file t report sent' report' reader stream end) same_sent
    (subst (λ (l : List ℕ). PiecesEnd outcome store l file sent report sent' report' reader stream end) same_ports so))
