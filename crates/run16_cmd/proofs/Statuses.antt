-- The status of the work by what its files hold, where the desk tells all of them.
use Rattle.std.proofs.Common.{◌≡◌, ◌⊎◌, inl, inr, ℕ, ◌==◌, MatchBool, List, Option, Some, None, Result, Ok, Err, refl, sym, ◌∙◌, ap, subst, arith}
use Rattle.match_core.specs.declared.entries.Entries.{Entries as Filling}
use Rattle.command_words.specs.Words.{Run16Files}
use Rattle.file_work.specs.declared.stop.Limited.TheVariants.{Text as TheText, Entries, Ports, Capture, Program as TheProgram}
use Rattle.file_work.specs.declared.stop.Stop.{Stop}
use Rattle.file_work.specs.declared.stop.Stop.TheVariants.{Fault, Usage, Program, Judged, Unfit, Refused, Limit, Memory, Text}
use Rattle.file_work.specs.Clauses.{ComesWhere}
use Rattle.file_work.specs.Stops.{code_of, stop_code}
use Rattle.file_work.specs.Works.{Due}
use Rattle.file_work.proofs.Ends.{stop_in, code_at, code_stop}
use Rattle.file_work.proofs.Loose.{comes_loose}
use Rattle.file_work.proofs.Ways.{Ends, Known, comes_where}
use Rattle.command_inputs.specs.PortsFile.{ports_end}
use Rattle.command_inputs.proofs.Ends.{EntriesEnd, entries_ends, PortsEnd, ports_ends}
use Rattle.run_stream.proofs.Whole.{capture_stop, reports_stop, CaptureEnd, capture_ends, capture_taken, capture_over}
use Rattle.p416_syntax.specs.declared.program.Syntax16.{Syntax16}
use Rattle.v1_core.specs.Signatures.{signature16}
use Rattle.program16_file.specs.Answers.{ComesOnce}
use Rattle.program16_file.specs.Causes.{RefusesText, OverText}
use Rattle.program16_file.specs.Programs.{ProgramIs}
use Rattle.program16_file.proofs.Stops.{FileStop, file_stops, taken_goes_on, stops_alike, program_alike}
use Rattle.run16_cmd.specs.Calls.{Accepts, RefusesEntries, OverEntries, RefusesPorts, OverPorts, RefusesCapture, OverCapture}
use Rattle.run16_cmd.specs.Run16.{HasProgram, Begins, StopsBefore, Run16Due, filled, setting_for, this_run, own_lines, ran_word}

-- the statuses with their causes, where the desk tells all inputs
pub record AllStatuses (f : Run16Files) (files : List ℕ → Option (List ℕ)) (status : ℕ) : Type 0 where
  pub accepted : ComesWhere status 0 (Accepts f files)
  pub program : ComesWhere status 8 (RefusesText f.text files)
  pub entries : ComesWhere status 4 (RefusesEntries f files)
  pub refused : ComesWhere status 5 (RefusesPorts f files ⊎ RefusesCapture f files)
  pub limit : ComesWhere status 6 (OverText f.text files ⊎ OverEntries f files ⊎ OverPorts f files ⊎ OverCapture f files)

module _ (f : Run16Files) (files : List ℕ → Option (List ℕ)) where
  -- The work stops here, or nowhere.
  abbrev Comes : Option Stop → Type 0
  Comes end =
      ((stop : Stop) × StopsBefore f files stop × (end ≡ Some stop))
      ⊎ ((s : Syntax16) × (e : Filling) × (ports : List ℕ) × Begins f files s e ports × (end ≡ capture_stop (files f.capture)))

  due_comes : (d : Due) → Run16Due f files d → Comes (stop_in d.end)
  due_comes d (inl early) = inl (early.0, early.1, ap (λ (x : Due). stop_in x.end) early.2)
  due_comes d (inr went) =
      let c = setting_for went.0 went.1 in
      inr (went.0, went.1, went.2, went.3, ap (λ (x : Due). stop_in x.end) went.4 ∙ reports_stop ran_word (own_lines c) (this_run c f.passes) went.2 (files f.capture))

  -- Where the program's file comes to one thing only, the work stops at one place only.
  module _ (once : ComesOnce (files f.text)) where
    pub filled_alike : (s t : Syntax16) → ProgramIs (files f.text) (Ok s) → ProgramIs (files f.text) (Ok t) → (a b : Result Filling Stop) → filled f files s ≡ a → filled f files t ≡ b → a ≡ b
    filled_alike s t one other a b is so = sym is ∙ ap (filled f files) (program_alike (files f.text) once s t one other) ∙ so

    pub filled_not : (s t : Syntax16) → ProgramIs (files f.text) (Ok s) → ProgramIs (files f.text) (Ok t) → (e : Filling) (stop : Stop) → filled f files s ≡ Ok e → filled f files t ≡ Err stop → ⊥
    filled_not s t one other e stop is so =
        let same : ◌≡◌ {A = Result Filling Stop} (Ok e) (Err stop) = filled_alike s t one other (Ok e) (Err stop) is so in cc same

    pub begins_not : (s : Syntax16) (e : Filling) (ports : List ℕ) (stop : Stop) → Begins f files s e ports → StopsBefore f files stop → ⊥
    begins_not s e ports stop begins (inl (inl program)) = taken_goes_on (files f.text) once s stop begins.0.0 program
    begins_not s e ports stop begins (inl (inr entries)) = filled_not s entries.0 begins.0.0 entries.1 e stop begins.0.1 entries.2
    begins_not s e ports stop begins (inr refused) = let other = refused.3 in let taken = begins.1 in cc (other, taken)

    pub stops_once : (a b : Stop) → StopsBefore f files a → StopsBefore f files b → a ≡ b
    stops_once a b (inl (inl one)) (inl (inl other)) = stops_alike (files f.text) once a b one other
    stops_once a b (inl (inl one)) (inl (inr other)) = absurd (taken_goes_on (files f.text) once other.0 a other.1 one)
    stops_once a b (inl (inl one)) (inr other) = absurd (taken_goes_on (files f.text) once other.0 a other.2.0 one)
    stops_once a b (inl (inr one)) (inl (inl other)) = absurd (taken_goes_on (files f.text) once one.0 b one.1 other)
    stops_once a b (inl (inr one)) (inl (inr other)) =
        let same : ◌≡◌ {A = Result Filling Stop} (Err a) (Err b) = filled_alike one.0 other.0 one.1 other.1 (Err a) (Err b) one.2 other.2 in cc same
    stops_once a b (inl (inr one)) (inr other) = absurd (filled_not other.0 one.0 other.2.0 one.1 other.1 a other.2.1 one.2)
    stops_once a b (inr one) (inl (inl other)) = absurd (taken_goes_on (files f.text) once one.0 b one.2.0 other)
    stops_once a b (inr one) (inl (inr other)) = absurd (filled_not one.0 other.0 one.2.0 other.1 one.1 b one.2.1 other.2)
    stops_once a b (inr one) (inr other) = let here = one.3 in let there = other.3 in cc (here, there)

    comes_once : (a b : Option Stop) → Comes a → Comes b → a ≡ b
    comes_once a b (inl one) (inl other) = one.2 ∙ ap (λ (s : Stop). Some s) (stops_once one.0 other.0 one.1 other.1) ∙ sym other.2
    comes_once a b (inl one) (inr other) = absurd (begins_not other.0 other.1 other.2 one.0 other.3 one.1)
    comes_once a b (inr one) (inl other) = absurd (begins_not one.0 one.1 one.2 other.0 one.3 other.1)
    comes_once a b (inr one) (inr other) = one.4 ∙ sym other.4

  -- the cause of each status that has one
  abbrev CauseOf : ℕ → Type 0
  CauseOf code =
      MatchBool (code == 0) (Accepts f files) (MatchBool (code == 8) (RefusesText f.text files) (MatchBool (code == 4) (RefusesEntries f files)
      (MatchBool (code == 5) (RefusesPorts f files ⊎ RefusesCapture f files)
      (MatchBool (code == 6) (OverText f.text files ⊎ OverEntries f files ⊎ OverPorts f files ⊎ OverCapture f files) (Unit {0})))))

  program_cause : (stop : Stop) → ProgramIs (files f.text) (Err stop) → CauseOf (stop_code stop)
  program_cause stop is = by_stop (file_stops (files f.text) stop is)
    where
      for_stop : (other : Stop) → stop ≡ other → (ProgramIs (files f.text) (Err other) → CauseOf (stop_code other)) → CauseOf (stop_code stop)
      for_stop other same so =
          subst (λ (s : Stop). CauseOf (stop_code s)) (sym same) (so (subst (λ (s : Stop). ProgramIs (files f.text) (Err s)) same is))

      by_stop : FileStop stop → CauseOf (stop_code stop)
      by_stop (inl same) = for_stop Fault same (λ so. tt)
      by_stop (inr (inl (fault, same))) = for_stop (Text fault) same (λ so. (fault, so))
      by_stop (inr (inr same)) = for_stop (Limit TheText) same (λ so. inl so)

  entries_cause : (s : Syntax16) → ProgramIs (files f.text) (Ok s) → (stop : Stop) → EntriesEnd (Err stop) → filled f files s ≡ Err stop → CauseOf (stop_code stop)
  entries_cause s taken Fault end is = tt
  entries_cause s taken Usage end is = absurd end
  entries_cause s taken Program end is = absurd end
  entries_cause s taken (Text fault) end is = absurd end
  entries_cause s taken (Unfit fault) end is = (s, taken, (fault, is))
  entries_cause s taken (Judged fault) end is = absurd end
  entries_cause s taken (Refused fault) end is = absurd end
  entries_cause s taken (Limit TheText) end is = absurd end
  entries_cause s taken (Limit Entries) end is = inr (inl (s, taken, is))
  entries_cause s taken (Limit TheProgram) end is = absurd end
  entries_cause s taken (Limit Ports) end is = absurd end
  entries_cause s taken (Limit Capture) end is = absurd end
  entries_cause s taken Memory end is = absurd end

  ports_cause : (s : Syntax16) (e : Filling) → HasProgram f files s e → (stop : Stop) → PortsEnd (Err stop) → ports_end files f.ports ≡ Err stop → CauseOf (stop_code stop)
  ports_cause s e has Fault end is = tt
  ports_cause s e has Usage end is = absurd end
  ports_cause s e has Program end is = absurd end
  ports_cause s e has (Text fault) end is = absurd end
  ports_cause s e has (Unfit fault) end is = absurd end
  ports_cause s e has (Judged fault) end is = absurd end
  ports_cause s e has (Refused fault) end is = inl (s, e, has, (fault, is))
  ports_cause s e has (Limit TheText) end is = absurd end
  ports_cause s e has (Limit Entries) end is = absurd end
  ports_cause s e has (Limit TheProgram) end is = absurd end
  ports_cause s e has (Limit Ports) end is = inr (inr (inl (s, e, has, is)))
  ports_cause s e has (Limit Capture) end is = absurd end
  ports_cause s e has Memory end is = absurd end

  early_cause : (stop : Stop) → StopsBefore f files stop → CauseOf (stop_code stop)
  early_cause stop (inl (inl program)) = program_cause stop program
  early_cause stop (inl (inr entries)) =
      entries_cause entries.0 entries.1 stop (subst EntriesEnd entries.2 (entries_ends (signature16 entries.0) (files f.entries))) entries.2
  early_cause stop (inr ports) = ports_cause ports.0 ports.1 ports.2 stop (subst PortsEnd ports.3 (ports_ends files f.ports)) ports.3

  capture_cause : (s : Syntax16) (e : Filling) (ports : List ℕ) → Begins f files s e ports → (end : Option Stop) → CaptureEnd (files f.capture) end → CauseOf (code_at end)
  capture_cause s e ports begins None is = (s, e, ports, begins, is)
  capture_cause s e ports begins (Some Fault) is = tt
  capture_cause s e ports begins (Some Usage) is = absurd is
  capture_cause s e ports begins (Some Program) is = absurd is
  capture_cause s e ports begins (Some (Text fault)) is = absurd is
  capture_cause s e ports begins (Some (Unfit fault)) is = absurd is
  capture_cause s e ports begins (Some (Judged fault)) is = absurd is
  capture_cause s e ports begins (Some (Refused fault)) is = inr (s, e, ports, begins, (fault, is))
  capture_cause s e ports begins (Some (Limit TheText)) is = absurd is
  capture_cause s e ports begins (Some (Limit Entries)) is = absurd is
  capture_cause s e ports begins (Some (Limit TheProgram)) is = absurd is
  capture_cause s e ports begins (Some (Limit Ports)) is = absurd is
  capture_cause s e ports begins (Some (Limit Capture)) is = inr (inr (inr (s, e, ports, begins, is)))
  capture_cause s e ports begins (Some Memory) is = absurd is

  cause_of : (end : Option Stop) → Comes end → CauseOf (code_at end)
  cause_of end (inl early) = subst (λ (x : Option Stop). CauseOf (code_at x)) (sym early.2) (early_cause early.0 early.1)
  cause_of end (inr went) = subst (λ (x : Option Stop). CauseOf (code_at x)) (sym went.4) (capture_cause went.0 went.1 went.2 went.3 (capture_stop (files f.capture)) (capture_ends (files f.capture)))

  abbrev pub EndsSo : ℕ → Type 0
  EndsSo code = Ends Comes CauseOf code

  program_ends : RefusesText f.text files → EndsSo 8
  program_ends (fault, is) = (Some (Text fault), inl (Text fault, inl (inl is), refl), refl)

  entries_end : RefusesEntries f files → EndsSo 4
  entries_end is = (Some (Unfit is.2.0), inl (Unfit is.2.0, inl (inr (is.0, is.1, is.2.1)), refl), refl)

  refused_ends : RefusesPorts f files ⊎ RefusesCapture f files → EndsSo 5
  refused_ends (inl is) = (Some (Refused is.3.0), inl (Refused is.3.0, inr (is.0, is.1, is.2, is.3.1), refl), refl)
  refused_ends (inr is) = (Some (Refused is.4.0), inr (is.0, is.1, is.2, is.3, sym (capture_taken (files f.capture) (Some is.4.0) is.4.1)), refl)

  over_ends : OverText f.text files ⊎ OverEntries f files ⊎ OverPorts f files ⊎ OverCapture f files → EndsSo 6
  over_ends (inl is) = (Some (Limit TheText), inl (Limit TheText, inl (inl is), refl), refl)
  over_ends (inr (inl is)) = (Some (Limit Entries), inl (Limit Entries, inl (inr is), refl), refl)
  over_ends (inr (inr (inl is))) = (Some (Limit Ports), inl (Limit Ports, inr is, refl), refl)
  over_ends (inr (inr (inr is))) = (Some (Limit Capture), inr (is.0, is.1, is.2, is.3, sym (capture_over (files f.capture) is.4)), refl)

  accepted_ends : Accepts f files → EndsSo 0
  accepted_ends is = (None, inr (is.0, is.1, is.2, is.3, sym (capture_taken (files f.capture) None is.4)), refl)

  abbrev pub KnownSo : ℕ → Type 0
  KnownSo status = Known Comes CauseOf status

  pub due_ends : (status : ℕ) (d : Due) → Run16Due f files d → status ≡ code_of d.end → EndsSo status
  due_ends status d due is = (stop_in d.end, due_comes d due, is ∙ code_stop d.end)

  comes : ComesOnce (files f.text) → (status code : ℕ) → (code ≡ 1 → ⊥) → (code ≡ 7 → ⊥) → KnownSo status → (CauseOf code → EndsSo code) → ComesWhere status code (CauseOf code)
  comes once = comes_where Comes CauseOf (comes_once once) cause_of

  -- each status comes exactly where its cause holds
  pub statuses_are : ComesOnce (files f.text) → (status : ℕ) → KnownSo status → AllStatuses f files status
  statuses_are once status known = record {
    accepted = comes once status 0 (λ e. omega arith) (λ e. omega arith) known accepted_ends;
    program = comes once status 8 (λ e. omega arith) (λ e. omega arith) known program_ends;
    entries = comes once status 4 (λ e. omega arith) (λ e. omega arith) known entries_end;
    refused = comes once status 5 (λ e. omega arith) (λ e. omega arith) known refused_ends;
    limit = comes once status 6 (λ e. omega arith) (λ e. omega arith) known over_ends;
  }

  -- 1 and 7 may come in the place of each
  pub statuses_loose : (status : ℕ) → (status ≡ 1) ⊎ (status ≡ 7) → AllStatuses f files status
  statuses_loose status loose = record {
    accepted = comes_loose status 0 _ loose (λ e. omega arith) (λ e. omega arith);
    program = comes_loose status 8 _ loose (λ e. omega arith) (λ e. omega arith);
    entries = comes_loose status 4 _ loose (λ e. omega arith) (λ e. omega arith);
    refused = comes_loose status 5 _ loose (λ e. omega arith) (λ e. omega arith);
    limit = comes_loose status 6 _ loose (λ e. omega arith) (λ e. omega arith);
  }
