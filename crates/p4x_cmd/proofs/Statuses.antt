-- Which cause each status has.
use Rattle.std.proofs.Common.{◌≡◌, ◌⊎◌, inl, inr, ℕ, ◌==◌, MatchBool, List, [], ◌∷◌, Option, Some, None, Ok, Err, refl, sym, ◌∙◌, ap, subst, arith}
use Rattle.p4x_fault.specs.declared.Fault.{Fault as Refusal}
use Rattle.p4x_io.specs.Desk.{DeskView}
use Rattle.p414_one_table.specs.declared.program.OneTable14.{OneTable14}
use Rattle.file_work.specs.declared.stop.Limited.TheVariants.{Program as TheProgram, Entries, Ports, Capture, Text as TheText}
use Rattle.file_work.specs.declared.stop.Stop.{Stop}
use Rattle.file_work.specs.declared.stop.Stop.TheVariants.{Fault, Usage, Program, Judged, Unfit, Refused, Limit, Memory, Text}
use Rattle.p4x_cmd.specs.Calls.{CarryStatuses, Accepts, RefusesProgram, RefusesEntries, RefusesPorts, RefusesCapture, OverPorts, OverCapture}
use Rattle.program_commands.specs.Commands.{OverText}
use Rattle.p4x_cmd.specs.Carry.{CarryDue, ProgramIs, ComesOnce, HasProgram, Begins, StopsBefore, OfProgram, entries_stop, not_taken, carry_lines, carried_word}
use Rattle.p4x_cmd.specs.Runs.{this_run}
use Rattle.command_inputs.specs.PortsFile.{ports_end}
use Rattle.command_inputs.proofs.Ends.{PortsEnd, ports_ends}
use Rattle.file_work.specs.Clauses.{ComesWhere}
use Rattle.file_work.specs.Works.{Due, Tells}
use Rattle.file_work.proofs.Ends.{stop_in, code_at, code_stop}
use Rattle.file_work.proofs.Loose.{comes_loose}
use Rattle.file_work.proofs.Ways.{Ends, Known, comes_where}
use Rattle.file_work.specs.Stops.{code_of, stop_code}
use Rattle.command_words.specs.Words.{CarryFiles, carry_inputs}
use Rattle.p4x_cmd.proofs.Programs.{file_stops, taken_goes_on, stops_alike}
use Rattle.run_stream.proofs.Whole.{capture_stop, reports_stop, CaptureEnd, capture_ends, capture_taken, capture_over}

-- What the entries can come to.
abbrev pub EntriesEnd : Option Stop → Type 0
EntriesEnd None = Unit {0}
EntriesEnd (Some Fault) = Unit {0}
EntriesEnd (Some (Unfit fault)) = fault ≡ not_taken
EntriesEnd (Some stop) = ⊥

pub entries_ends : (o : Option (List ℕ)) → EntriesEnd (entries_stop o)
entries_ends None = tt
entries_ends (Some []) = tt
entries_ends (Some (b ∷ octets)) = refl

-- the statuses with their causes, where the desk tells all inputs
pub record AllStatuses (f : CarryFiles) (files : List ℕ → Option (List ℕ)) (status : ℕ) : Type 0 where
  pub accepted : ComesWhere status 0 (Accepts f files)
  pub program : ComesWhere status 3 (RefusesProgram f files)
  pub entries : ComesWhere status 4 (RefusesEntries f files)
  pub refused : ComesWhere status 5 (RefusesPorts f files ⊎ RefusesCapture f files)
  pub limit : ComesWhere status 6 (OverText f.program files ⊎ OverPorts f files ⊎ OverCapture f files)

-- they follow from what each cause says by itself
pub all_statuses : (f : CarryFiles) (old : DeskView) (files : List ℕ → Option (List ℕ)) (status : ℕ) → CarryStatuses f old files status → Tells (carry_inputs f) old files → AllStatuses f files status
all_statuses f old files status each told = record {
  accepted = each.accepted told;
  program = (each.program (told.0, tt)).refused;
  entries = each.entries (told.0, (told.1.0, tt));
  refused = each.refused told;
  limit = each.limit told;
}

module _ (f : CarryFiles) (files : List ℕ → Option (List ℕ)) where
  -- The work stops here, or nowhere.
  abbrev Comes : Option Stop → Type 0
  Comes end =
      ((stop : Stop) × StopsBefore f files stop × (end ≡ Some stop))
      ⊎ ((p : OneTable14) × (ports : List ℕ) × Begins f files p ports × (end ≡ capture_stop (files f.capture)))

  due_comes : (d : Due) → CarryDue f files d → Comes (stop_in d.end)
  due_comes d (inl early) = inl (early.0, early.1, ap (λ (x : Due). stop_in x.end) early.2)
  due_comes d (inr went) = inr (went.0, went.1, went.4, ap (λ (x : Due). stop_in x.end) went.6 ∙ reports_stop carried_word carry_lines (this_run went.3 f.passes) went.1 (files f.capture))

  pub entries_not_both : (stop : Stop) → entries_stop (files f.entries) ≡ Some stop → entries_stop (files f.entries) ≡ None → ⊥
  entries_not_both stop some none = cc (some, none)

  -- Where the program's file comes to one thing only, the work stops at one place only.
  module _ (once : ComesOnce (files f.program)) where
    pub begins_not : (p : OneTable14) (ports : List ℕ) (stop : Stop) → Begins f files p ports → StopsBefore f files stop → ⊥
    begins_not p ports stop begins (inl program) = taken_goes_on (files f.program) once p stop begins.0.0 program
    begins_not p ports stop begins (inr (inl entries)) = entries_not_both stop entries.2 begins.0.1
    begins_not p ports stop begins (inr (inr refused)) = let other = refused.2 in let taken = begins.1 in cc (other, taken)

    pub stops_once : (a b : Stop) → StopsBefore f files a → StopsBefore f files b → a ≡ b
    stops_once a b (inl one) (inl other) = stops_alike (files f.program) once a b one other
    stops_once a b (inl one) (inr (inl other)) = absurd (taken_goes_on (files f.program) once other.0 a other.1 one)
    stops_once a b (inl one) (inr (inr other)) = absurd (taken_goes_on (files f.program) once other.0 a other.1.0 one)
    stops_once a b (inr (inl one)) (inl other) = absurd (taken_goes_on (files f.program) once one.0 b one.1 other)
    stops_once a b (inr (inl one)) (inr (inl other)) = let here = one.2 in let there = other.2 in cc (here, there)
    stops_once a b (inr (inl one)) (inr (inr other)) = absurd (entries_not_both a one.2 other.1.1)
    stops_once a b (inr (inr one)) (inl other) = absurd (taken_goes_on (files f.program) once one.0 b one.1.0 other)
    stops_once a b (inr (inr one)) (inr (inl other)) = absurd (entries_not_both b other.2 one.1.1)
    stops_once a b (inr (inr one)) (inr (inr other)) = let here = one.2 in let there = other.2 in cc (here, there)

    comes_once : (a b : Option Stop) → Comes a → Comes b → a ≡ b
    comes_once a b (inl one) (inl other) = one.2 ∙ ap (λ (s : Stop). Some s) (stops_once one.0 other.0 one.1 other.1) ∙ sym other.2
    comes_once a b (inl one) (inr other) = absurd (begins_not other.0 other.1 one.0 other.2 one.1)
    comes_once a b (inr one) (inl other) = absurd (begins_not one.0 one.1 other.0 one.2 other.1)
    comes_once a b (inr one) (inr other) = one.3 ∙ sym other.3

  -- the cause of each status that has one
  abbrev CauseOf : ℕ → Type 0
  CauseOf code =
      MatchBool (code == 0) (Accepts f files) (MatchBool (code == 3) (RefusesProgram f files) (MatchBool (code == 4) (RefusesEntries f files)
      (MatchBool (code == 5) (RefusesPorts f files ⊎ RefusesCapture f files) (MatchBool (code == 6) (OverText f.program files ⊎ OverPorts f files ⊎ OverCapture f files) (Unit {0})))))

  program_cause : (stop : Stop) → ProgramIs (files f.program) (Err stop) → CauseOf (stop_code stop)
  program_cause stop is = by_stop (file_stops (files f.program) stop is)
    where
      for_stop : (other : Stop) → stop ≡ other → (ProgramIs (files f.program) (Err other) → CauseOf (stop_code other)) → CauseOf (stop_code stop)
      for_stop other same so =
          subst (λ (s : Stop). CauseOf (stop_code s)) (sym same) (so (subst (λ (s : Stop). ProgramIs (files f.program) (Err s)) same is))

      by_stop : (stop ≡ Fault) ⊎ OfProgram stop → CauseOf (stop_code stop)
      by_stop (inl same) = for_stop Fault same (λ so. tt)
      by_stop (inr (inl same)) = for_stop Program same (λ so. inr so)
      by_stop (inr (inr (inl (fault, same)))) = for_stop (Judged fault) same (λ so. inl (fault, so))
      by_stop (inr (inr (inr same))) = for_stop (Limit TheProgram) same (λ so. inl so)

  entries_cause : (p : OneTable14) → ProgramIs (files f.program) (Ok p) → (stop : Stop) → EntriesEnd (Some stop) → entries_stop (files f.entries) ≡ Some stop → CauseOf (stop_code stop)
  entries_cause p taken Fault end is = tt
  entries_cause p taken Usage end is = absurd end
  entries_cause p taken Program end is = absurd end
  entries_cause p taken (Judged fault) end is = absurd end
  entries_cause p taken (Unfit fault) end is = (p, taken, is ∙ ap (λ (x : Refusal). Some (Unfit x)) end)
  entries_cause p taken (Text fault) end is = absurd end
  entries_cause p taken (Refused fault) end is = absurd end
  entries_cause p taken (Limit file) end is = absurd end
  entries_cause p taken Memory end is = absurd end

  ports_cause : (p : OneTable14) → HasProgram f files p → (stop : Stop) → PortsEnd (Err stop) → ports_end files f.ports ≡ Err stop → CauseOf (stop_code stop)
  ports_cause p has Fault end is = tt
  ports_cause p has Usage end is = absurd end
  ports_cause p has Program end is = absurd end
  ports_cause p has (Judged fault) end is = absurd end
  ports_cause p has (Unfit fault) end is = absurd end
  ports_cause p has (Text fault) end is = absurd end
  ports_cause p has (Refused fault) end is = inl (p, has, (fault, is))
  ports_cause p has (Limit TheProgram) end is = absurd end
  ports_cause p has (Limit Entries) end is = absurd end
  ports_cause p has (Limit TheText) end is = absurd end
  ports_cause p has (Limit Ports) end is = inr (inl (p, has, is))
  ports_cause p has (Limit Capture) end is = absurd end
  ports_cause p has Memory end is = absurd end

  early_cause : (stop : Stop) → StopsBefore f files stop → CauseOf (stop_code stop)
  early_cause stop (inl program) = program_cause stop program
  early_cause stop (inr (inl entries)) = entries_cause entries.0 entries.1 stop (subst EntriesEnd entries.2 (entries_ends (files f.entries))) entries.2
  early_cause stop (inr (inr ports)) = ports_cause ports.0 ports.1 stop (subst PortsEnd ports.2 (ports_ends files f.ports)) ports.2

  capture_cause : (p : OneTable14) (ports : List ℕ) → Begins f files p ports → (end : Option Stop) → CaptureEnd (files f.capture) end → CauseOf (code_at end)
  capture_cause p ports begins None is = (p, ports, begins, is)
  capture_cause p ports begins (Some Fault) is = tt
  capture_cause p ports begins (Some Usage) is = absurd is
  capture_cause p ports begins (Some Program) is = absurd is
  capture_cause p ports begins (Some (Judged fault)) is = absurd is
  capture_cause p ports begins (Some (Unfit fault)) is = absurd is
  capture_cause p ports begins (Some (Text fault)) is = absurd is
  capture_cause p ports begins (Some (Refused fault)) is = inr (p, ports, begins, (fault, is))
  capture_cause p ports begins (Some (Limit TheProgram)) is = absurd is
  capture_cause p ports begins (Some (Limit Entries)) is = absurd is
  capture_cause p ports begins (Some (Limit TheText)) is = absurd is
  capture_cause p ports begins (Some (Limit Ports)) is = absurd is
  capture_cause p ports begins (Some (Limit Capture)) is = inr (inr (p, ports, begins, is))
  capture_cause p ports begins (Some Memory) is = absurd is

  cause_of : (end : Option Stop) → Comes end → CauseOf (code_at end)
  cause_of end (inl early) = subst (λ (x : Option Stop). CauseOf (code_at x)) (sym early.2) (early_cause early.0 early.1)
  cause_of end (inr went) = subst (λ (x : Option Stop). CauseOf (code_at x)) (sym went.3) (capture_cause went.0 went.1 went.2 (capture_stop (files f.capture)) (capture_ends (files f.capture)))

  abbrev pub EndsSo : ℕ → Type 0
  EndsSo code = Ends Comes CauseOf code

  pub program_ends : RefusesProgram f files → EndsSo 3
  program_ends (inl (fault, is)) = (Some (Judged fault), inl (Judged fault, inl is, refl), refl)
  program_ends (inr is) = (Some Program, inl (Program, inl is, refl), refl)

  pub entries_end : RefusesEntries f files → EndsSo 4
  entries_end is = (Some (Unfit not_taken), inl (Unfit not_taken, inr (inl is), refl), refl)

  pub refused_ends : RefusesPorts f files ⊎ RefusesCapture f files → EndsSo 5
  refused_ends (inl is) = (Some (Refused is.2.0), inl (Refused is.2.0, inr (inr (is.0, is.1, is.2.1)), refl), refl)
  refused_ends (inr is) = (Some (Refused is.3.0), inr (is.0, is.1, is.2, sym (capture_taken (files f.capture) (Some is.3.0) is.3.1)), refl)

  pub over_ends : OverText f.program files ⊎ OverPorts f files ⊎ OverCapture f files → EndsSo 6
  over_ends (inl is) = (Some (Limit TheProgram), inl (Limit TheProgram, inl is, refl), refl)
  over_ends (inr (inl is)) = (Some (Limit Ports), inl (Limit Ports, inr (inr is), refl), refl)
  over_ends (inr (inr is)) = (Some (Limit Capture), inr (is.0, is.1, is.2, sym (capture_over (files f.capture) is.3)), refl)

  pub accepted_ends : Accepts f files → EndsSo 0
  accepted_ends is = (None, inr (is.0, is.1, is.2, sym (capture_taken (files f.capture) None is.3)), refl)

  abbrev pub KnownSo : ℕ → Type 0
  KnownSo status = Known Comes CauseOf status

  pub due_ends : (status : ℕ) (d : Due) → CarryDue f files d → status ≡ code_of d.end → EndsSo status
  due_ends status d due is = (stop_in d.end, due_comes d due, is ∙ code_stop d.end)

  pub comes : ComesOnce (files f.program) → (status code : ℕ) → (code ≡ 1 → ⊥) → (code ≡ 7 → ⊥) → KnownSo status → (CauseOf code → EndsSo code) → ComesWhere status code (CauseOf code)
  comes once = comes_where Comes CauseOf (comes_once once) cause_of

  -- each status comes exactly where its cause holds
  pub statuses_are : ComesOnce (files f.program) → (status : ℕ) → KnownSo status → AllStatuses f files status
  statuses_are once status known = record {
    accepted = comes once status 0 (λ e. omega arith) (λ e. omega arith) known accepted_ends;
    program = comes once status 3 (λ e. omega arith) (λ e. omega arith) known program_ends;
    entries = comes once status 4 (λ e. omega arith) (λ e. omega arith) known entries_end;
    refused = comes once status 5 (λ e. omega arith) (λ e. omega arith) known refused_ends;
    limit = comes once status 6 (λ e. omega arith) (λ e. omega arith) known over_ends;
  }

  -- 1 and 7 may come in the place of each
  pub statuses_loose : (status : ℕ) → (status ≡ 1) ⊎ (status ≡ 7) → AllStatuses f files status
  statuses_loose status loose = record {
    accepted = comes_loose status 0 _ loose (λ e. omega arith) (λ e. omega arith);
    program = comes_loose status 3 _ loose (λ e. omega arith) (λ e. omega arith);
    entries = comes_loose status 4 _ loose (λ e. omega arith) (λ e. omega arith);
    refused = comes_loose status 5 _ loose (λ e. omega arith) (λ e. omega arith);
    limit = comes_loose status 6 _ loose (λ e. omega arith) (λ e. omega arith);
  }
