-- How the work of `run14` ends by the files that it reads first, at each of its exits.
use Rattle.std.proofs.Common.{◌≡◌, ◌⊎◌, inl, inr, ℕ, List, Option, Some, option_to_list, Result, Ok, Err, IfErr, OnOk, Vec, subst, arith}
use Rattle.std.specs.declared.alloc.Global.{Global}
use Rattle.p4x_io.specs.Desk.{DeskView}
use Rattle.match_core.specs.declared.entries.Entries.{Entries}
use Rattle.command_words.specs.Words.{Run14Files, run14_outputs}
use Rattle.file_work.specs.declared.stop.Stop.{Stop}
use Rattle.file_work.specs.declared.stop.Stop.TheVariants.{Fault, Memory}
use Rattle.file_work.specs.Phases.{Loosely, line_view}
use Rattle.file_work.specs.Works.{Tells, AllKept}
use Rattle.file_work.proofs.Order.{loosely_as, loosely_loose}
use Rattle.command_inputs.specs.EntriesFile.{IsEntriesStop}
use Rattle.command_inputs.specs.PortsFile.{ports_end, IsPortsStop}
use Rattle.run_stream.specs.Captured.{StopsRun}
use Rattle.p414_syntax.specs.declared.syntax.Syntax14.{Syntax14}
use Rattle.program_commands.specs.Answers.{AnswersFile, ComesOnce}
use Rattle.program_commands.specs.Programs.{ProgramIs, IsProgramStop}
use Rattle.program_commands.proofs.Stops.{alone_once, taken_goes_on}
use Rattle.run14_cmd.specs.Run14.{HasProgram, OfPorts, InOrder, KeepsInOrder, filled}
use Rattle.run14_cmd.proofs.Judging.{entries_not}
use Rattle.run14_cmd.proofs.Only.{loose_only, program_only, entries_only, ports_only}
use Rattle.run14_cmd.proofs.Ranks.{behind_program, behind_entries, behind_ports, not_program, not_entries, not_ports}
use Rattle.run14_cmd.proofs.Statuses.{begins_not}

module _ (A : Type 0) (f : Run14Files) (old : DeskView) where
  -- a fault or want of memory may come anywhere
  pub order_loose : (stop : Stop) → (stop ≡ Fault) ⊎ (stop ≡ Memory) → InOrder {A = A} f old (Err stop)
  order_loose stop loose = record {
    once = λ files told. loosely_loose stop _ loose;
    program = λ files told. loosely_loose stop _ loose;
    entries = λ files told. loosely_loose stop _ loose;
    ports = λ files told. loosely_loose stop _ loose;
    only = loose_only stop loose;
  }

  -- the program stops the work
  pub order_program : (stop : Stop) → IsProgramStop stop → ((file : Option (List ℕ)) → old.told f.program ≡ Some file → AnswersFile file (Err stop)) → InOrder {A = A} f old (Err stop)
  order_program stop only gives = record {
    once = λ files told. loosely_as stop _ _ (alone_once (files f.program) (Err stop)) (gives (files f.program) told.0);
    program = λ files told. loosely_as stop _ _ (λ is. inl is.0) (gives (files f.program) told.0);
    entries = λ files told. loosely_as stop _ _ (λ is. inl (inl is.0)) (gives (files f.program) told.0);
    ports = λ files told. loosely_as stop _ _ (λ is. inl (inl (inl is.0))) (gives (files f.program) told.0);
    only = program_only stop only;
  }

  module _ (s : Syntax14) (answers : (file : Option (List ℕ)) → old.told f.program ≡ Some file → AnswersFile file (Ok s)) where
    taken : (file : Option (List ℕ)) → old.told f.program ≡ Some file → ProgramIs file (Ok s)
    taken file told = (answers file told).0

    once_of : (files : List ℕ → Option (List ℕ)) → old.told f.program ≡ Some (files f.program) → ComesOnce (files f.program)
    once_of files told = alone_once (files f.program) (Ok s) (answers (files f.program) told)

    -- the entries stop it
    pub order_entries : (stop : Stop) → IsEntriesStop stop → ((files : List ℕ → Option (List ℕ)) → old.told f.entries ≡ Some (files f.entries) → Loosely stop (filled f files s ≡ Err stop)) → InOrder {A = A} f old (Err stop)
    order_entries stop only gives = record {
      once = λ files told. inr (inr (once_of files told.0));
      program = λ files told. inr (inr (inr ((s, taken (files f.program) told.0), not_program stop (behind_program stop only))));
      entries = λ files told. loosely_as stop _ _ (λ is. inl (inr (s, taken (files f.program) told.0, is))) (gives files told.1.0);
      ports = λ files told. loosely_as stop _ _ (λ is. inl (inl (inr (s, taken (files f.program) told.0, is)))) (gives files told.1.0);
      only = entries_only stop only;
    }

    module _ (e : Entries) (fill : (files : List ℕ → Option (List ℕ)) → old.told f.entries ≡ Some (files f.entries) → filled f files s ≡ Ok e) where
      has : (files : List ℕ → Option (List ℕ)) → old.told f.program ≡ Some (files f.program) → old.told f.entries ≡ Some (files f.entries) → HasProgram f files s e
      has files program entries = (taken (files f.program) program, fill files entries)

      -- the ports stop it
      pub order_ports : (stop : Stop) → IsPortsStop stop → ((files : List ℕ → Option (List ℕ)) → Tells (option_to_list f.ports) old files → Loosely stop (ports_end files f.ports ≡ Err stop)) → InOrder {A = A} f old (Err stop)
      order_ports stop only gives = record {
        once = λ files told. inr (inr (once_of files told.0));
        program = λ files told. inr (inr (inr ((s, taken (files f.program) told.0), not_program stop (omega (arith, behind_entries stop only)))));
        entries = λ files told. inr (inr (inr ((s, e, has files told.0 told.1.0), not_entries stop (behind_entries stop only))));
        ports = λ files told. loosely_as stop _ _ (λ is. inl (inr (s, e, has files told.0 told.1.0, is))) (gives files told.1.1);
        only = ports_only stop only;
      }

      -- nothing stops it before it writes
      pub order_begun : (done : A) (ports : List ℕ) → ((files : List ℕ → Option (List ℕ)) → Tells (option_to_list f.ports) old files → ports_end files f.ports ≡ Ok ports) → InOrder {A = A} f old (Ok done)
      order_begun done ports gives = record {
        once = λ files told. once_of files told.0;
        program = λ files told. (s, taken (files f.program) told.0);
        entries = λ files told. (s, e, has files told.0 told.1.0);
        ports = λ files told. (s, e, ports, (has files told.0 told.1.0, gives files told.1.1));
        only = tt;
      }

-- what stopped the first part of the work stops all of it
pub order_stopped : (A B : Type 0) (f : Run14Files) (old : DeskView) (stop : Stop) → InOrder {A = A} f old (Err stop) → InOrder {A = B} f old (Err stop)
order_stopped A B f old stop order = record { once = order.once; program = order.program; entries = order.entries; ports = order.ports; only = order.only }

-- the capture is run behind it
pub order_run : (A : Type 0) (f : Run14Files) (old : DeskView) (begun : A) → InOrder {A = A} f old (Ok begun) → (result : Result (Vec ℕ Global) Stop) → IfErr result (λ e. StopsRun e) → InOrder f old (line_view result)
order_run A f old begun order (Ok line) stops = record { once = order.once; program = order.program; entries = order.entries; ports = order.ports; only = tt }
order_run A f old begun order (Err stop) stops = record {
  once = λ files told. inr (inr (order.once files told));
  program = λ files told. inr (inr (inr (order.program files told, not_program stop (omega (arith, behind_ports stop stops)))));
  entries = λ files told. inr (inr (inr (order.entries files told, not_entries stop (omega (arith, behind_ports stop stops)))));
  ports = λ files told. inr (inr (inr (order.ports files told, not_ports stop (behind_ports stop stops))));
  only = inr stops;
}

-- what is known of the program's file then is known at the end
pub once_run : (result : Result (Vec ℕ Global) Stop) (P : Type 0) → P → OnOk (line_view result) P
once_run (Ok line) P holds = holds
once_run (Err stop) P holds = tt

-- behind it the work stops at none of these files
pub run_late : (result : Result (Vec ℕ Global) Stop) → IfErr result (λ e. StopsRun e) → (stop : Stop) → line_view result ≡ Err stop → OfPorts stop → ⊥
run_late (Ok line) stops stop is own = cc is
run_late (Err other) stops stop is own =
    let same : other ≡ stop = cc is in
    not_ports stop (behind_ports stop (subst (λ (s : Stop). StopsRun s) same stops)) own

pub loose_late : (stop other : Stop) → (stop ≡ Fault) ⊎ (stop ≡ Memory) → ◌≡◌ {A = Result (List ℕ) Stop} (Err stop) (Err other) → OfPorts other → ⊥
loose_late stop other (inl is) here own = let same : other ≡ Fault = cc (is, here) in not_ports other (behind_ports other (inl same)) own
loose_late stop other (inr is) here own = let same : other ≡ Memory = cc (is, here) in not_ports other (behind_ports other (inr (inl same))) own

module _ (f : Run14Files) (old new : DeskView) where
  -- nothing was written
  pub keeps_all : (end : Result (List ℕ) Stop) → AllKept (run14_outputs f) old new → KeepsInOrder f old new end
  keeps_all end kept = record {
    own = λ stop is own. kept;
    program = λ files told stop stops. kept;
    entries = λ files told stop stops. kept;
    ports = λ files told stop stops. kept;
  }

  -- the files that are read first were taken
  pub keeps_begun : (A : Type 0) (begun : A) → InOrder {A = A} f old (Ok begun) → (end : Result (List ℕ) Stop) → ((stop : Stop) → end ≡ Err stop → OfPorts stop → ⊥) → KeepsInOrder f old new end
  keeps_begun A begun order end late = record {
    own = λ stop is own. absurd (late stop is own);
    program = λ files told stop stops. let taken = order.program files told in absurd (taken_goes_on (files f.program) (order.once files told) taken.0 stop taken.1 stops);
    entries = λ files told stop stops. absurd (entries_not f files (order.once files (told.0, tt)) (order.entries files told) stop stops);
    ports = λ files told stop stops. let taken = order.ports files told in absurd (begins_not f files (order.once files (told.0, tt)) taken.0 taken.1 taken.2 stop taken.3 stops);
  }
