-- How the work of `carry` ends by the files that it reads first, at each of its exits.
use Rattle.std.proofs.Common.{◌≡◌, ◌⊎◌, inl, inr, ℕ, ◌≤◌, List, Option, Some, None, option_to_list, Result, Ok, Err, IfErr, OnOk, Vec, ap, subst, arith}
use Rattle.std.specs.declared.alloc.Global.{Global}
use Rattle.p4x_io.specs.Desk.{DeskView}
use Rattle.command_words.specs.Words.{CarryFiles, carry_outputs}
use Rattle.file_work.specs.declared.stop.Stop.{Stop}
use Rattle.file_work.specs.declared.stop.Stop.TheVariants.{Fault, Program, Unfit, Memory}
use Rattle.file_work.specs.Phases.{Loosely, line_view}
use Rattle.file_work.specs.Works.{Tells, AllKept}
use Rattle.file_work.proofs.Order.{loosely_as, loosely_loose}
use Rattle.run_stream.specs.Captured.{StopsRun}
use Rattle.p414_one_table.specs.declared.program.OneTable14.{OneTable14}
use Rattle.p4x_cmd.specs.Carry.{ProgramIs, ComesOnce, HasProgram, entries_stop, not_taken, OfProgram, OfEntries, OfPorts, InOrder, KeepsInOrder}
use Rattle.p4x_cmd.specs.internal.Phases.{AnswersFile}
use Rattle.command_inputs.specs.PortsFile.{ports_end, IsPortsStop}
use Rattle.program_commands.specs.Programs.{IsProgramStop}
use Rattle.p4x_cmd.proofs.Judging.{entries_not}
use Rattle.p4x_cmd.proofs.Only.{loose_only, program_only, entries_only, ports_only}
use Rattle.p4x_cmd.proofs.Programs.{rank, rank_program, alone_once, taken_goes_on}
use Rattle.p4x_cmd.proofs.Statuses.{begins_not}

-- what comes behind the program, behind the entries and behind the ports

rank_entries : (stop : Stop) → OfEntries stop → rank stop ≤ 2
rank_entries stop (inl is) = let here : rank stop ≡ 1 = rank_program stop is in omega arith
rank_entries stop (inr (fault, is)) = let here : rank stop ≡ 2 = ap rank is in omega arith

rank_ports : (stop : Stop) → OfPorts stop → rank stop ≤ 3
rank_ports stop (inl is) = let here : rank stop ≤ 2 = rank_entries stop is in omega arith
rank_ports stop (inr is) = let here : rank stop ≡ 3 = ap rank is in omega arith

behind_program : (stop : Stop) → (stop ≡ Fault) ⊎ (stop ≡ Unfit not_taken) → 2 ≤ rank stop
behind_program stop (inl is) = let here : rank stop ≡ 4 = ap rank is in omega arith
behind_program stop (inr is) = let here : rank stop ≡ 2 = ap rank is in omega arith

behind_entries : (stop : Stop) → IsPortsStop stop → 3 ≤ rank stop
behind_entries stop (inl is) = let here : rank stop ≡ 4 = ap rank is in omega arith
behind_entries stop (inr (inl is)) = let here : rank stop ≡ 4 = ap rank is in omega arith
behind_entries stop (inr (inr (inl (fault, is)))) = let here : rank stop ≡ 4 = ap rank is in omega arith
behind_entries stop (inr (inr (inr is))) = let here : rank stop ≡ 3 = ap rank is in omega arith

behind_ports : (stop : Stop) → StopsRun stop → 4 ≤ rank stop
behind_ports stop (inl is) = let here : rank stop ≡ 4 = ap rank is in omega arith
behind_ports stop (inr (inl is)) = let here : rank stop ≡ 4 = ap rank is in omega arith
behind_ports stop (inr (inr (inl (fault, is)))) = let here : rank stop ≡ 4 = ap rank is in omega arith
behind_ports stop (inr (inr (inr is))) = let here : rank stop ≡ 4 = ap rank is in omega arith

not_program : (stop : Stop) → 2 ≤ rank stop → OfProgram stop → ⊥
not_program stop behind is = let here : rank stop ≡ 1 = rank_program stop is in omega arith

not_entries : (stop : Stop) → 3 ≤ rank stop → OfEntries stop → ⊥
not_entries stop behind is = let here : rank stop ≤ 2 = rank_entries stop is in omega arith

not_ports : (stop : Stop) → 4 ≤ rank stop → OfPorts stop → ⊥
not_ports stop behind is = let here : rank stop ≤ 3 = rank_ports stop is in omega arith

module _ (A : Type 0) (f : CarryFiles) (old : DeskView) where
  -- a fault or want of memory may come anywhere
  pub order_loose : (stop : Stop) → (stop ≡ Fault) ⊎ (stop ≡ Memory) → InOrder {A = A} f old (Err stop)
  order_loose stop loose = record {
    once = λ files told. loosely_loose stop _ loose;
    program = λ files told. loosely_loose stop _ loose;
    entries = λ files told. loosely_loose stop _ loose;
    ports = λ files told. loosely_loose stop _ loose;
    only = loose_only stop loose;
  }

  -- the program stops the work
  pub order_program : (stop : Stop) → (stop ≡ Program) ⊎ IsProgramStop stop → ((file : Option (List ℕ)) → old.told f.program ≡ Some file → AnswersFile file (Err stop)) → InOrder {A = A} f old (Err stop)
  order_program stop only gives = record {
    once = λ files told. loosely_as stop _ _ (alone_once (files f.program) (Err stop)) (gives (files f.program) told.0);
    program = λ files told. loosely_as stop _ _ (λ is. inl is.0) (gives (files f.program) told.0);
    entries = λ files told. loosely_as stop _ _ (λ is. inl (inl is.0)) (gives (files f.program) told.0);
    ports = λ files told. loosely_as stop _ _ (λ is. inl (inl is.0)) (gives (files f.program) told.0);
    only = program_only stop only;
  }

  module _ (p : OneTable14) (answers : (file : Option (List ℕ)) → old.told f.program ≡ Some file → AnswersFile file (Ok p)) where
    taken : (file : Option (List ℕ)) → old.told f.program ≡ Some file → ProgramIs file (Ok p)
    taken file told = (answers file told).0

    once_of : (files : List ℕ → Option (List ℕ)) → old.told f.program ≡ Some (files f.program) → ComesOnce (files f.program)
    once_of files told = alone_once (files f.program) (Ok p) (answers (files f.program) told)

    -- the entries stop it
    pub order_entries : (stop : Stop) → (stop ≡ Fault) ⊎ (stop ≡ Unfit not_taken) → ((file : Option (List ℕ)) → old.told f.entries ≡ Some file → Loosely stop (entries_stop file ≡ Some stop)) → InOrder {A = A} f old (Err stop)
    order_entries stop only gives = record {
      once = λ files told. inr (inr (once_of files told.0));
      program = λ files told. inr (inr (inr ((p, taken (files f.program) told.0), not_program stop (behind_program stop only))));
      entries = λ files told. loosely_as stop _ _ (λ is. inl (inr (p, taken (files f.program) told.0, is))) (gives (files f.entries) told.1.0);
      ports = λ files told. loosely_as stop _ _ (λ is. inl (inr (inl (p, taken (files f.program) told.0, is)))) (gives (files f.entries) told.1.0);
      only = entries_only stop only;
    }

    module _ (empty : (file : Option (List ℕ)) → old.told f.entries ≡ Some file → entries_stop file ≡ None) where
      has : (files : List ℕ → Option (List ℕ)) → old.told f.program ≡ Some (files f.program) → old.told f.entries ≡ Some (files f.entries) → HasProgram f files p
      has files program entries = (taken (files f.program) program, empty (files f.entries) entries)

      -- the ports stop it
      pub order_ports : (stop : Stop) → IsPortsStop stop → ((files : List ℕ → Option (List ℕ)) → Tells (option_to_list f.ports) old files → Loosely stop (ports_end files f.ports ≡ Err stop)) → InOrder {A = A} f old (Err stop)
      order_ports stop only gives = record {
        once = λ files told. inr (inr (once_of files told.0));
        program = λ files told. inr (inr (inr ((p, taken (files f.program) told.0), not_program stop (omega (arith, behind_entries stop only)))));
        entries = λ files told. inr (inr (inr ((p, has files told.0 told.1.0), not_entries stop (behind_entries stop only))));
        ports = λ files told. loosely_as stop _ _ (λ is. inl (inr (inr (p, has files told.0 told.1.0, is)))) (gives files told.1.1);
        only = ports_only stop only;
      }

      -- nothing stops it before it writes
      pub order_begun : (done : A) (ports : List ℕ) → ((files : List ℕ → Option (List ℕ)) → Tells (option_to_list f.ports) old files → ports_end files f.ports ≡ Ok ports) → InOrder {A = A} f old (Ok done)
      order_begun done ports gives = record {
        once = λ files told. once_of files told.0;
        program = λ files told. (p, taken (files f.program) told.0);
        entries = λ files told. (p, has files told.0 told.1.0);
        ports = λ files told. (p, ports, (has files told.0 told.1.0, gives files told.1.1));
        only = tt;
      }

-- what stopped the first part of the work stops all of it
pub order_stopped : (A B : Type 0) (f : CarryFiles) (old : DeskView) (stop : Stop) → InOrder {A = A} f old (Err stop) → InOrder {A = B} f old (Err stop)
order_stopped A B f old stop order = record { once = order.once; program = order.program; entries = order.entries; ports = order.ports; only = order.only }

-- the capture is run behind it
pub order_run : (A : Type 0) (f : CarryFiles) (old : DeskView) (begun : A) → InOrder {A = A} f old (Ok begun) → (result : Result (Vec ℕ Global) Stop) → IfErr result (λ e. StopsRun e) → InOrder f old (line_view result)
order_run A f old begun order (Ok line) stops = record { once = order.once; program = order.program; entries = order.entries; ports = order.ports; only = tt }
order_run A f old begun order (Err stop) stops = record {
  once = λ files told. inr (inr (order.once files told));
  program = λ files told. inr (inr (inr (order.program files told, not_program stop (omega (arith, behind_ports stop stops)))));
  entries = λ files told. inr (inr (inr (order.entries files told, not_entries stop (omega (arith, behind_ports stop stops)))));
  ports = λ files told. inr (inr (inr (order.ports files told, not_ports stop (behind_ports stop stops))));
  only = inr stops;
}

-- what is known of the program's file then is known at the end
pub once_run : (result : Result (Vec ℕ Global) Stop) (P : Type 0) → P → OnOk (line_view result) P
once_run (Ok line) P holds = holds
once_run (Err stop) P holds = tt

-- behind it the work stops at none of these files
pub run_late : (result : Result (Vec ℕ Global) Stop) → IfErr result (λ e. StopsRun e) → (stop : Stop) → line_view result ≡ Err stop → OfPorts stop → ⊥
run_late (Ok line) stops stop is own = cc is
run_late (Err other) stops stop is own =
    let same : other ≡ stop = cc is in
    not_ports stop (behind_ports stop (subst (λ (s : Stop). StopsRun s) same stops)) own

pub fault_late : (stop : Stop) → ◌≡◌ {A = Result (List ℕ) Stop} (Err Fault) (Err stop) → OfPorts stop → ⊥
fault_late stop is own =
    let same : stop ≡ Fault = cc is in
    not_ports stop (behind_ports stop (inl same)) own

module _ (f : CarryFiles) (old new : DeskView) where
  -- nothing was written
  pub keeps_all : (end : Result (List ℕ) Stop) → AllKept (carry_outputs f) old new → KeepsInOrder f old new end
  keeps_all end kept = record {
    own = λ stop is own. kept;
    program = λ files told stop stops. kept;
    entries = λ files told stop stops. kept;
    ports = λ files told stop stops. kept;
  }

  -- the files that are read first were taken
  pub keeps_begun : (A : Type 0) (begun : A) → InOrder {A = A} f old (Ok begun) → (end : Result (List ℕ) Stop) → ((stop : Stop) → end ≡ Err stop → OfPorts stop → ⊥) → KeepsInOrder f old new end
  keeps_begun A begun order end late = record {
    own = λ stop is own. absurd (late stop is own);
    program = λ files told stop stops. let taken = order.program files told in absurd (taken_goes_on (files f.program) (order.once files told) taken.0 stop taken.1 stops);
    entries = λ files told stop stops. absurd (entries_not f files (order.once files (told.0, tt)) (order.entries files told) stop stops);
    ports = λ files told stop stops. let taken = order.ports files told in absurd (begins_not f files (order.once files (told.0, tt)) taken.0 taken.1 stop taken.2 stops);
  }
