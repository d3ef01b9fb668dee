-- What `run14` leaves at each of its exits.
use Rattle.std.proofs.Common.{◌≡◌, ◌⊎◌, inl, inr, ℕ, List, [], Option, Some, Result, Err, refl, ap}
use Rattle.p4x_io.specs.Desk.{DeskView, put}
use Rattle.match_core.specs.declared.entries.Entries.{Entries}
use Rattle.command_words.specs.Words.{Run14Files, run14_outputs}
use Rattle.file_work.specs.declared.stop.Stop.{Stop}
use Rattle.file_work.specs.declared.stop.Stop.TheVariants.{Fault, Memory}
use Rattle.file_work.specs.Phases.{Loosely}
use Rattle.file_work.specs.Works.{IsPart, Leaves}
use Rattle.file_work.proofs.Files.{part_empty, put_whole, put_part}
use Rattle.run_stream.specs.Captured.{Reports, DeliversLine}
use Rattle.p414_syntax.specs.declared.syntax.Syntax14.{Syntax14}
use Rattle.p414_sem.specs.Expanded.{Expanded, IsExpanded}
use Rattle.run14_cmd.specs.Run14.{Run14Due, StopsBefore, Begins, capture_reports, setting_for, ran_word, untouched, delivered}

module _ (f : Run14Files) (files : List ℕ → Option (List ℕ)) (old new : DeskView) where
  -- nothing was touched
  pub left_early : (stop : Stop) → Loosely stop (StopsBefore f files stop) → new.told f.sent ≡ old.told f.sent → new.told f.report ≡ old.told f.report
      → Leaves (run14_outputs f) (Run14Due f files) (Err stop) old new
  left_early stop (inl fault) sent report = inr (inl (inl (ap (λ x. Err x) fault), (sent, (report, tt))))
  left_early stop (inr (inl memory)) sent report = inr (inl (inr (ap (λ x. Err x) memory), (sent, (report, tt))))
  left_early stop (inr (inr is)) sent report = inl (untouched f stop, inl (stop, is, refl), refl, (sent, (report, tt)))

  module _ (s : Syntax14) (e : Entries) (ports : List ℕ) (x : Expanded) (begins : Begins f files s e ports) (expands : IsExpanded s.decls x) where
    abbrev reports : Reports
    reports = capture_reports (setting_for f s e x) f.passes ports (files f.capture)

    -- the due of the program's run
    due_of : Run14Due f files (delivered f reports)
    due_of = inr (s, e, ports, x, begins, expands, refl)

    -- a fault or want of memory while the files were made
    pub left_begin : (stop : Stop) → (stop ≡ Fault) ⊎ (stop ≡ Memory) → IsPart (old.told f.sent) (new.told f.sent) (Some []) → IsPart (old.told f.report) (new.told f.report) (Some [])
        → Leaves (run14_outputs f) (Run14Due f files) (Err stop) old new
    left_begin stop (inl fault) sent report = inr (inr (inl (ap (λ y. Err y) fault), (delivered f reports, due_of, (part_empty _ _ reports.sent sent, (part_empty _ _ reports.report report, tt)))))
    left_begin stop (inr memory) sent report = inr (inr (inr (ap (λ y. Err y) memory), (delivered f reports, due_of, (part_empty _ _ reports.sent sent, (part_empty _ _ reports.report report, tt)))))

    -- the files were made, and then the capture was run
    pub left_run : (end : Result (List ℕ) Stop) (mid : DeskView) → mid.told f.sent ≡ put (old.told f.sent) [] → mid.told f.report ≡ put (old.told f.report) []
        → DeliversLine ran_word reports end (mid.told f.sent) (new.told f.sent) (mid.told f.report) (new.told f.report)
        → Leaves (run14_outputs f) (Run14Due f files) end old new
    left_run end mid sent report (inl d) =
        inl (delivered f reports, due_of, d.0, (put_whole _ _ _ reports.sent sent d.1, (put_whole _ _ _ reports.report report d.2, tt)))
    left_run end mid sent report (inr d) =
        inr (inr (d.0, (delivered f reports, due_of, (put_part _ _ _ reports.sent sent d.1, (put_part _ _ _ reports.report report d.2, tt)))))
