-- What `run16` leaves at each of its exits.
use Rattle.std.proofs.Common.{◌≡◌, ◌⊎◌, inl, inr, ℕ, List, [], Option, Some, Result, Err, refl, ap}
use Rattle.p4x_io.specs.Desk.{DeskView, put}
use Rattle.match_core.specs.declared.entries.Entries.{Entries}
use Rattle.command_words.specs.Words.{Run16Files, run16_outputs}
use Rattle.file_work.specs.declared.stop.Stop.{Stop}
use Rattle.file_work.specs.declared.stop.Stop.TheVariants.{Fault, Memory}
use Rattle.file_work.specs.Phases.{Loosely}
use Rattle.file_work.specs.Works.{IsPart, Leaves}
use Rattle.file_work.proofs.Files.{part_empty, put_whole, put_part}
use Rattle.run_stream.specs.Captured.{Reports, DeliversLine}
use Rattle.p416_syntax.specs.declared.program.Syntax16.{Syntax16}
use Rattle.run16_cmd.specs.Run16.{Run16Due, StopsBefore, Begins, capture_reports, setting_for, ran_word, untouched, delivered}

module _ (f : Run16Files) (files : List ℕ → Option (List ℕ)) (old new : DeskView) where
  -- nothing was touched
  pub left_early : (stop : Stop) → Loosely stop (StopsBefore f files stop) → new.told f.sent ≡ old.told f.sent → new.told f.report ≡ old.told f.report
      → Leaves (run16_outputs f) (Run16Due f files) (Err stop) old new
  left_early stop (inl fault) sent report = inr (inl (inl (ap (λ x. Err x) fault), (sent, (report, tt))))
  left_early stop (inr (inl memory)) sent report = inr (inl (inr (ap (λ x. Err x) memory), (sent, (report, tt))))
  left_early stop (inr (inr is)) sent report = inl (untouched f stop, inl (stop, is, refl), refl, (sent, (report, tt)))

  module _ (s : Syntax16) (e : Entries) (ports : List ℕ) (begins : Begins f files s e ports) where
    abbrev reports : Reports
    reports = capture_reports (setting_for s e) f.passes ports (files f.capture)

    -- the due of the program's run
    due_of : Run16Due f files (delivered f reports)
    due_of = inr (s, e, ports, begins, refl)

    -- a fault or want of memory while the files were made
    pub left_begin : (stop : Stop) → (stop ≡ Fault) ⊎ (stop ≡ Memory) → IsPart (old.told f.sent) (new.told f.sent) (Some []) → IsPart (old.told f.report) (new.told f.report) (Some [])
        → Leaves (run16_outputs f) (Run16Due f files) (Err stop) old new
    left_begin stop (inl fault) sent report = inr (inr (inl (ap (λ y. Err y) fault), (delivered f reports, due_of, (part_empty _ _ reports.sent sent, (part_empty _ _ reports.report report, tt)))))
    left_begin stop (inr memory) sent report = inr (inr (inr (ap (λ y. Err y) memory), (delivered f reports, due_of, (part_empty _ _ reports.sent sent, (part_empty _ _ reports.report report, tt)))))

    -- the files were made, and then the capture was run
    pub left_run : (end : Result (List ℕ) Stop) (mid : DeskView) → mid.told f.sent ≡ put (old.told f.sent) [] → mid.told f.report ≡ put (old.told f.report) []
        → DeliversLine ran_word reports end (mid.told f.sent) (new.told f.sent) (mid.told f.report) (new.told f.report)
        → Leaves (run16_outputs f) (Run16Due f files) end old new
    left_run end mid sent report (inl d) =
        inl (delivered f reports, due_of, d.0, (put_whole _ _ _ reports.sent sent d.1, (put_whole _ _ _ reports.report report d.2, tt)))
    left_run end mid sent report (inr d) =
        inr (inr (d.0, (delivered f reports, due_of, (put_part _ _ _ reports.sent sent d.1, (put_part _ _ _ reports.report report d.2, tt)))))
