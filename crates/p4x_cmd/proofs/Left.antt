-- What `carry` leaves at each of its exits.
use Rattle.std.proofs.Common.{◌≡◌, inl, inr, ℕ, List, [], Option, Some, Result, Err, refl, ap}
use Rattle.p416_syntax.specs.declared.program.Syntax16.{Syntax16}
use Rattle.p4x_io.specs.Desk.{DeskView, put}
use Rattle.file_work.specs.declared.stop.Stop.{Stop}
use Rattle.file_work.specs.declared.stop.Stop.TheVariants.{Fault}
use Rattle.file_work.specs.Phases.{Loosely}
use Rattle.file_work.specs.Works.{IsPart, Leaves}
use Rattle.file_work.proofs.Files.{part_whole, part_empty, put_whole, put_part}
use Rattle.command_words.specs.Words.{CarryFiles, carry_outputs}
use Rattle.p414_one_table.specs.declared.program.OneTable14.{OneTable14}
use Rattle.run_stream.specs.Captured.{Reports, DeliversLine}
use Rattle.p4x_cmd.specs.Carry.{CarryDue, StopsBefore, Begins, Written, capture_reports, carried_word, untouched, delivered}

module _ (f : CarryFiles) (files : List ℕ → Option (List ℕ)) (old new : DeskView) where
  -- nothing was touched
  pub left_early : (stop : Stop) → Loosely stop (StopsBefore f files stop) → new.told f.text ≡ old.told f.text → new.told f.sent ≡ old.told f.sent → new.told f.report ≡ old.told f.report
      → Leaves (carry_outputs f) (CarryDue f files) (Err stop) old new
  left_early stop (inl fault) text sent report = inr (inl (inl (ap (λ x. Err x) fault), (text, (sent, (report, tt)))))
  left_early stop (inr (inl memory)) text sent report = inr (inl (inr (ap (λ x. Err x) memory), (text, (sent, (report, tt)))))
  left_early stop (inr (inr is)) text sent report = inl (untouched f stop, inl (stop, is, refl), refl, (text, (sent, (report, tt))))

  -- a fault while the files were made or the text was appended
  part_begun : (text : List ℕ) (r : Reports) → CarryDue f files (delivered f text r)
      → IsPart (old.told f.text) (new.told f.text) (Some text) → IsPart (old.told f.sent) (new.told f.sent) (Some []) → IsPart (old.told f.report) (new.told f.report) (Some [])
      → Leaves (carry_outputs f) (CarryDue f files) (Err Fault) old new
  part_begun text r due wrote sent report = inr (inr (inl refl, (delivered f text r, due, (wrote, (part_empty _ _ r.sent sent, (part_empty _ _ r.report report, tt))))))

  -- the text was written, and then the capture was run
  run_whole : (text : List ℕ) (r : Reports) → CarryDue f files (delivered f text r) → (end : Result (List ℕ) Stop) (mid : DeskView)
      → new.told f.text ≡ put (old.told f.text) text → mid.told f.sent ≡ put (old.told f.sent) [] → mid.told f.report ≡ put (old.told f.report) []
      → DeliversLine carried_word r end (mid.told f.sent) (new.told f.sent) (mid.told f.report) (new.told f.report)
      → Leaves (carry_outputs f) (CarryDue f files) end old new
  run_whole text r due end mid wrote sent report (inl d) =
      inl (delivered f text r, due, d.0, (wrote, (put_whole _ _ _ r.sent sent d.1, (put_whole _ _ _ r.report report d.2, tt))))
  run_whole text r due end mid wrote sent report (inr d) =
      inr (inr (d.0, (delivered f text r, due, (part_whole _ _ text wrote, (put_part _ _ _ r.sent sent d.1, (put_part _ _ _ r.report report d.2, tt))))))

  module _ (p : OneTable14) (ports text : List ℕ) (s : Syntax16) (begins : Begins f files p ports) (written : Written p text s) where
    -- the due of a text that was written
    due_of : (r : Reports) → r ≡ capture_reports s f.passes ports (files f.capture) → CarryDue f files (delivered f text r)
    due_of r is = inr (p, ports, text, s, begins, written, ap (delivered f text) is)

    pub left_begin : IsPart (old.told f.text) (new.told f.text) (Some text) → IsPart (old.told f.sent) (new.told f.sent) (Some []) → IsPart (old.told f.report) (new.told f.report) (Some [])
        → Leaves (carry_outputs f) (CarryDue f files) (Err Fault) old new
    left_begin = part_begun text (capture_reports s f.passes ports (files f.capture)) (due_of _ refl)

    pub left_run : (end : Result (List ℕ) Stop) (mid : DeskView)
        → new.told f.text ≡ put (old.told f.text) text → mid.told f.sent ≡ put (old.told f.sent) [] → mid.told f.report ≡ put (old.told f.report) []
        → DeliversLine carried_word (capture_reports s f.passes ports (files f.capture)) end (mid.told f.sent) (new.told f.sent) (mid.told f.report) (new.told f.report)
        → Leaves (carry_outputs f) (CarryDue f files) end old new
    left_run = run_whole text (capture_reports s f.passes ports (files f.capture)) (due_of _ refl)
