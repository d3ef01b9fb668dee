-- What the command delivers, from what the run over the capture does.
use Rattle.std.proofs.Common.{◌≡◌, ℕ, List, Option, Result, ◌∙◌, ap, subst}
use Rattle.fabric.specs.Numbers.{IsBound}
use Rattle.file_work.specs.declared.stop.Stop.{Stop}
use Rattle.run_stream.specs.Captured.{Reports, DeliversLine, reports_over}
use Rattle.run_stream.specs.Runs.{run_of}
use Rattle.run_stream.proofs.Whole.{same_reports}
use Rattle.one_table_text.specs.declared.one_table.OneTable16.{OneTable16}
use Rattle.p4x_cmd.specs.Carry.{capture_reports, carry_lines, carried_word}
use Rattle.one_table_text.specs.Programs.{program16}
use Rattle.p4x_cmd.specs.internal.Plain.{own_outcome, no_store}
use Rattle.p4x_cmd.proofs.RunLaws.{run_of_is}

-- the run of a runner whose program is this one, under any bound on passes
own_reports : (q p : OneTable16) (passes : ℕ) → IsBound passes → q ≡ p → (ports : List ℕ) (file : Option (List ℕ)) → reports_over carry_lines (run_of (own_outcome q) no_store) ports file ≡ capture_reports (program16 p) passes ports file
own_reports q p passes bound is ports file =
    same_reports carry_lines _ _ (run_of_is q passes bound) ports file ∙ ap (λ (x : OneTable16). capture_reports (program16 x) passes ports file) is

pub delivers_own : (q p : OneTable16) (passes : ℕ) → IsBound passes → q ≡ p → (ports : List ℕ) (file : Option (List ℕ)) (end : Result (List ℕ) Stop) (sent sent' report report' : Option (Option (List ℕ)))
    → DeliversLine carried_word (reports_over carry_lines (run_of (own_outcome q) no_store) ports file) end sent sent' report report'
    → DeliversLine carried_word (capture_reports (program16 p) passes ports file) end sent sent' report report'
delivers_own q p passes bound is ports file end sent sent' report report' so =
    subst (λ (r : Reports). DeliversLine carried_word r end sent sent' report report') (own_reports q p passes bound is ports file) so
