-- What a fault of the run over the capture is blamed on.
use Rattle.std.proofs.Common.{inl, inr, ℕ, List, [], Result}
use Rattle.p4x_io.specs.Desk.{DeskView, Moves}
use Rattle.p4x_io.proofs.Desks.{rose_since}
use Rattle.command_words.specs.Words.{Run16Files, run16_inputs, run16_outputs}
use Rattle.file_work.specs.declared.stop.Stop.{Stop}
use Rattle.file_work.specs.Works.{Blames, DeskRose}
use Rattle.run16_cmd.specs.internal.Beginning.{RunRose}

-- an own count that rose behind calls that only read
pub run_blames : {A : Type 0} (f : Run16Files) (old begun new : DeskView) (result : Result A Stop) → Moves [] old begun
    → Blames result (RunRose f begun new) → Blames result (DeskRose (run16_inputs f) (run16_outputs f) old new)
run_blames f old begun new result moves blames = record { fault = λ is. since (blames.fault is); usage = blames.usage }
  where
    since : RunRose f begun new → DeskRose (run16_inputs f) (run16_outputs f) old new
    since (inl rose) = inl (inr (inr (inl (rose_since _ _ _ (moves.reads f.capture) rose))))
    since (inr (inl rose)) = inr (inl (rose_since _ _ _ (moves.writes f.sent) rose))
    since (inr (inr rose)) = inr (inr (inl (rose_since _ _ _ (moves.writes f.report) rose)))

-- the same of the counts themselves, behind calls of which some write
pub run_since : {A : Type 0} (f : Run16Files) (old begun new : DeskView) (outs : List (List ℕ)) (result : Result A Stop) → Moves outs old begun → Blames result (RunRose f begun new) → Blames result (RunRose f old new)
run_since f old begun new outs result moves blames = record { fault = λ is. since (blames.fault is); usage = blames.usage }
  where
    since : RunRose f begun new → RunRose f old new
    since (inl rose) = inl (rose_since _ _ _ (moves.reads f.capture) rose)
    since (inr (inl rose)) = inr (inl (rose_since _ _ _ (moves.writes f.sent) rose))
    since (inr (inr rose)) = inr (inr (rose_since _ _ _ (moves.writes f.report) rose))
