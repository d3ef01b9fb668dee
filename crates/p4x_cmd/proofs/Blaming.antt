-- What a fault of the run over the capture is blamed on.
use Rattle.std.proofs.Common.{◌⊎◌, inl, inr, ℕ, ◌≤◌, List, [], Result, arith}
use Rattle.p4x_io.specs.Desk.{DeskView, Rose, Moves}
use Rattle.p4x_io.proofs.Desks.{rose_since}
use Rattle.command_words.specs.Words.{CarryFiles, carry_inputs, carry_outputs}
use Rattle.file_work.specs.declared.stop.Stop.{Stop}
use Rattle.file_work.specs.Works.{Blames, DeskRose}

-- an own count that rose behind the calls in front
pub run_blames : {A : Type 0} (f : CarryFiles) (old read begun new : DeskView) (outs : List (List ℕ)) (result : Result A Stop) → Moves [] old read → Moves outs read begun
    → Blames result (Rose (begun.reads f.capture) (new.reads f.capture) ⊎ Rose (begun.writes f.sent) (new.writes f.sent) ⊎ Rose (begun.writes f.report) (new.writes f.report))
    → Blames result (DeskRose (carry_inputs f) (carry_outputs f) old new)
run_blames f old read begun new outs result first second blames = record { fault = λ is. since (blames.fault is); usage = blames.usage }
  where
    reads : (name : List ℕ) → old.reads name ≤ begun.reads name
    reads name = omega (arith, first.reads name, second.reads name)

    writes : (name : List ℕ) → old.writes name ≤ begun.writes name
    writes name = omega (arith, first.writes name, second.writes name)

    since : Rose (begun.reads f.capture) (new.reads f.capture) ⊎ Rose (begun.writes f.sent) (new.writes f.sent) ⊎ Rose (begun.writes f.report) (new.writes f.report)
        → DeskRose (carry_inputs f) (carry_outputs f) old new
    since (inl rose) = inl (inr (inr (inl (rose_since _ _ _ (reads f.capture) rose))))
    since (inr (inl rose)) = inr (inr (inl (rose_since _ _ _ (writes f.sent) rose)))
    since (inr (inr rose)) = inr (inr (inr (inl (rose_since _ _ _ (writes f.report) rose))))
