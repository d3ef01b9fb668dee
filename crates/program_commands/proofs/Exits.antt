-- The work of a command that reads a program, at each of its exits.
use Rattle.std.proofs.Common.{◌≡◌, inl, inr, ℕ, List, [], ◌∷◌, Option, Some, Result, Ok, Err, refl, sym, ap, subst}
use Rattle.p4x_io.specs.Desk.{DeskView, Rose, Moves}
use Rattle.p414_syntax.specs.declared.syntax.Syntax14.{Syntax14}
use Rattle.file_work.specs.declared.stop.Stop.{Stop}
use Rattle.file_work.specs.declared.stop.Stop.TheVariants.{Memory}
use Rattle.file_work.specs.Works.{Held, Leaves, Tells, Works, Blames}
use Rattle.program_commands.specs.Commands.{ProgramDue, EndsAs, EndsByFile, printed}
use Rattle.program_commands.specs.Programs.{ProgramIs}
use Rattle.program_commands.specs.Answers.{AnswersFile}

-- an answer that blames nothing
done_blames : (line : List ℕ) (cause : Type 0) → Blames {A = List ℕ} (Ok line) cause
done_blames line cause = record { fault = λ is. absurd (cc is); usage = λ is. cc is }

memory_blames : (cause : Type 0) → Blames {A = List ℕ} (Err Memory) cause
memory_blames cause = record { fault = λ is. absurd (cc is); usage = λ is. cc is }

module _ (Prints : Syntax14 → List ℕ → Type 0) (program : List ℕ) (old new : DeskView) (moves : Moves [] old new) where
  works_by : (end : Result (List ℕ) Stop) → Blames end (Rose (old.reads program) (new.reads program)) → ((files : Held) → Tells (program ∷ []) old files → Leaves [] (ProgramDue Prints program files) end old new)
      → Works (program ∷ []) [] (ProgramDue Prints program) old new end
  works_by end blames leaves = record {
    moves = moves;
    cause = record { fault = λ is. inl (inl (blames.fault is)); usage = blames.usage };
    leaves = leaves;
  }

  -- the program stops the work
  left_stopped : (files : Held) (stop : Stop) → AnswersFile (files program) (Err stop) → Leaves [] (ProgramDue Prints program files) (Err stop) old new
  left_stopped files stop (inl fault) = inr (inl (inl (ap (λ (s : Stop). Err s) fault), tt))
  left_stopped files stop (inr (inl memory)) = inr (inl (inr (ap (λ (s : Stop). Err s) memory), tt))
  left_stopped files stop (inr (inr is)) = inl (printed (Err stop), inl (stop, is.0, refl), refl, tt)

  pub works_stopped : (stop : Stop) → Blames {A = List ℕ} (Err stop) (Rose (old.reads program) (new.reads program))
      → ((file : Option (List ℕ)) → old.told program ≡ Some file → AnswersFile file (Err stop)) → Works (program ∷ []) [] (ProgramDue Prints program) old new (Err stop)
  works_stopped stop blames gives = works_by (Err stop) blames (λ files told. left_stopped files stop (gives (files program) told.0))

  -- want of memory stops it behind the program
  pub works_memory : Works (program ∷ []) [] (ProgramDue Prints program) old new (Err Memory)
  works_memory = works_by (Err Memory) (memory_blames _) (λ files told. inr (inl (inr refl, tt)))

  -- it is done
  pub works_done : (s : Syntax14) (line : List ℕ) → Prints s line → ((file : Option (List ℕ)) → old.told program ≡ Some file → AnswersFile file (Ok s)) → Works (program ∷ []) [] (ProgramDue Prints program) old new (Ok line)
  works_done s line prints gives =
      works_by (Ok line) (done_blames line _) (λ files told. inl (printed (Ok line), inr (s, line, (gives (files program) told.0).0, prints, refl), refl, tt))

module _ (Prints : Syntax14 → List ℕ → Type 0) (program : List ℕ) (files : Held) where
  pub ends_stopped : (stop : Stop) → AnswersFile (files program) (Err stop) → EndsByFile Prints program files (Err stop)
  ends_stopped stop (inl fault) = inl (inl (ap (λ (s : Stop). Err s) fault))
  ends_stopped stop (inr (inl memory)) = inl (inr (ap (λ (s : Stop). Err s) memory))
  ends_stopped stop (inr (inr is)) = inr alone
    where
      alone : (r : Result Syntax14 Stop) → ProgramIs (files program) r → EndsAs Prints r (Err stop)
      alone (Ok s) here = let never : Ok s ≡ Err stop = is.1 (Ok s) here in absurd (cc never)
      alone (Err other) here = let same : other ≡ stop = cc (is.1 (Err other) here) in ap (λ (s : Stop). Err s) (sym same)

  pub ends_done : (s : Syntax14) (line : List ℕ) → Prints s line → AnswersFile (files program) (Ok s) → EndsByFile Prints program files (Ok line)
  ends_done s line prints is = inr alone
    where
      alone : (r : Result Syntax14 Stop) → ProgramIs (files program) r → EndsAs Prints r (Ok line)
      alone (Ok t) here = let same : t ≡ s = cc (is.1 (Ok t) here) in (line, subst (λ (q : Syntax14). Prints q line) (sym same) prints, refl)
      alone (Err other) here = let never : Err other ≡ Ok s = is.1 (Err other) here in absurd (cc never)
