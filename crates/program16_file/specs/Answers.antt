-- What the reading of a program's file answers (this project's own).
use Rattle.std.specs.Prelude.{◌≡◌, List, ℕ, Option, Result, Ok, Err}
use Rattle.p416_syntax.specs.declared.program.Syntax16.{Syntax16}
use Rattle.file_work.specs.declared.stop.Stop.{Stop}
use Rattle.file_work.specs.Phases.{Loosely}
use Rattle.program16_file.specs.Programs.{ProgramIs}

-- this is what it comes to, and nothing else is
abbrev pub IsAlone : (Result Syntax16 Stop → Type 0) → Result Syntax16 Stop → Type 0
IsAlone P answer = P answer × ((other : Result Syntax16 Stop) → P other → other ≡ answer)

-- the one thing that the file comes to; or a fault or want of memory
abbrev pub AnswersFile : Option (List ℕ) → Result Syntax16 Stop → Type 0
AnswersFile file (Ok s) = IsAlone (ProgramIs file) (Ok s)
AnswersFile file (Err stop) = Loosely stop (IsAlone (ProgramIs file) (Err stop))

-- the file comes to one thing only
abbrev pub ComesOnce : Option (List ℕ) → Type 0
ComesOnce file = (a b : Result Syntax16 Stop) → ProgramIs file a → ProgramIs file b → a ≡ b
