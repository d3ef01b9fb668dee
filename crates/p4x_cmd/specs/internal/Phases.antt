-- What the phases of `carry` answer (this project's own).
use Rattle.std.specs.Prelude.{◌≡◌, ℕ, List, Option, Result, Ok, Err}
use Rattle.p416_syntax.specs.declared.program.Syntax16.{Syntax16}
use Rattle.p416_reader.specs.Reading.{Reads16}
use Rattle.file_work.specs.declared.stop.Stop.{Stop}
use Rattle.file_work.specs.Phases.{Loosely}
use Rattle.p414_one_table.specs.declared.program.OneTable14.{OneTable14}
use Rattle.p4x_cmd.specs.Carry.{ProgramIs}

-- this is what the program's file comes to, and nothing else is
abbrev pub IsAlone : Option (List ℕ) → Result OneTable14 Stop → Type 0
IsAlone file answer = ProgramIs file answer × ((other : Result OneTable14 Stop) → ProgramIs file other → other ≡ answer)

-- the one thing that it comes to; or a fault or want of memory
abbrev pub AnswersFile : Option (List ℕ) → Result OneTable14 Stop → Type 0
AnswersFile file (Ok p) = IsAlone file (Ok p)
AnswersFile file (Err stop) = Loosely stop (IsAlone file (Err stop))

-- the text is that of this program of P4_16, and of no other
pub record IsTextOf (text : List ℕ) (s : Syntax16) : Type 0 where
  pub reads : Reads16 text s
  pub only : (other : Syntax16) → Reads16 text other → other ≡ s
