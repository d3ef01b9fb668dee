-- The file of a P4_16 program as the cause of a status (this project's own).
use Rattle.std.specs.Prelude.{List, ℕ, Ok, Err}
use Rattle.p416_syntax.specs.declared.program.Syntax16.{Syntax16}
use Rattle.p4x_fault.specs.declared.Fault.{Fault as Refusal}
use Rattle.file_work.specs.declared.stop.Limited.TheVariants as limited
use Rattle.file_work.specs.declared.stop.Stop.TheVariants.{Text, Limit}
use Rattle.file_work.specs.Works.{Held}
use Rattle.program16_file.specs.Programs.{ProgramIs}

-- The program that a file holds is refused: it breaks an L rule, S1 or a T rule; or the file is over its limit; or it is
-- taken.
abbrev pub RefusesText : List ℕ → Held → Type 0
RefusesText text files = (fault : Refusal) × ProgramIs (files text) (Err (Text fault))

abbrev pub OverText : List ℕ → Held → Type 0
OverText text files = ProgramIs (files text) (Err (Limit limited.Text))

abbrev pub TakesText : List ℕ → Held → Type 0
TakesText text files = (s : Syntax16) × ProgramIs (files text) (Ok s)
