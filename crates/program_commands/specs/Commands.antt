-- The commands `check` and `order`: what is due for what the file of the program holds (this project's own).
use Rattle.std.specs.Prelude.{◌≡◌, ◌⊎◌, List, ℕ, [], Result, Ok, Err}
use Rattle.p414_syntax.specs.declared.syntax.Syntax14.{Syntax14}
use Rattle.p4x_fault.specs.declared.Fault.{Fault as Refusal}
use Rattle.file_work.specs.declared.stop.Limited.TheVariants as limited
use Rattle.file_work.specs.declared.stop.Stop.{Stop}
use Rattle.file_work.specs.declared.stop.Stop.TheVariants.{Judged, Limit}
use Rattle.file_work.specs.Works.{Held, Due, IsLoose}
use Rattle.program_commands.specs.Lines.{PrintsAccepted, PrintsOrder}
use Rattle.program_commands.specs.Programs.{ProgramIs}

-- no file is written
abbrev pub printed : Result (List ℕ) Stop → Due
printed end = record { outs = []; end = end }

-- What is due by the program's file: what stops the command there, or what is printed of the program that is taken.
abbrev pub ProgramDue : (Syntax14 → List ℕ → Type 0) → List ℕ → Held → Due → Type 0
ProgramDue Prints program files d =
    ((stop : Stop) × ProgramIs (files program) (Err stop) × (d ≡ printed (Err stop)))
    ⊎ ((s : Syntax14) × (line : List ℕ) × ProgramIs (files program) (Ok s) × Prints s line × (d ≡ printed (Ok line)))

-- how the work ends by what the program's file comes to
abbrev pub EndsAs : (Syntax14 → List ℕ → Type 0) → Result Syntax14 Stop → Result (List ℕ) Stop → Type 0
EndsAs Prints (Ok s) end = (line : List ℕ) × Prints s line × (end ≡ Ok line)
EndsAs Prints (Err stop) end = end ≡ Err stop

-- The work ends as all says that the program's file comes to, so it comes to one thing only; or it ends with a fault or
-- want of memory.
abbrev pub EndsByFile : (Syntax14 → List ℕ → Type 0) → List ℕ → Held → Result (List ℕ) Stop → Type 0
EndsByFile Prints program files end =
    IsLoose end ⊎ ((r : Result Syntax14 Stop) → ProgramIs (files program) r → EndsAs Prints r end)

-- what is due of `check` and of `order`, by the name of the program
abbrev pub CheckDue : List ℕ → Held → Due → Type 0
CheckDue = ProgramDue PrintsAccepted

abbrev pub OrderDue : List ℕ → Held → Due → Type 0
OrderDue = ProgramDue PrintsOrder

-- The program that a file holds is refused: it breaks an L rule, S1 or a C rule; or the file is over its limit; or it is
-- taken.
abbrev pub RefusesText : List ℕ → Held → Type 0
RefusesText program files = (fault : Refusal) × ProgramIs (files program) (Err (Judged fault))

abbrev pub OverText : List ℕ → Held → Type 0
OverText program files = ProgramIs (files program) (Err (Limit limited.Program))

abbrev pub TakesText : List ℕ → Held → Type 0
TakesText program files = (s : Syntax14) × ProgramIs (files program) (Ok s)
