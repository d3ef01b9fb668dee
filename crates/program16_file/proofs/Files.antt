-- One thing only comes of a file.
use Rattle.std.proofs.Common.{◌≡◌, inl, inr, ℕ, ◌<◌, ◌≤◌, List, length, Some, Result, Ok, Err, refl, arith}
use Rattle.p416_syntax.specs.declared.program.Syntax16.{Syntax16}
use Rattle.file_work.specs.declared.stop.Limited.TheVariants as limited
use Rattle.file_work.specs.declared.stop.Stop.{Stop}
use Rattle.file_work.specs.declared.stop.Stop.TheVariants.{Fault, Usage, Program, Judged, Unfit, Refused, Limit, Memory, Text}
use Rattle.program16_file.specs.Programs.{text_limit, TextIs, ProgramIs}
use Rattle.program16_file.specs.Answers.{AnswersFile}
use Rattle.program16_file.specs.internal.Judged.{AnswersText}

-- within its limit a file comes to what its text does
within : (text : List ℕ) (answer : Result Syntax16 Stop) → length text ≤ text_limit → ((other : Result Syntax16 Stop) → TextIs text other → other ≡ answer)
    → (other : Result Syntax16 Stop) → ProgramIs (Some text) other → other ≡ answer
within text answer fits only (Ok s) is = only (Ok s) is.1
within text answer fits only (Err Fault) is = absurd is
within text answer fits only (Err Usage) is = absurd is
within text answer fits only (Err Program) is = absurd is
within text answer fits only (Err (Text fault)) is = only (Err (Text fault)) is.1
within text answer fits only (Err (Unfit fault)) is = absurd is
within text answer fits only (Err (Judged fault)) is = absurd is
within text answer fits only (Err (Refused fault)) is = absurd is
within text answer fits only (Err (Limit limited.Text)) is = let over : text_limit < length text = is in absurd (omega arith)
within text answer fits only (Err (Limit limited.Entries)) is = absurd is
within text answer fits only (Err (Limit limited.Program)) is = absurd is
within text answer fits only (Err (Limit limited.Ports)) is = absurd is
within text answer fits only (Err (Limit limited.Capture)) is = absurd is
within text answer fits only (Err Memory) is = absurd is

pub file_within : (text : List ℕ) (r : Result Syntax16 Stop) → length text ≤ text_limit → AnswersText text r → AnswersFile (Some text) r
file_within text (Ok s) fits is = ((fits, is.0), within text (Ok s) fits is.1)
file_within text (Err Fault) fits is = absurd is.0
file_within text (Err Usage) fits is = absurd is.0
file_within text (Err Program) fits is = absurd is.0
file_within text (Err (Text fault)) fits is = inr (inr ((fits, is.0), within text (Err (Text fault)) fits is.1))
file_within text (Err (Unfit fault)) fits is = absurd is.0
file_within text (Err (Judged fault)) fits is = absurd is.0
file_within text (Err (Refused fault)) fits is = absurd is.0
file_within text (Err (Limit file)) fits is = absurd is.0
file_within text (Err Memory) fits is = inr (inl refl)

-- over it nothing else is asked
beyond : (text : List ℕ) → text_limit < length text → (other : Result Syntax16 Stop) → ProgramIs (Some text) other → other ≡ Err (Limit limited.Text)
beyond text over (Ok s) is = let fits : length text ≤ text_limit = is.0 in absurd (omega arith)
beyond text over (Err Fault) is = absurd is
beyond text over (Err Usage) is = absurd is
beyond text over (Err Program) is = absurd is
beyond text over (Err (Text fault)) is = let fits : length text ≤ text_limit = is.0 in absurd (omega arith)
beyond text over (Err (Unfit fault)) is = absurd is
beyond text over (Err (Judged fault)) is = absurd is
beyond text over (Err (Refused fault)) is = absurd is
beyond text over (Err (Limit limited.Text)) is = refl
beyond text over (Err (Limit limited.Entries)) is = absurd is
beyond text over (Err (Limit limited.Program)) is = absurd is
beyond text over (Err (Limit limited.Ports)) is = absurd is
beyond text over (Err (Limit limited.Capture)) is = absurd is
beyond text over (Err Memory) is = absurd is

pub file_over : (text : List ℕ) → text_limit < length text → AnswersFile (Some text) (Err (Limit limited.Text))
file_over text over = inr (inr (over, beyond text over))
