-- What stops a command at the file of its program, and that the file comes to one thing.
use Rattle.std.proofs.Common.{◌≡◌, ◌⊎◌, inl, inr, ℕ, List, Option, Some, None, Result, Ok, Err, refl, sym, ◌∙◌, subst}
use Rattle.p4x_fault.specs.declared.Fault.{Fault as Refusal}
use Rattle.p414_syntax.specs.declared.syntax.Syntax14.{Syntax14}
use Rattle.p414_reader.specs.Reading.{Reads14}
use Rattle.file_work.specs.declared.stop.Limited.TheVariants as limited
use Rattle.file_work.specs.declared.stop.Stop.{Stop}
use Rattle.file_work.specs.declared.stop.Stop.TheVariants.{Fault, Usage, Program, Judged, Unfit, Refused, Limit, Memory, Text}
use Rattle.program_commands.specs.Answers.{IsAlone, ComesOnce}
use Rattle.program_commands.specs.Programs.{ReadsOnce, ProgramIs}

abbrev pub FileStop : Stop → Type 0
FileStop stop = (stop ≡ Fault) ⊎ ((fault : Refusal) × (stop ≡ Judged fault)) ⊎ (stop ≡ Limit limited.Program)

pub file_stops : (o : Option (List ℕ)) (stop : Stop) → ProgramIs o (Err stop) → FileStop stop
file_stops None Fault is = inl refl
file_stops None Usage is = absurd is
file_stops None Program is = absurd is
file_stops None (Judged fault) is = absurd is
file_stops None (Unfit fault) is = absurd is
file_stops None (Text fault) is = absurd is
file_stops None (Refused fault) is = absurd is
file_stops None (Limit file) is = absurd is
file_stops None Memory is = absurd is
file_stops (Some text) Fault is = absurd is
file_stops (Some text) Usage is = absurd is
file_stops (Some text) Program is = absurd is
file_stops (Some text) (Judged fault) is = inr (inl (fault, refl))
file_stops (Some text) (Unfit fault) is = absurd is
file_stops (Some text) (Text fault) is = absurd is
file_stops (Some text) (Refused fault) is = absurd is
file_stops (Some text) (Limit limited.Program) is = inr (inr refl)
file_stops (Some text) (Limit limited.Entries) is = absurd is
file_stops (Some text) (Limit limited.Text) is = absurd is
file_stops (Some text) (Limit limited.Ports) is = absurd is
file_stops (Some text) (Limit limited.Capture) is = absurd is
file_stops (Some text) Memory is = absurd is

-- a program that is taken is the only one that its text reads as
pub one_program : (o : Option (List ℕ)) (s : Syntax14) → ProgramIs o (Ok s) → ((text : List ℕ) → o ≡ Some text → ReadsOnce text)
    → (read : List ℕ) (other : Syntax14) → o ≡ Some read → Reads14 read other → other ≡ s
one_program None s taken once read other is reads = absurd taken
one_program (Some text) s taken once read other is reads =
    let same : read ≡ text = cc is in
    once text refl other s (subst (λ (l : List ℕ). Reads14 l other) same reads) taken.1.reads

-- what an answer says of the file's one thing

pub alone_once : (o : Option (List ℕ)) (answer : Result Syntax14 Stop) → IsAlone (ProgramIs o) answer → ComesOnce o
alone_once o answer alone = λ a b one other. alone.1 a one ∙ sym (alone.1 b other)

module _ (o : Option (List ℕ)) (once : ComesOnce o) where
  pub taken_goes_on : (s : Syntax14) (stop : Stop) → ProgramIs o (Ok s) → ProgramIs o (Err stop) → ⊥
  taken_goes_on s stop taken is = let same : ◌≡◌ {A = Result Syntax14 Stop} (Ok s) (Err stop) = once (Ok s) (Err stop) taken is in cc same

  pub stops_alike : (a b : Stop) → ProgramIs o (Err a) → ProgramIs o (Err b) → a ≡ b
  stops_alike a b one other = let same : ◌≡◌ {A = Result Syntax14 Stop} (Err a) (Err b) = once (Err a) (Err b) one other in cc same

  pub program_alike : (s t : Syntax14) → ProgramIs o (Ok s) → ProgramIs o (Ok t) → s ≡ t
  program_alike s t one other = let same : ◌≡◌ {A = Result Syntax14 Stop} (Ok s) (Ok t) = once (Ok s) (Ok t) one other in cc same
