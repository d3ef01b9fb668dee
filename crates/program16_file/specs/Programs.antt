-- What the file of a P4_16 program comes to (this project's own; the rules are those of P4_16 1.2 as far as their
-- definitions say).
use Rattle.std.specs.Prelude.{◌≡◌, ◌⊎◌, ◌<◌, ◌≤◌, ℕ, List, length, Option, Some, None, Result, Ok, Err}
use Rattle.p4x_fault.specs.declared.Fault.{Fault as Refusal}
use Rattle.p416_syntax.specs.declared.program.Syntax16.{Syntax16}
use Rattle.p416_syntax.specs.declared.rule.ProgramRule.{ProgramRule}
use Rattle.p416_syntax.specs.Breaks.{Breaks16, rule_number, rule_fault}
use Rattle.p416_reader.specs.Reading.{Reads16, IsRefused16}
use Rattle.p416_types.specs.Answers.{IsAccepted}
use Rattle.file_work.specs.declared.stop.Limited.TheVariants as limited
use Rattle.file_work.specs.declared.stop.Stop.{Stop}
use Rattle.file_work.specs.declared.stop.Stop.TheVariants.{Fault, Text, Limit, Memory}

-- the greatest length in octets of a text
abbrev pub text_limit : ℕ
text_limit = 16777216

-- the text reads as one program at most
abbrev pub ReadsOnce : List ℕ → Type 0
ReadsOnce text = (s other : Syntax16) → Reads16 text s → Reads16 text other → s ≡ other

-- the text reads as this program, which breaks none of the rules T1 to T12
pub record IsTaken (text : List ℕ) (s : Syntax16) : Type 0 where
  pub reads : Reads16 text s
  pub accepted : IsAccepted s

-- the text reads as a program, and the fault tells of the least of the rules T1 to T12 that it breaks
pub record BreaksRule (text : List ℕ) (fault : Refusal) : Type 0 where
  pub program : Syntax16
  pub rule : ProgramRule
  pub reads : Reads16 text program
  pub breaks : Breaks16 program (rule_number rule)
  pub fault_is : fault ≡ rule_fault rule

-- The text is refused with this fault: one of the rules L1 to L4 and S1 with its place, where it reads as no program; or
-- else the least of the rules T1 to T12 that its program breaks.
abbrev pub IsRefused : List ℕ → Refusal → Type 0
IsRefused text fault = IsRefused16 text fault ⊎ BreaksRule text fault

-- what a text comes to: a program that is taken, or the fault with which it is refused
abbrev pub TextIs : List ℕ → Result Syntax16 Stop → Type 0
TextIs text (Ok s) = IsTaken text s
TextIs text (Err (Text fault)) = IsRefused text fault
TextIs text _ = ⊥

-- what the file of the program comes to: what its text does, where it isn't over its limit
abbrev pub ProgramIs : Option (List ℕ) → Result Syntax16 Stop → Type 0
ProgramIs None (Err Fault) = Unit {0}
ProgramIs (Some text) (Ok s) = (length text ≤ text_limit) × IsTaken text s
ProgramIs (Some text) (Err (Text fault)) = (length text ≤ text_limit) × IsRefused text fault
ProgramIs (Some text) (Err (Limit limited.Text)) = text_limit < length text
ProgramIs _ _ = ⊥

-- what stops the reading of the file, whatever the desk tells
abbrev pub IsTextStop : Stop → Type 0
IsTextStop stop =
    (stop ≡ Fault) ⊎ (stop ≡ Memory) ⊎ ((fault : Refusal) × (stop ≡ Text fault)) ⊎ (stop ≡ Limit limited.Text)
