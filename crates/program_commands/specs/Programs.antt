-- What the file of a P4_14 program comes to (this project's own; the rules are those of P4_14 1.0.5 as far as their
-- definitions say).
use Rattle.std.specs.Prelude.{◌≡◌, ◌⊎◌, ◌<◌, ◌≤◌, ℕ, List, length, Option, Some, None, Result, Ok, Err}
use Rattle.p4x_fault.specs.declared.Fault.{Fault as Refusal}
use Rattle.p414_syntax.specs.declared.syntax.Syntax14.{Syntax14}
use Rattle.p414_syntax.specs.declared.rule.ProgramRule.{ProgramRule}
use Rattle.p414_syntax.specs.Breaks.{Breaks14, rule_fault}
use Rattle.p414_reader.specs.Reading.{Reads14, IsRefused14}
use Rattle.p414_body_check.specs.Answers.{IsAccepted}
use Rattle.file_work.specs.declared.stop.Limited.TheVariants as limited
use Rattle.file_work.specs.declared.stop.Stop.{Stop}
use Rattle.file_work.specs.declared.stop.Stop.TheVariants.{Fault, Judged, Limit, Memory}

-- the greatest length in octets of a program
abbrev pub program_limit : ℕ
program_limit = 1048576

-- the text reads as one program at most
abbrev pub ReadsOnce : List ℕ → Type 0
ReadsOnce text = (s other : Syntax14) → Reads14 text s → Reads14 text other → s ≡ other

-- the text reads as this program, which breaks none of the rules C1 to C28
pub record IsTaken (text : List ℕ) (s : Syntax14) : Type 0 where
  pub reads : Reads14 text s
  pub accepted : IsAccepted s

-- the text reads as a program, and the fault tells of the least of the rules C1 to C28 that it breaks
pub record BreaksRule (text : List ℕ) (fault : Refusal) : Type 0 where
  pub program : Syntax14
  pub rule : ProgramRule
  pub reads : Reads14 text program
  pub breaks : Breaks14 program rule
  pub fault_is : fault ≡ rule_fault rule

-- The text is refused with this fault: one of the rules L1 to L4 and S1 with its place, where it reads as no program; or
-- else the least of the rules C1 to C28 that its program breaks.
abbrev pub IsRefused : List ℕ → Refusal → Type 0
IsRefused text fault = IsRefused14 text fault ⊎ BreaksRule text fault

-- what a text comes to: a program that is taken, or the fault with which it is refused
abbrev pub TextIs : List ℕ → Result Syntax14 Stop → Type 0
TextIs text (Ok s) = IsTaken text s
TextIs text (Err (Judged fault)) = IsRefused text fault
TextIs text _ = ⊥

-- what the file of the program comes to: what its text does, where it isn't over its limit
abbrev pub ProgramIs : Option (List ℕ) → Result Syntax14 Stop → Type 0
ProgramIs None (Err Fault) = Unit {0}
ProgramIs (Some text) (Ok s) = (length text ≤ program_limit) × IsTaken text s
ProgramIs (Some text) (Err (Judged fault)) = (length text ≤ program_limit) × IsRefused text fault
ProgramIs (Some text) (Err (Limit limited.Program)) = program_limit < length text
ProgramIs _ _ = ⊥

-- what stops a command that reads a program and nothing else, whatever the desk tells
abbrev pub IsProgramStop : Stop → Type 0
IsProgramStop stop =
    (stop ≡ Fault) ⊎ (stop ≡ Memory) ⊎ ((fault : Refusal) × (stop ≡ Judged fault)) ⊎ (stop ≡ Limit limited.Program)
