-- How the parts of `run14` that only read follow one another.
use Rattle.std.proofs.Common.{◌≡◌, inl, inr, ℕ, List, Option, Result, Ok, Err, sym, ◌∙◌, ap}
use Rattle.match_core.specs.declared.entries.Entries.{Entries}
use Rattle.match_core.specs.declared.signatures.Signature.{Signature}
use Rattle.command_words.specs.Words.{Run14Files}
use Rattle.file_work.specs.declared.stop.Stop.{Stop}
use Rattle.file_work.specs.Phases.{Loosely}
use Rattle.file_work.proofs.Order.{loosely_as}
use Rattle.command_inputs.specs.EntriesFile.{entries_in}
use Rattle.command_inputs.specs.PortsFile.{ports_end}
use Rattle.p414_syntax.specs.declared.syntax.Syntax14.{Syntax14}
use Rattle.p414_sem.specs.Signatures.{signature14}
use Rattle.program_commands.specs.Answers.{AnswersFile}
use Rattle.program_commands.specs.Programs.{ProgramIs}
use Rattle.run14_cmd.specs.Run14.{HasProgram, StopsBefore, filled}

module _ (f : Run14Files) (files : List ℕ → Option (List ℕ)) where
  pub stops_at_program : (stop : Stop) → AnswersFile (files f.program) (Err stop) → Loosely stop (StopsBefore f files stop)
  stops_at_program stop answers = loosely_as stop _ _ (λ is. inl (inl is.0)) answers

  pub stops_at_entries : (s : Syntax14) (stop : Stop) → ProgramIs (files f.program) (Ok s) → Loosely stop (filled f files s ≡ Err stop) → Loosely stop (StopsBefore f files stop)
  stops_at_entries s stop taken so = loosely_as stop _ _ (λ is. inl (inr (s, taken, is))) so

  pub stops_at_ports : (s : Syntax14) (e : Entries) (stop : Stop) → HasProgram f files s e → Loosely stop (ports_end files f.ports ≡ Err stop) → Loosely stop (StopsBefore f files stop)
  stops_at_ports s e stop has so = loosely_as stop _ _ (λ is. inr (s, e, has, is)) so

-- what the entries come to for a signature is what they come to for its program
pub fills_as : (g : Signature) (s : Syntax14) (file : Option (List ℕ)) (r : Result Entries Stop) → g ≡ signature14 s.decls → entries_in g file ≡ r → entries_in (signature14 s.decls) file ≡ r
fills_as g s file r same is = ap (λ (x : Signature). entries_in x file) (sym same) ∙ is

pub stops_as : (g : Signature) (s : Syntax14) (file : Option (List ℕ)) (stop : Stop) → g ≡ signature14 s.decls → Loosely stop (entries_in g file ≡ Err stop) → Loosely stop (entries_in (signature14 s.decls) file ≡ Err stop)
stops_as g s file stop same so = loosely_as stop _ _ (fills_as g s file (Err stop) same) so
