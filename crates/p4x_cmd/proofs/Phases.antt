-- How the phases of `carry` that only read follow one another.
use Rattle.std.proofs.Common.{◌≡◌, inl, inr, ℕ, List, Option, Some, Ok, Err}
use Rattle.file_work.specs.declared.stop.Stop.{Stop}
use Rattle.file_work.specs.Phases.{Loosely}
use Rattle.command_words.specs.Words.{CarryFiles}
use Rattle.p414_one_table.specs.declared.program.OneTable14.{OneTable14}
use Rattle.p4x_cmd.specs.Carry.{ProgramIs, HasProgram, StopsBefore, entries_stop}
use Rattle.command_inputs.specs.PortsFile.{ports_end}

-- the entries stop the command
pub stops_at_entries : (f : CarryFiles) (files : List ℕ → Option (List ℕ)) (p : OneTable14) (stop : Stop) → ProgramIs (files f.program) (Ok p) → Loosely stop (entries_stop (files f.entries) ≡ Some stop) → Loosely stop (StopsBefore f files stop)
stops_at_entries f files p stop taken (inl fault) = inl fault
stops_at_entries f files p stop taken (inr (inl memory)) = inr (inl memory)
stops_at_entries f files p stop taken (inr (inr is)) = inr (inr (inr (inl (p, taken, is))))

-- the ports stop the command
pub stops_at_ports : (f : CarryFiles) (files : List ℕ → Option (List ℕ)) (p : OneTable14) (stop : Stop) → HasProgram f files p → Loosely stop (ports_end files f.ports ≡ Err stop) → Loosely stop (StopsBefore f files stop)
stops_at_ports f files p stop has (inl fault) = inl fault
stops_at_ports f files p stop has (inr (inl memory)) = inr (inl memory)
stops_at_ports f files p stop has (inr (inr is)) = inr (inr (inr (inr (p, has, is))))
