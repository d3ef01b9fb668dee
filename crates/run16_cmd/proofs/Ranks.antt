-- Where a stop comes from, in the order of the work.
use Rattle.std.proofs.Common.{◌≡◌, inl, inr, ℕ, ◌≤◌, List, Option, Err, ap, arith}
use Rattle.file_work.specs.declared.stop.Limited.TheVariants.{Text as TheText, Entries, Ports, Capture, Program as TheProgram}
use Rattle.file_work.specs.declared.stop.Stop.{Stop}
use Rattle.file_work.specs.declared.stop.Stop.TheVariants.{Fault, Usage, Program, Judged, Unfit, Refused, Limit, Memory, Text}
use Rattle.command_inputs.specs.EntriesFile.{IsEntriesStop}
use Rattle.command_inputs.specs.PortsFile.{IsPortsStop}
use Rattle.run_stream.specs.Captured.{StopsRun}
use Rattle.program16_file.specs.Programs.{ProgramIs}
use Rattle.program16_file.proofs.Stops.{file_stops}
use Rattle.run16_cmd.specs.Run16.{OfProgram, OfEntries, OfPorts}

-- from the program, the entries or the ports alone, or from none of them alone
abbrev pub rank : Stop → ℕ
rank (Text fault) = 1
rank (Limit TheText) = 1
rank (Unfit fault) = 2
rank (Limit Entries) = 2
rank (Limit Ports) = 3
rank (Limit Capture) = 4
rank (Limit TheProgram) = 4
rank Fault = 4
rank Usage = 4
rank Program = 4
rank (Judged fault) = 4
rank (Refused fault) = 4
rank Memory = 4

pub rank_program : (stop : Stop) → OfProgram stop → rank stop ≡ 1
rank_program stop (inl (fault, is)) = ap rank is
rank_program stop (inr is) = ap rank is

rank_entries : (stop : Stop) → OfEntries stop → rank stop ≤ 2
rank_entries stop (inl is) = let here : rank stop ≡ 1 = rank_program stop is in omega arith
rank_entries stop (inr (inl (fault, is))) = let here : rank stop ≡ 2 = ap rank is in omega arith
rank_entries stop (inr (inr is)) = let here : rank stop ≡ 2 = ap rank is in omega arith

rank_ports : (stop : Stop) → OfPorts stop → rank stop ≤ 3
rank_ports stop (inl is) = let here : rank stop ≤ 2 = rank_entries stop is in omega arith
rank_ports stop (inr is) = let here : rank stop ≡ 3 = ap rank is in omega arith

-- what comes behind the program, behind the entries and behind the ports

pub behind_program : (stop : Stop) → IsEntriesStop stop → 2 ≤ rank stop
behind_program stop (inl is) = let here : rank stop ≡ 4 = ap rank is in omega arith
behind_program stop (inr (inl is)) = let here : rank stop ≡ 4 = ap rank is in omega arith
behind_program stop (inr (inr (inl (fault, is)))) = let here : rank stop ≡ 2 = ap rank is in omega arith
behind_program stop (inr (inr (inr is))) = let here : rank stop ≡ 2 = ap rank is in omega arith

pub behind_entries : (stop : Stop) → IsPortsStop stop → 3 ≤ rank stop
behind_entries stop (inl is) = let here : rank stop ≡ 4 = ap rank is in omega arith
behind_entries stop (inr (inl is)) = let here : rank stop ≡ 4 = ap rank is in omega arith
behind_entries stop (inr (inr (inl (fault, is)))) = let here : rank stop ≡ 4 = ap rank is in omega arith
behind_entries stop (inr (inr (inr is))) = let here : rank stop ≡ 3 = ap rank is in omega arith

pub behind_ports : (stop : Stop) → StopsRun stop → 4 ≤ rank stop
behind_ports stop (inl is) = let here : rank stop ≡ 4 = ap rank is in omega arith
behind_ports stop (inr (inl is)) = let here : rank stop ≡ 4 = ap rank is in omega arith
behind_ports stop (inr (inr (inl (fault, is)))) = let here : rank stop ≡ 4 = ap rank is in omega arith
behind_ports stop (inr (inr (inr is))) = let here : rank stop ≡ 4 = ap rank is in omega arith

pub not_program : (stop : Stop) → 2 ≤ rank stop → OfProgram stop → ⊥
not_program stop behind is = let here : rank stop ≡ 1 = rank_program stop is in omega arith

pub not_entries : (stop : Stop) → 3 ≤ rank stop → OfEntries stop → ⊥
not_entries stop behind is = let here : rank stop ≤ 2 = rank_entries stop is in omega arith

pub not_ports : (stop : Stop) → 4 ≤ rank stop → OfPorts stop → ⊥
not_ports stop behind is = let here : rank stop ≤ 3 = rank_ports stop is in omega arith

-- nothing else than a fault or the program itself stops the command at the file of its program
pub not_here : (o : Option (List ℕ)) (stop : Stop) → ProgramIs o (Err stop) → (stop ≡ Fault → ⊥) → (rank stop ≡ 1 → ⊥) → ⊥
not_here o stop is no_fault behind = elim (file_stops o stop is) [ inl fault ↦ no_fault fault | inr own ↦ behind (rank_program stop own) ]
