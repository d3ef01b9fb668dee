-- What can stop the work of `run14` whatever the desk tells, and the statuses that come of it.
use Rattle.std.proofs.Common.{◌≡◌, ◌⊎◌, inl, inr, ℕ, List, Result, Ok, Err, IfErr, refl, ap}
use Rattle.file_work.specs.declared.stop.Stop.{Stop}
use Rattle.file_work.specs.declared.stop.Stop.TheVariants.{Fault, Memory}
use Rattle.file_work.specs.Stops.{code_of, stop_code}
use Rattle.command_inputs.specs.EntriesFile.{IsEntriesStop}
use Rattle.command_inputs.specs.PortsFile.{IsPortsStop}
use Rattle.program_commands.specs.Programs.{IsProgramStop}
use Rattle.run14_cmd.specs.Calls.{IsRun14Status}
use Rattle.run14_cmd.specs.Run14.{OfRun14}

pub loose_only : (stop : Stop) → (stop ≡ Fault) ⊎ (stop ≡ Memory) → OfRun14 stop
loose_only stop (inl fault) = inr (inl fault)
loose_only stop (inr memory) = inr (inr (inl memory))

pub program_only : (stop : Stop) → IsProgramStop stop → OfRun14 stop
program_only stop (inl fault) = inr (inl fault)
program_only stop (inr (inl memory)) = inr (inr (inl memory))
program_only stop (inr (inr (inl judged))) = inl (inl (inl (inr (inl judged))))
program_only stop (inr (inr (inr limit))) = inl (inl (inl (inr (inr limit))))

pub entries_only : (stop : Stop) → IsEntriesStop stop → OfRun14 stop
entries_only stop (inl fault) = inr (inl fault)
entries_only stop (inr (inl memory)) = inr (inr (inl memory))
entries_only stop (inr (inr (inl unfit))) = inl (inl (inr (inl unfit)))
entries_only stop (inr (inr (inr limit))) = inl (inl (inr (inr limit)))

pub ports_only : (stop : Stop) → IsPortsStop stop → OfRun14 stop
ports_only stop (inl fault) = inr (inl fault)
ports_only stop (inr (inl memory)) = inr (inr (inl memory))
ports_only stop (inr (inr (inl refused))) = inr (inr (inr (inl refused)))
ports_only stop (inr (inr (inr limit))) = inl (inr limit)

-- the status of what can stop it
pub status_of : (end : Result (List ℕ) Stop) → IfErr end OfRun14 → IsRun14Status (code_of end)
status_of (Ok line) only = inl refl
status_of (Err stop) (inl (inl (inl (inl is)))) = inr (inr (inl (ap stop_code is)))
status_of (Err stop) (inl (inl (inl (inr (inl (fault, is)))))) = inr (inr (inl (ap stop_code is)))
status_of (Err stop) (inl (inl (inl (inr (inr is))))) = inr (inr (inr (inr (inr (inl (ap stop_code is))))))
status_of (Err stop) (inl (inl (inr (inl (fault, is))))) = inr (inr (inr (inl (ap stop_code is))))
status_of (Err stop) (inl (inl (inr (inr is)))) = inr (inr (inr (inr (inr (inl (ap stop_code is))))))
status_of (Err stop) (inl (inr is)) = inr (inr (inr (inr (inr (inl (ap stop_code is))))))
status_of (Err stop) (inr (inl is)) = inr (inl (ap stop_code is))
status_of (Err stop) (inr (inr (inl is))) = inr (inr (inr (inr (inr (inr (ap stop_code is))))))
status_of (Err stop) (inr (inr (inr (inl (fault, is))))) = inr (inr (inr (inr (inl (ap stop_code is)))))
status_of (Err stop) (inr (inr (inr (inr is)))) = inr (inr (inr (inr (inr (inl (ap stop_code is))))))
