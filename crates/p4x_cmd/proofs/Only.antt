-- What can stop the work of `carry` whatever the desk tells, and the statuses that come of it.
use Rattle.std.proofs.Common.{◌≡◌, ◌⊎◌, inl, inr, ℕ, List, Result, Ok, Err, IfErr, refl, ap}
use Rattle.file_work.specs.declared.stop.Stop.{Stop}
use Rattle.file_work.specs.declared.stop.Stop.TheVariants.{Fault, Program, Unfit, Memory}
use Rattle.file_work.specs.Stops.{code_of, stop_code}
use Rattle.command_inputs.specs.PortsFile.{IsPortsStop}
use Rattle.program_commands.specs.Programs.{IsProgramStop}
use Rattle.p4x_cmd.specs.Calls.{IsCarryStatus}
use Rattle.p4x_cmd.specs.Carry.{OfCarry, not_taken}

pub loose_only : (stop : Stop) → (stop ≡ Fault) ⊎ (stop ≡ Memory) → OfCarry stop
loose_only stop (inl fault) = inr (inl fault)
loose_only stop (inr memory) = inr (inr (inl memory))

pub program_only : (stop : Stop) → (stop ≡ Program) ⊎ IsProgramStop stop → OfCarry stop
program_only stop (inl no_form) = inl (inl (inl (inl no_form)))
program_only stop (inr (inl fault)) = inr (inl fault)
program_only stop (inr (inr (inl memory))) = inr (inr (inl memory))
program_only stop (inr (inr (inr (inl judged)))) = inl (inl (inl (inr (inl judged))))
program_only stop (inr (inr (inr (inr limit)))) = inl (inl (inl (inr (inr limit))))

pub entries_only : (stop : Stop) → (stop ≡ Fault) ⊎ (stop ≡ Unfit not_taken) → OfCarry stop
entries_only stop (inl fault) = inr (inl fault)
entries_only stop (inr unfit) = inl (inl (inr (not_taken, unfit)))

pub ports_only : (stop : Stop) → IsPortsStop stop → OfCarry stop
ports_only stop (inl fault) = inr (inl fault)
ports_only stop (inr (inl memory)) = inr (inr (inl memory))
ports_only stop (inr (inr (inl refused))) = inr (inr (inr (inl refused)))
ports_only stop (inr (inr (inr limit))) = inl (inr limit)

-- the status of what can stop it
pub status_of : (end : Result (List ℕ) Stop) → IfErr end OfCarry → IsCarryStatus (code_of end)
status_of (Ok line) only = inl refl
status_of (Err stop) (inl (inl (inl (inl is)))) = inr (inr (inl (ap stop_code is)))
status_of (Err stop) (inl (inl (inl (inr (inl (fault, is)))))) = inr (inr (inl (ap stop_code is)))
status_of (Err stop) (inl (inl (inl (inr (inr is))))) = inr (inr (inr (inr (inr (inl (ap stop_code is))))))
status_of (Err stop) (inl (inl (inr (fault, is)))) = inr (inr (inr (inl (ap stop_code is))))
status_of (Err stop) (inl (inr is)) = inr (inr (inr (inr (inr (inl (ap stop_code is))))))
status_of (Err stop) (inr (inl is)) = inr (inl (ap stop_code is))
status_of (Err stop) (inr (inr (inl is))) = inr (inr (inr (inr (inr (inr (ap stop_code is))))))
status_of (Err stop) (inr (inr (inr (inl (fault, is))))) = inr (inr (inr (inr (inl (ap stop_code is)))))
status_of (Err stop) (inr (inr (inr (inr is)))) = inr (inr (inr (inr (inr (inl (ap stop_code is))))))
