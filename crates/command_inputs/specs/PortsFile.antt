-- What the ports file of a command comes to (this project's own).
use Rattle.std.specs.Prelude.{◌≡◌, ◌⊎◌, ℕ, nat_lt, if◌then◌else◌, List, [], length, Option, Some, None, Result, Ok, Err}
use Rattle.p4x_fault.specs.declared.Fault.{Fault as Refusal}
use Rattle.pcap_io.specs.Ports.{ports_of}
use Rattle.file_work.specs.declared.stop.Limited.TheVariants as limited
use Rattle.file_work.specs.declared.stop.Stop.{Stop}
use Rattle.file_work.specs.declared.stop.Stop.TheVariants.{Fault, Refused, Limit, Memory}
use Rattle.file_work.specs.Works.{Held}

-- the greatest length in octets of a ports file
abbrev pub ports_limit : ℕ
ports_limit = 4194304

-- the ports of a text, or its refusal
abbrev pub taken_ports : Result (List ℕ) Refusal → Result (List ℕ) Stop
taken_ports (Ok ports) = Ok ports
taken_ports (Err fault) = Err (Refused fault)

-- what the ports file comes to: its ports, or why there are none
abbrev pub ports_in : Option (List ℕ) → Result (List ℕ) Stop
ports_in None = Err Fault
ports_in (Some text) =
    if nat_lt ports_limit (length text) then Err (Limit limited.Ports) else taken_ports (ports_of text)

-- where no ports file is named, no packet has a port of its own
abbrev pub ports_end : Held → Option (List ℕ) → Result (List ℕ) Stop
ports_end files None = Ok []
ports_end files (Some name) = ports_in (files name)

-- what stops a command at the ports: a fault, want of memory, a P rule, or their limit
abbrev pub IsPortsStop : Stop → Type 0
IsPortsStop stop =
    (stop ≡ Fault) ⊎ (stop ≡ Memory) ⊎ ((fault : Refusal) × (stop ≡ Refused fault)) ⊎ (stop ≡ Limit limited.Ports)
