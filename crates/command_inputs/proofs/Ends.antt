-- What the entries file and the ports file can come to.
use Rattle.std.proofs.Common.{ℕ, nat_lt, Bool, true, false, if◌then◌else◌, List, length, Option, Some, None, Result, Ok, Err}
use Rattle.p4x_fault.specs.declared.Fault.{Fault as Refusal}
use Rattle.pcap_io.specs.Ports.{ports_of}
use Rattle.match_core.specs.declared.signatures.Signature.{Signature}
use Rattle.match_core.specs.declared.entries.Entries.{Entries as Filling}
use Rattle.entries_file.specs.Reading.{entries_of}
use Rattle.file_work.specs.declared.stop.Limited.TheVariants.{Entries, Ports}
use Rattle.file_work.specs.declared.stop.Stop.{Stop}
use Rattle.file_work.specs.declared.stop.Stop.TheVariants.{Fault, Unfit, Refused, Limit}
use Rattle.command_inputs.specs.EntriesFile.{entries_limit, taken_entries, entries_in}
use Rattle.command_inputs.specs.PortsFile.{ports_limit, taken_ports, ports_in, ports_end}

abbrev pub EntriesEnd : Result Filling Stop → Type 0
EntriesEnd (Ok entries) = Unit {0}
EntriesEnd (Err Fault) = Unit {0}
EntriesEnd (Err (Unfit fault)) = Unit {0}
EntriesEnd (Err (Limit Entries)) = Unit {0}
EntriesEnd (Err stop) = ⊥

pub entries_ends : (g : Signature) (o : Option (List ℕ)) → EntriesEnd (entries_in g o)
entries_ends g None = tt
entries_ends g (Some text) = by_limit (nat_lt entries_limit (length text))
  where
    taken : (r : Result Filling Refusal) → EntriesEnd (taken_entries r)
    taken (Ok entries) = tt
    taken (Err fault) = tt

    by_limit : (over : Bool) → EntriesEnd (if over then Err (Limit Entries) else taken_entries (entries_of text g))
    by_limit true = tt
    by_limit false = taken (entries_of text g)

abbrev pub PortsEnd : Result (List ℕ) Stop → Type 0
PortsEnd (Ok ports) = Unit {0}
PortsEnd (Err Fault) = Unit {0}
PortsEnd (Err (Refused fault)) = Unit {0}
PortsEnd (Err (Limit Ports)) = Unit {0}
PortsEnd (Err stop) = ⊥

pub ports_ends : (files : List ℕ → Option (List ℕ)) (o : Option (List ℕ)) → PortsEnd (ports_end files o)
ports_ends files None = tt
ports_ends files (Some name) = in_file (files name)
  where
    taken : (ports : Result (List ℕ) Refusal) → PortsEnd (taken_ports ports)
    taken (Ok ports) = tt
    taken (Err fault) = tt

    by_limit : (over : Bool) (text : List ℕ) → PortsEnd (if over then Err (Limit Ports) else taken_ports (ports_of text))
    by_limit true text = tt
    by_limit false text = taken (ports_of text)

    in_file : (o : Option (List ℕ)) → PortsEnd (ports_in o)
    in_file None = tt
    in_file (Some text) = by_limit (nat_lt ports_limit (length text)) text
