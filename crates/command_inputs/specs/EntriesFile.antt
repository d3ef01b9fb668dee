-- What the entries file of a command comes to (this project's own).
use Rattle.std.specs.Prelude.{◌≡◌, ◌⊎◌, ℕ, nat_lt, if◌then◌else◌, List, length, Option, Some, None, Result, Ok, Err}
use Rattle.p4x_fault.specs.declared.Fault.{Fault as Refusal}
use Rattle.match_core.specs.declared.signatures.Signature.{Signature}
use Rattle.match_core.specs.declared.entries.Entries.{Entries}
use Rattle.entries_file.specs.Reading.{entries_of}
use Rattle.file_work.specs.declared.stop.Limited.TheVariants as limited
use Rattle.file_work.specs.declared.stop.Stop.{Stop}
use Rattle.file_work.specs.declared.stop.Stop.TheVariants.{Fault, Unfit, Limit, Memory}

-- the greatest length in octets of an entries file
abbrev pub entries_limit : ℕ
entries_limit = 16777216

-- the entries of a text, or its refusal
abbrev pub taken_entries : Result Entries Refusal → Result Entries Stop
taken_entries (Ok entries) = Ok entries
taken_entries (Err fault) = Err (Unfit fault)

-- what the entries file comes to for a program with this signature: its entries, or why there are none
abbrev pub entries_in : Signature → Option (List ℕ) → Result Entries Stop
entries_in g None = Err Fault
entries_in g (Some text) =
    if nat_lt entries_limit (length text) then Err (Limit limited.Entries) else taken_entries (entries_of text g)

-- what stops a command at the entries: a fault, want of memory, an E rule, or their limit
abbrev pub IsEntriesStop : Stop → Type 0
IsEntriesStop stop =
    (stop ≡ Fault) ⊎ (stop ≡ Memory) ⊎ ((fault : Refusal) × (stop ≡ Unfit fault)) ⊎ (stop ≡ Limit limited.Entries)
