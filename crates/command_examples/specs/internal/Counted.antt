-- Counts of faults, one for each of the common names and one for all others.
use Rattle.std.specs.Prelude.{ℕ, if◌then◌else◌, List, codes}
use Rattle.std.specs.Str.{bytes_eq}
use Rattle.command_examples.specs.declared.named.Counts.{Counts}

-- the count of a name
abbrev pub count_of : Counts → List ℕ → ℕ
count_of c name =
    if bytes_eq name (codes "p") then c.program
    else (if bytes_eq name (codes "e") then c.entries
    else (if bytes_eq name (codes "c") then c.capture
    else (if bytes_eq name (codes "t") then c.text
    else (if bytes_eq name (codes "s") then c.sent else (if bytes_eq name (codes "r") then c.report else c.others)))))
