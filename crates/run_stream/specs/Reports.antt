-- The report of a run (this project's own).
use Rattle.std.specs.Prelude.{ℕ, List, [], ◌∷◌, ◌++◌, length, codes}
use Rattle.std.specs.List.{flat_map}
use Rattle.std.specs.Fmt.{decimal}
use Rattle.fabric.specs.declared.packets.Sent.{Sent}

-- a word, a blank, a number in decimal and a line feed
abbrev pub count_line : List ℕ → ℕ → List ℕ
count_line word n = word ++ (32 ∷ decimal n) ++ 10 ∷ []

-- the line of a sent packet: its port and how many octets it has
abbrev pub sent_line : Sent → List ℕ
sent_line packet = (codes "sent " ++ decimal packet.port) ++ (32 ∷ decimal (length packet.octets)) ++ 10 ∷ []

-- the records' part of the report: a line for each sent packet in order
abbrev pub sent_lines : List Sent → List ℕ
sent_lines sent = flat_map sent_line sent

-- the line of the work
abbrev pub work_line : ℕ → List ℕ
work_line work = count_line (codes "work") work

-- how many packets came in and went out, and how many items the bound on passes cut
abbrev pub count_lines : ℕ → ℕ → ℕ → List ℕ
count_lines arrivals departures cut =
    count_line (codes "in") arrivals ++ (count_line (codes "out") departures ++ count_line (codes "cut") cut)

-- the end part of the report: these counts, and then the lines that the runner ends it with
abbrev pub end_part : ℕ → ℕ → ℕ → List ℕ → List ℕ
end_part arrivals departures cut own = count_lines arrivals departures cut ++ own

-- the report of a run over a whole capture
abbrev pub report_of : ℕ → List Sent → ℕ → List ℕ → List ℕ
report_of arrivals sent cut own = sent_lines sent ++ end_part arrivals (length sent) cut own

-- the line that a command prints of a run: its word, packets in, packets out, and what was cut
abbrev pub run_line : List ℕ → ℕ → ℕ → ℕ → List ℕ
run_line word arrivals departures cut =
    word ++ (32 ∷ decimal arrivals) ++ (32 ∷ decimal departures) ++ (32 ∷ decimal cut) ++ 10 ∷ []
