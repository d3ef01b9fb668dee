-- Lists of ports (this project's own). Their lines are std's, their words and numbers those of text_lines.
use Rattle.std.specs.Prelude.{◌≡◌, ℕ, ◌+◌, if◌then◌else◌, List, [], ◌∷◌, Option, None, Some, Result, Ok, Err}
use Rattle.std.specs.Str.Lines.{lines}
use Rattle.p4x_fault.specs.declared.Fault.{Fault}
use Rattle.p4x_fault.specs.declared.Rule.{Rule}
use Rattle.p4x_fault.specs.declared.Rule.TheVariants.{P}
use Rattle.state_store.specs.Ports.{greatest_port}
use Rattle.text_lines.specs.declared.numbers.Base.TheVariants.{Decimal}
use Rattle.text_lines.specs.Numbers.{are_digits, decimal_up_to}
use Rattle.text_lines.specs.Places.{at_line}
use Rattle.text_lines.specs.Words.{Word, words_of, is_comment}
use Rattle.pcap_io.specs.declared.faults.PortFault.{PortFault}
use Rattle.pcap_io.specs.declared.faults.PortFault.TheVariants.{Memory, Refused}
use Rattle.pcap_io.specs.declared.ports.Ports.{Ports}

-- P2 is a number over the greatest port.
abbrev pub port_or_over : Option ℕ → Result (Option ℕ) Rule
port_or_over (Some port) = Ok (Some port)
port_or_over None = Err (P 2)

-- The port that a word is. P1 is a word that isn't a decimal number.
abbrev pub port_in : Word → Result (Option ℕ) Rule
port_in word = if are_digits Decimal word then port_or_over (decimal_up_to greatest_port word) else Err (P 1)

-- the port on a line whose first word is this, with others behind it: P1 is also more than one word
abbrev pub port_alone : Word → List Word → Result (Option ℕ) Rule
port_alone word [] = port_in word
port_alone word (another ∷ others) = Err (P 1)

-- The port on a line with these words. A line without a word has none, and a comment has none.
abbrev pub port_on : List Word → Result (Option ℕ) Rule
port_on [] = Ok None
port_on (word ∷ others) = if is_comment word then Ok None else port_alone word others

-- what a line tells, in front of what the lines behind it do
abbrev pub with_line : ℕ → Result (Option ℕ) Rule → Result (List ℕ) Fault → Result (List ℕ) Fault
with_line number (Err rule) more = Err (at_line rule number)
with_line number (Ok None) more = more
with_line number (Ok (Some port)) (Err fault) = Err fault
with_line number (Ok (Some port)) (Ok ports) = Ok (port ∷ ports)

-- the ports on lines, of which the first has this number, or the first refusal
unfoldable pub ports_on : ℕ → List (List ℕ) → Result (List ℕ) Fault
ports_on number [] = Ok []
ports_on number (line ∷ others) = with_line number (port_on (words_of line)) (ports_on (number + 1) others)

-- the ports in a text, or the rule that its first bad line breaks; lines are counted from 1
abbrev pub ports_of : List ℕ → Result (List ℕ) Fault
ports_of text = ports_on 1 (lines text)

-- The call gives these ports, or refuses with this refusal; or memory ran out.
abbrev pub GivesPorts : Result (List ℕ) Fault → Result Ports PortFault → Type 0
GivesPorts due (Ok ports) = due ≡ Ok ports.list
GivesPorts due (Err (Refused fault)) = due ≡ Err fault
GivesPorts due (Err Memory) = Unit {0}
