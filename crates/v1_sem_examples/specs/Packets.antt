-- What a program does with one packet, as a function that computes.
use Rattle.std.specs.Prelude.{ℕ, List, [], ◌∷◌, map, None}
use Rattle.state_store.specs.declared.cells.Cells.{Cells}
use Rattle.match_core.specs.declared.entries.Entries.{Entries}
use Rattle.match_core.specs.declared.entries.TableFill.{TableFill}
use Rattle.match_core.specs.declared.signatures.TableSig.{TableSig}
use Rattle.match_core.specs.declared.signatures.ObjectSig.{ObjectSig}
use Rattle.fabric.specs.declared.items.Event.{Event}
use Rattle.fabric.specs.declared.items.Item.{Item}
use Rattle.fabric.specs.declared.packets.Arrival.{Arrival}
use Rattle.fabric.specs.declared.packets.Sent.{Sent}
use Rattle.fabric.specs.Fabric.{Whole}
use Rattle.p416_syntax.specs.declared.program.Syntax16.{Syntax16}
use Rattle.p416_syntax.specs.Tree.{Stmt16}
use Rattle.v1_core.specs.Signatures.{signature16}
use Rattle.v1_core.specs.Surroundings.{Setting}
use Rattle.v1_core.specs.Values.{Value}
use Rattle.v1_core.specs.Parsing.{Parsed, parse16}
use Rattle.v1_core.specs.Passes.{Between, none_preserved, item_moment, ingress16}
use Rattle.v1_core.specs.Runs.{before, Run16}
use Rattle.v1_core.specs.declared.parser_error.ParserError.{ParserError}
use Rattle.v1_sem_examples.specs.Samples.{program, doing, packet}

abbrev pub no_fill : TableSig → TableFill
no_fill t = record { entries = []; default = None }

abbrev pub no_colours : ObjectSig → List ℕ
no_colours o = []

-- entries that fill no table
abbrev pub no_entries : Syntax16 → Entries
no_entries syntax = record {
  tables = map no_fill (signature16 syntax).tables;
  sessions = [];
  colours = map no_colours (signature16 syntax).objects;
}

abbrev pub plainly : Syntax16 → Setting
plainly syntax = record { syntax = syntax; entries = no_entries syntax }

abbrev pub filled : Syntax16 → List TableFill → Setting
filled syntax fills =
    record { syntax = syntax; entries = record { tables = fills; sessions = []; colours = map no_colours (signature16 syntax).objects } }

abbrev pub arrival : ℕ → List ℕ → Arrival
arrival port octets = record { octets = octets; port = port; seconds = 0; fraction = 0 }

-- what is sent, as ports and octets, and the work
pub record Outcome : Type 0 where
  pub sent : List (ℕ × List ℕ)
  pub work : ℕ

abbrev pub port_and_octets : Sent → ℕ × List ℕ
port_and_octets s = (s.port, s.octets)

abbrev pub told : Whole Between → Outcome
told w = record { sent = map port_and_octets w.sent; work = w.state.work }

-- the same with session 7 on port 9
abbrev pub with_session : Syntax16 → Setting
with_session syntax =
    record { syntax = syntax; entries = record (no_entries syntax) { sessions = record { number = 7; port = 9 } ∷ [] } }

-- the packet comes in on a port, and 8 passes are made at most
abbrev pub ran_from : ℕ → Setting → List ℕ → Whole Between
ran_from port c octets = Run16 c 8 (arrival port octets ∷ [])

abbrev pub ran : Setting → List ℕ → Whole Between
ran c octets = ran_from 0 c octets

-- packets that come in one after another
abbrev pub ran_all : Setting → List (List ℕ) → Whole Between
ran_all c packets = Run16 c 8 (map (arrival 0) packets)

abbrev pub outcome : Setting → List ℕ → Outcome
outcome c octets = told (ran c octets)

-- what the small program leaves of the packet with these statements in ingress
abbrev pub sends_of : List Stmt16 → Outcome
sends_of xs = outcome (plainly (program (doing xs))) packet

abbrev pub sends : ℕ → List ℕ → ℕ → Outcome
sends port octets work = record { sent = (port, octets) ∷ []; work = work }

-- two packets are sent
abbrev pub sends_both : ℕ → List ℕ → ℕ → List ℕ → ℕ → Outcome
sends_both port octets other more work = record { sent = (port, octets) ∷ (other, more) ∷ []; work = work }

abbrev pub sends_nothing : ℕ → Outcome
sends_nothing work = record { sent = []; work = work }

-- how parsing ends: the error, the work, and the octets that weren't parsed
pub record Parse : Type 0 where
  pub error : ParserError
  pub work : ℕ
  pub left : List ℕ

abbrev pub parse_told : Parsed → Parse
parse_told p = record { error = p.error; work = p.moment.work; left = p.moment.unparsed }

abbrev pub item : Syntax16 → List ℕ → Item Value
item syntax octets = record { octets = octets; port = 0; instance = 0; kept = none_preserved syntax }

abbrev pub parsed : Syntax16 → List ℕ → Parse
parsed syntax octets = let c = plainly syntax in parse_told (parse16 c (item_moment c (before c) (item syntax octets)))

abbrev pub ends : ParserError → ℕ → List ℕ → Parse
ends error work left = record { error = error; work = work; left = left }

-- the cells that a packet leaves
abbrev pub cells : Setting → List ℕ → List Cells
cells c octets = (ran c octets).state.store.cells

-- the applications of tables up to the end of ingress
abbrev pub ingress_events : Setting → List ℕ → List Event
ingress_events c octets = (ingress16 c (before c) (item c.syntax octets)).1.events

-- those of egress, of compute and of the deparser in the packet's last pass
abbrev pub egress_events : Setting → List ℕ → List Event
egress_events c octets = (ran c octets).state.events
