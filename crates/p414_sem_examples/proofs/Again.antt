-- Packets that take more than one pass.
use Rattle.std.proofs.Common.{◌≡◌, ℕ, List, [], ◌∷◌, map, refl}
use Rattle.std.specs.Prelude.{codes}
use Rattle.p4x_bits.specs.BitLists.{num, bits}
use Rattle.match_core.specs.declared.entries.Entries.{Entries}
use Rattle.fabric.specs.declared.packets.Arrival.{Arrival}
use Rattle.fabric.specs.Queue.{run}
use Rattle.p414_syntax.specs.declared.actions.Call.{Call}
use Rattle.p414_syntax.specs.declared.syntax.Decl.{Decl}
use Rattle.p414_syntax.specs.declared.syntax.Rule14.TheVariants.{Sequential}
use Rattle.p414_syntax.specs.Tree.{apply}
use Rattle.p414_syntax.specs.declared.parsers.Return.TheVariants as end_of
use Rattle.p414_syntax.specs.Arguments.{actions, invocations_of}
use Rattle.p414_sem.specs.Expanded.{Expanded}
use Rattle.p414_sem.specs.Controls.{Setting}
use Rattle.p414_sem.specs.Parsing.{parsed}
use Rattle.p414_sem.specs.Signatures.{signature14}
use Rattle.p414_sem.specs.Passes.{ingress14, reparse14, egress14}
use Rattle.p414_sem.specs.Runs.{Run14}
use Rattle.p414_sem_examples.specs.Parts.{field, named, call, n, at, to_port_3, type, header, state, action, table}
use Rattle.p414_sem_examples.specs.Packets.{no_entries}

abbrev frame : List ℕ
frame = 1 ∷ 2 ∷ 3 ∷ 4 ∷ 5 ∷ 6 ∷ 7 ∷ 8 ∷ 9 ∷ 10 ∷ 11 ∷ 12 ∷ 13 ∷ 14 ∷ []

abbrev arrival : Arrival
arrival = record { octets = frame; port = 0; seconds = 0; fraction = 0 }

-- one header eth of a and b of 48 bits and c of 16; ingress applies t, and egress applies e
abbrev both : List Call → List Call → List Decl
both ingress_calls egress_calls =
    type (codes "eth_t") (field (codes "a") 48 ∷ field (codes "b") 48 ∷ field (codes "c") 16 ∷ [])
    ∷ header (codes "eth_t") (codes "eth")
    ∷ state (codes "start") (named (codes "eth")) (end_of.State (codes "ingress"))
    ∷ action (codes "first") [] ingress_calls
    ∷ action (codes "second") [] egress_calls
    ∷ table (codes "t") (codes "first")
    ∷ table (codes "e") (codes "second")
    ∷ []

abbrev both_expanded : List Decl → Expanded
both_expanded ds = record {
  actions = map invocations_of (actions ds);
  lists = [];
  ingress = apply (codes "t");
  egress = apply (codes "e");
  order = 0 ∷ [];
}

-- session 7 goes to port 9
abbrev entries : List Decl → Entries
entries ds = record {
  tables = map no_entries (signature14 ds).tables;
  sessions = record { number = 7; port = 9 } ∷ [];
  colours = [];
}

abbrev set : List Decl → Setting
set ds = record { decls = ds; expanded = both_expanded ds; rule = Sequential; entries = entries ds }

-- clone_i2e(7); drop(); and at egress modify_field(eth.c, standard_metadata.instance_type)
abbrev clones : List Decl
clones =
    both
    (to_port_3 ∷ call (codes "clone_i2e") (n 7 ∷ []) ∷ call (codes "drop") [] ∷ [])
    (call (codes "modify_field") (at (codes "eth") (codes "c") ∷ at (codes "standard_metadata") (codes "instance_type") ∷ []) ∷ [])

-- the clone leaves on port 9, though the packet itself is dropped
a_clone_leaves : (Run14 (set clones) 256 (arrival ∷ [])).sent ≡ record { arrival = 0; port = 9; octets = 1 ∷ 2 ∷ 3 ∷ 4 ∷ 5 ∷ 6 ∷ 7 ∷ 8 ∷ 9 ∷ 10 ∷ 11 ∷ 12 ∷ 0 ∷ 1 ∷ [] } ∷ []
unfolding num bits parsed signature14 ingress14 reparse14 egress14 Run14 run
a_clone_leaves = refl

-- at egress recirculate(): four passes and no fifth, which is cut
abbrev returns : List Decl
returns = both (to_port_3 ∷ []) (call (codes "recirculate") [] ∷ [])

nothing_leaves : (Run14 (set returns) 4 (arrival ∷ [])).sent ≡ []
unfolding num bits parsed signature14 ingress14 reparse14 egress14 Run14 run
nothing_leaves = refl

one_is_cut : (Run14 (set returns) 4 (arrival ∷ [])).cut ≡ 1
unfolding num bits parsed signature14 ingress14 reparse14 egress14 Run14 run
one_is_cut = refl
