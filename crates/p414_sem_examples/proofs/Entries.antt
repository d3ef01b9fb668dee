-- Kinds of keys, which entry is hit, which branch runs, defaults, and the applications that are noted. The packet is 12 34 00 00,
-- so f.x is 0x1234.
use Rattle.std.proofs.Common.{◌≡◌, ℕ, List, [], ◌∷◌, Option, Some, None, refl}
use Rattle.std.specs.Prelude.{codes}
use Rattle.p4x_bits.specs.BitLists.{num, bits}
use Rattle.match_core.specs.declared.entries.KeyMatch.{KeyMatch}
use Rattle.match_core.specs.declared.entries.KeyMatch.TheVariants.{Exact, Lpm, Range}
use Rattle.match_core.specs.declared.entries.Entry.{Entry}
use Rattle.match_core.specs.declared.entries.DefaultCall.{DefaultCall}
use Rattle.fabric.specs.declared.items.Event.{Event}
use Rattle.p414_syntax.specs.declared.node.Label.{Label}
use Rattle.p414_syntax.specs.declared.node.Label.TheVariants as label
use Rattle.p414_syntax.specs.declared.parsers.Return.TheVariants as end_of
use Rattle.p414_syntax.specs.declared.tables.Read.{Read}
use Rattle.p414_syntax.specs.declared.tables.ReadKey.TheVariants as read_key
use Rattle.p414_syntax.specs.declared.tables.TableAttr.{TableAttr}
use Rattle.p414_syntax.specs.declared.tables.TableAttr.TheVariants as table_attr
use Rattle.p414_syntax.specs.declared.syntax.Decl.{Decl}
use Rattle.p414_syntax.specs.declared.syntax.Decl.TheVariants as decl
use Rattle.p414_syntax.specs.declared.syntax.Rule14.TheVariants.{Sequential}
use Rattle.p414_syntax.specs.Tree.{Stmt, no_statements, then, apply, apply_branches, no_branches, branch}
use Rattle.p414_sem.specs.Controls.{Setting}
use Rattle.p414_sem.specs.Parsing.{parsed}
use Rattle.p414_sem.specs.Signatures.{signature14}
use Rattle.p414_sem.specs.Passes.{none_preserved, ingress14, egress14}
use Rattle.p414_sem_examples.specs.Parts.{plain, positive, field, named, of, call, n, at, by_name, to_port_3, type, header, state, action, table}
use Rattle.p414_sem_examples.specs.Programs.{simply}
use Rattle.p414_sem_examples.specs.Packets.{first, pass}

abbrev packet : List ℕ
packet = 0x12 ∷ 0x34 ∷ 0 ∷ 0 ∷ []

abbrev f : List ℕ
f = codes "f"

-- Table u has the action set_y(v), which puts v into f.y, and the action act, which sends to port 3. Table t sends to port 3
-- too, and the tables on_1, on_2 and on_3 put their numbers into f.z.
abbrev puts_z : List ℕ → ℕ → Decl
puts_z name v = action name [] (call (codes "modify_field") (at f (codes "z") ∷ n v ∷ []) ∷ [])

abbrev reading : List Read → List TableAttr → List Decl
reading reads more =
    type (codes "four_t") (field (codes "x") 16 ∷ field (codes "y") 8 ∷ field (codes "z") 8 ∷ [])
    ∷ header (codes "four_t") f
    ∷ state (codes "start") (named f) (end_of.State (codes "ingress"))
    ∷ action (codes "set_y") (codes "v" ∷ []) (call (codes "modify_field") (at f (codes "y") ∷ by_name (codes "v") ∷ []) ∷ [])
    ∷ action (codes "act") [] (to_port_3 ∷ [])
    ∷ puts_z (codes "put_1") 1 ∷ puts_z (codes "put_2") 2 ∷ puts_z (codes "put_3") 3
    ∷ decl.Table (record {
      name = codes "u";
      attributes = table_attr.Reads reads ∷ table_attr.Actions (codes "set_y" ∷ codes "act" ∷ []) ∷ more;
    })
    ∷ table (codes "t") (codes "act")
    ∷ table (codes "on_1") (codes "put_1") ∷ table (codes "on_2") (codes "put_2") ∷ table (codes "on_3") (codes "put_3")
    ∷ []

-- By their names u is the last table, and set_y the second action of it.
abbrev filled : List Decl → Stmt → List Entry → Option DefaultCall → Setting
filled ds ingress entries default = record {
  decls = ds;
  expanded = simply ds ingress;
  rule = Sequential;
  entries =
      record {
        tables =
            record { entries = []; default = None } ∷ record { entries = []; default = None } ∷ record { entries = []; default = None }
            ∷ record { entries = []; default = None } ∷ record { entries = entries; default = default } ∷ [];
        sessions = [];
        colours = [];
      };
}

abbrev sends : Setting → Option (ℕ × List ℕ)
sends c = (pass c (first c) packet).sent

abbrev on_3 : ℕ → ℕ → Option (ℕ × List ℕ)
on_3 y z = Some (3, 0x12 ∷ 0x34 ∷ y ∷ z ∷ [])

-- an entry that puts v into f.y
abbrev puts : KeyMatch → ℕ → ℕ → Entry
puts key priority v = record { keys = key ∷ []; priority = priority; action = 1; arguments = v ∷ [] }

abbrev puts_default : ℕ → Option DefaultCall
puts_default v = Some (record { action = 1; arguments = v ∷ [] })

-- u with these branches, and then t
abbrev u_then_t : Stmt → Stmt
u_then_t branches = (then) ((then) no_statements (apply_branches (codes "u") branches)) (apply (codes "t"))

-- keys

abbrev of_x : List ℕ → List Read
of_x kind = record { key = read_key.Field (of f (codes "x")); mask = None; kind = kind } ∷ []

abbrev finds : List Read → List Entry → Option (ℕ × List ℕ)
finds reads entries = sends (filled (reading reads []) (u_then_t no_branches) entries None)

finds_longest_prefix : finds (of_x (codes "lpm")) (puts (Lpm 0 0) 0 1 ∷ puts (Lpm 0x1234 16) 0 2 ∷ puts (Lpm 0x1200 8) 0 3 ∷ []) ≡ on_3 2 0
unfolding num bits parsed signature14 ingress14 egress14
finds_longest_prefix = refl

-- the first range ends before 0x1234, and of the others the one of the smaller priority is hit
finds_range : finds (of_x (codes "range")) (puts (Range 0 0x1233) 1 4 ∷ puts (Range 0x1234 0x1234) 7 5 ∷ puts (Range 0 0xffff) 3 6 ∷ []) ≡ on_3 6 0
unfolding num bits parsed signature14 ingress14 egress14
finds_range = refl

-- f is valid, so its key is 1
finds_valid : finds (record { key = read_key.Instance (named f); mask = None; kind = codes "valid" } ∷ []) (puts (Exact 0) 0 4 ∷ puts (Exact 1) 0 5 ∷ []) ≡ on_3 5 0
unfolding num bits parsed signature14 ingress14 egress14
finds_valid = refl

-- reads { f.x mask 0xff00 : exact; }: the key is 0x1200, and the value of an entry is taken as it is written
finds_on_mask : finds (record { key = read_key.Field (of f (codes "x")); mask = Some (plain 0xff00); kind = codes "exact" } ∷ []) (puts (Exact 0x1234) 0 4 ∷ puts (Exact 0x1200) 0 5 ∷ []) ≡ on_3 5 0
unfolding num bits parsed signature14 ingress14 egress14
finds_on_mask = refl

-- branches: on a hit u puts 5 into f.y

abbrev on : Stmt → Label → List ℕ → Stmt
on before l table = branch before l (apply table)

abbrev hits : Stmt → Option (ℕ × List ℕ)
hits branches = sends (filled (reading (of_x (codes "exact")) []) (u_then_t branches) (puts (Exact 0x1234) 0 5 ∷ []) None)

-- f.x is no key of an entry
abbrev misses : List TableAttr → Option DefaultCall → Stmt → Option (ℕ × List ℕ)
misses more default branches =
    sends (filled (reading (of_x (codes "exact")) more) (u_then_t branches) (puts (Exact 0x9999) 0 5 ∷ []) default)

abbrev set_y : Label
set_y = label.Action (codes "set_y")

-- hit { apply(on_1); } miss { apply(on_2); }
abbrev hit_and_miss : Stmt
hit_and_miss = on (on no_branches label.Hit (codes "on_1")) label.Miss (codes "on_2")

runs_hit : hits hit_and_miss ≡ on_3 5 1
unfolding num bits parsed signature14 ingress14 egress14
runs_hit = refl

-- a miss on which no action runs
runs_miss : misses [] None hit_and_miss ≡ on_3 0 2
unfolding num bits parsed signature14 ingress14 egress14
runs_miss = refl

-- act { apply(on_2); } set_y { apply(on_1); } default { apply(on_3); }
abbrev by_action : Stmt
by_action =
    on (on (on no_branches (label.Action (codes "act")) (codes "on_2")) set_y (codes "on_1")) label.Default (codes "on_3")

runs_action : hits by_action ≡ on_3 5 1
unfolding num bits parsed signature14 ingress14 egress14
runs_action = refl

-- the default of the entries is set_y(9): its block runs on a miss too
runs_action_on_a_miss : misses [] (puts_default 9) by_action ≡ on_3 9 1
unfolding num bits parsed signature14 ingress14 egress14
runs_action_on_a_miss = refl

-- `default` runs where no action ran
runs_default_for_none : misses [] None by_action ≡ on_3 0 3
unfolding num bits parsed signature14 ingress14 egress14
runs_default_for_none = refl

-- and where no block has the name of the one that ran
runs_default_for_another : hits (on (on no_branches (label.Action (codes "act")) (codes "on_2")) label.Default (codes "on_3")) ≡ on_3 5 3
unfolding num bits parsed signature14 ingress14 egress14
runs_default_for_another = refl

-- defaults: default_action : set_y(300); its argument is kept at the 8 bits of f.y, and the default of the entries comes first

abbrev set_y_300 : List TableAttr
set_y_300 = table_attr.DefaultAction (codes "set_y") (Some (positive 300 ∷ [])) ∷ []

keeps_argument : misses set_y_300 None no_branches ≡ on_3 44 0
unfolding num bits parsed signature14 ingress14 egress14
keeps_argument = refl

default_of_the_entries : misses set_y_300 (puts_default 9) no_branches ≡ on_3 9 0
unfolding num bits parsed signature14 ingress14 egress14
default_of_the_entries = refl

-- applications: u is number 4 and t is number 3, which has no keys and misses

abbrev notes : List Entry → List Event
notes entries =
    let c = filled (reading (of_x (codes "exact")) []) (u_then_t no_branches) entries None in
    (ingress14 c (first c) (record { octets = packet; port = 0; instance = 0; kept = none_preserved c.decls })).events

notes_hit_and_default : notes (puts (Exact 0x9999) 0 5 ∷ puts (Exact 0x1234) 0 5 ∷ []) ≡ record { table = 4; entry = Some 1; action = Some 1 } ∷ record { table = 3; entry = None; action = Some 0 } ∷ []
unfolding num bits parsed signature14 ingress14 egress14
notes_hit_and_default = refl

notes_no_action : notes [] ≡ record { table = 4; entry = None; action = None } ∷ record { table = 3; entry = None; action = Some 0 } ∷ []
unfolding num bits parsed signature14 ingress14 egress14
notes_no_action = refl
