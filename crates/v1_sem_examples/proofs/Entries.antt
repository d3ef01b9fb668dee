-- Entries of each kind of key, the action that ran as a `switch` sees it, the applications that are noted, and which table a
-- direct counter counts for. The packet is 12 34 00 00, but where another one stands.
use Rattle.std.proofs.Common.{◌≡◌, ℕ, List, [], ◌∷◌, refl}
use Rattle.std.specs.Prelude.{codes, Option, Some, None}
use Rattle.p4x_bits.specs.BitLists.{num, bits}
use Rattle.state_store.specs.declared.cells.Cells.TheVariants.{Counts}
use Rattle.match_core.specs.declared.entries.KeyMatch.{KeyMatch}
use Rattle.match_core.specs.declared.entries.KeyMatch.TheVariants.{Exact, Ternary, Lpm, Range}
use Rattle.match_core.specs.declared.entries.Entry.{Entry}
use Rattle.match_core.specs.declared.entries.TableFill.{TableFill}
use Rattle.match_core.specs.declared.entries.DefaultCall.{DefaultCall}
use Rattle.fabric.specs.declared.items.Event.{Event}
use Rattle.fabric.specs.Queue.{run}
use Rattle.p416_syntax.specs.declared.parts.Member.TheVariants as member_of
use Rattle.p416_syntax.specs.declared.parts.CounterType.TheVariants.{Packets, Bytes}
use Rattle.p416_syntax.specs.declared.controls.ActionName.TheVariants as action_name
use Rattle.p416_syntax.specs.declared.controls.Instance.TheVariants as instance
use Rattle.p416_syntax.specs.declared.controls.Local.{Local}
use Rattle.p416_syntax.specs.declared.controls.Local.TheVariants as local
use Rattle.p416_syntax.specs.declared.controls.Property.{Property}
use Rattle.p416_syntax.specs.declared.controls.Property.TheVariants as property
use Rattle.p416_syntax.specs.declared.controls.TableKey.{TableKey}
use Rattle.p416_syntax.specs.declared.node.CaseLabel.TheVariants as label
use Rattle.p416_syntax.specs.declared.program.Syntax16.{Syntax16}
use Rattle.p416_syntax.specs.Tree.{Exp16, Stmt16, assign, switch, no_cases, case_of}
use Rattle.v1_core.specs.Signatures.{signature16}
use Rattle.v1_core.specs.Blocks.{control16}
use Rattle.v1_core.specs.Parsing.{parse16}
use Rattle.v1_core.specs.Passes.{ingress16, reparse16, egress16}
use Rattle.v1_core.specs.Runs.{Run16}
use Rattle.v1_sem_examples.specs.Parts.{n, bits_type, param, field, action, table, key, an_action, method, calls, given, does, statements, var as variable}
use Rattle.v1_sem_examples.specs.Samples.{doing, program, h_x, h_y, h_z, packet}
use Rattle.v1_sem_examples.specs.Packets.{Outcome, plainly, filled, outcome, sends, cells, ingress_events, egress_events}

abbrev i_x : Exp16
i_x = field (codes "i") (codes "x")

abbrev applies : List ℕ → Stmt16
applies text = does (method (variable text) (codes "apply") [])

-- action a(bit<8> v) { hdr.h.y = v; }
abbrev action_a : Local
action_a = action (codes "a") (param None (bits_type 8) (codes "v") ∷ []) (statements (assign h_y (variable (codes "v")) ∷ []))

-- an entry that calls a
abbrev entry : List KeyMatch → ℕ → ℕ → Entry
entry keys priority v = record { keys = keys; priority = priority; action = 0; arguments = v ∷ [] }

-- kinds of keys

-- table t { key = { KEYS } actions = { a; } }, which is applied
abbrev matching : List TableKey → Syntax16
matching keys =
    program (record (doing (applies (codes "t") ∷ [])) {
      ingress_locals =
          action_a ∷ table (codes "t") (property.Key keys ∷ property.Actions (an_action (codes "a") ∷ []) ∷ []) ∷ [];
    })

abbrev with_entries : List TableKey → List Entry → List ℕ → Outcome
with_entries keys entries octets = outcome (filled (matching keys) (record { entries = entries; default = None } ∷ [])) octets

-- of the prefixes /0, /8 and /16 that match 12 34 the longest is hit
longest_prefix : with_entries (key h_z (codes "lpm") ∷ []) (entry (Lpm 0 0 ∷ []) 0 1 ∷ entry (Lpm 0x1200 8 ∷ []) 0 2 ∷ entry (Lpm 0x1234 16 ∷ []) 0 3 ∷ []) (0x12 ∷ 0x34 ∷ 0x12 ∷ 0x34 ∷ []) ≡ sends 3 (0x12 ∷ 3 ∷ 0x12 ∷ 0x34 ∷ []) 8
unfolding num bits run signature16 control16 parse16 ingress16 reparse16 egress16 Run16
longest_prefix = refl

-- of three that match 12 34 the first of those with the smallest priority, 10
smallest_priority : with_entries (key h_z (codes "ternary") ∷ []) (entry (Ternary 0 0 ∷ []) 11 6 ∷ entry (Ternary 0x1200 0xff00 ∷ []) 10 4 ∷ entry (Ternary 0x0034 0x00ff ∷ []) 10 5 ∷ []) (0x12 ∷ 0x34 ∷ 0x12 ∷ 0x34 ∷ []) ≡ sends 3 (0x12 ∷ 4 ∷ 0x12 ∷ 0x34 ∷ []) 8
unfolding num bits run signature16 control16 parse16 ingress16 reparse16 egress16 Run16
smallest_priority = refl

-- the first entry is before 0x12, the second one has priority 7, and the third one 3
ranges : with_entries (key h_x (codes "range") ∷ key h_y (codes "exact") ∷ []) (entry (Range 0 0x11 ∷ Exact 0x34 ∷ []) 1 4 ∷ entry (Range 0x12 0x12 ∷ Exact 0x34 ∷ []) 7 5 ∷ entry (Range 0 255 ∷ Exact 0x34 ∷ []) 3 6 ∷ []) packet ≡ sends 3 (0x12 ∷ 6 ∷ 0 ∷ 0 ∷ []) 8
unfolding num bits run signature16 control16 parse16 ingress16 reparse16 egress16 Run16
ranges = refl

-- a field of an invalid header is the key 0, also behind hdr.i.x = 8w5
abbrev of_an_invalid_header : Syntax16
of_an_invalid_header =
    program (record (doing (assign i_x (n 8 5) ∷ applies (codes "t") ∷ [])) {
      ingress_locals =
          action_a ∷ table (codes "t") (property.Key (key i_x (codes "exact") ∷ []) ∷ property.Actions (an_action (codes "a") ∷ []) ∷ []) ∷ [];
    })

matches_0 : outcome (filled of_an_invalid_header (record { entries = entry (Exact 5 ∷ []) 0 1 ∷ entry (Exact 0 ∷ []) 0 2 ∷ []; default = None } ∷ [])) packet ≡ sends 3 (0x12 ∷ 2 ∷ 0 ∷ 0 ∷ []) 9
unfolding num bits run signature16 control16 parse16 ingress16 reparse16 egress16 Run16
matches_0 = refl

-- the action that ran: switch (t.apply().action_run) { a: { hdr.h.z = 16w1; } default: { hdr.h.z = 16w2; } } on a miss

abbrev sets_z : ℕ → Stmt16
sets_z v = statements (assign h_z (n 16 v) ∷ [])

abbrev switching : List Property → Option DefaultCall → Outcome
switching properties default =
    outcome
    (filled
    (program (record (doing (switch (codes "t") (case_of (case_of no_cases (label.Action (codes "a")) (sets_z 1)) label.Default (sets_z 2)) ∷ [])) {
      ingress_locals =
          action_a ∷ table (codes "t") (property.Key (key h_x (codes "exact") ∷ []) ∷ properties) ∷ [];
    }))
    (record { entries = []; default = default } ∷ []))
    packet

-- actions = { a; NoAction; } default_action = NoAction(); no action ran
no_action_ran : switching (property.Actions (an_action (codes "a") ∷ action_name.NoAction ∷ []) ∷ property.DefaultAction action_name.NoAction (given []) ∷ []) None ≡ sends 3 (0x12 ∷ 0x34 ∷ 0 ∷ 2 ∷ []) 8
unfolding num bits run signature16 control16 parse16 ingress16 reparse16 egress16 Run16
no_action_ran = refl

-- no `default_action`, and the default of the entries is a(9)
the_default_of_the_entries_ran : switching (property.Actions (an_action (codes "a") ∷ []) ∷ []) (Some (record { action = 0; arguments = 9 ∷ [] })) ≡ sends 3 (0x12 ∷ 9 ∷ 0 ∷ 1 ∷ []) 9
unfolding num bits run signature16 control16 parse16 ingress16 reparse16 egress16 Run16
the_default_of_the_entries_ran = refl

-- applications

-- ingress: table t { actions = { a; } default_action = a(8w7); } and table b { actions = { NoAction; } }, applied in this order
-- compute: action q() { } and table z { actions = { q; } default_action = q(); }, applied
-- By their names b is number 0, t is 1 and z is 2.
abbrev applying_three : Syntax16
applying_three =
    program (record (doing (applies (codes "t") ∷ applies (codes "b") ∷ [])) {
      ingress_locals =
          action_a
          ∷ table (codes "t") (property.Actions (an_action (codes "a") ∷ []) ∷ property.DefaultAction (an_action (codes "a")) (given (n 8 7 ∷ [])) ∷ [])
          ∷ table (codes "b") (property.Actions (action_name.NoAction ∷ []) ∷ []) ∷ [];
      compute_locals =
          action (codes "q") [] (statements [])
          ∷ table (codes "z") (property.Actions (an_action (codes "q") ∷ []) ∷ property.DefaultAction (an_action (codes "q")) (given []) ∷ [])
          ∷ [];
      compute = applies (codes "z") ∷ [];
    })

abbrev missed : ℕ → Option ℕ → Event
missed number ran = record { table = number; entry = None; action = ran }

notes_those_of_ingress : ingress_events (plainly applying_three) packet ≡ missed 1 (Some 0) ∷ missed 0 None ∷ []
unfolding num bits run signature16 control16 parse16 ingress16 reparse16 egress16 Run16
notes_those_of_ingress = refl

notes_those_behind_ingress : egress_events (plainly applying_three) packet ≡ missed 2 (Some 0) ∷ []
unfolding num bits run signature16 control16 parse16 ingress16 reparse16 egress16 Run16
notes_those_behind_ingress = refl

-- Verify stands with ingress: there action q() { hdr.h.y = 8w1; } and table z { actions = { q; } default_action = q(); }, and in
-- ingress a table t with an entry that is hit. By their names t is number 0 and z is 1.
abbrev applying_in_verify : Syntax16
applying_in_verify =
    program (record (doing (applies (codes "t") ∷ [])) {
      verify_locals =
          action (codes "q") [] (statements (assign h_y (n 8 1) ∷ []))
          ∷ table (codes "z") (property.Actions (an_action (codes "q") ∷ []) ∷ property.DefaultAction (an_action (codes "q")) (given []) ∷ [])
          ∷ [];
      verify = applies (codes "z") ∷ [];
      ingress_locals =
          action_a ∷ action (codes "c") [] (statements [])
          ∷ table (codes "t") (property.Key (key h_y (codes "exact") ∷ []) ∷ property.Actions (an_action (codes "c") ∷ an_action (codes "a") ∷ []) ∷ [])
          ∷ [];
    })

abbrev hit_second : List TableFill
hit_second =
    record { entries = entry (Exact 0x34 ∷ []) 0 5 ∷ record { keys = Exact 1 ∷ []; priority = 0; action = 1; arguments = [] } ∷ []; default = None }
    ∷ record { entries = []; default = None } ∷ []

notes_those_of_verify : ingress_events (filled applying_in_verify hit_second) packet ≡ missed 1 (Some 0) ∷ record { table = 0; entry = Some 1; action = Some 1 } ∷ []
unfolding num bits run signature16 control16 parse16 ingress16 reparse16 egress16 Run16
notes_those_of_verify = refl

-- direct counters

-- direct_counter(CounterType.packets) d; direct_counter(CounterType.bytes) e;
-- action f() { d.count(); }
-- action a() { hdr.h.y = 8w1; f(); d.count(); }
-- table t { key = { hdr.h.x : exact; } actions = { a; f; } counters = d; }
-- table u { key = { hdr.h.x : exact; } actions = { a; } counters = e; }
abbrev counts_d : Stmt16
counts_d = does (method (variable (codes "d")) (codes "count") [])

abbrev counting : List Local
counting =
    local.Instance [] (instance.DirectCounter (member_of.CounterType Packets) (codes "d"))
    ∷ local.Instance [] (instance.DirectCounter (member_of.CounterType Bytes) (codes "e"))
    ∷ action (codes "f") [] (statements (counts_d ∷ []))
    ∷ action (codes "a") [] (statements (assign h_y (n 8 1) ∷ does (calls (codes "f") []) ∷ counts_d ∷ []))
    ∷ table (codes "t") (property.Key (key h_x (codes "exact") ∷ []) ∷ property.Actions (an_action (codes "a") ∷ an_action (codes "f") ∷ []) ∷ property.Counters (codes "d") ∷ [])
    ∷ table (codes "u") (property.Key (key h_x (codes "exact") ∷ []) ∷ property.Actions (an_action (codes "a") ∷ []) ∷ property.Counters (codes "e") ∷ [])
    ∷ []

abbrev for_0x12 : TableFill
for_0x12 = record { entries = record { keys = Exact 0x12 ∷ []; priority = 0; action = 0; arguments = [] } ∷ []; default = None }

-- both are hit: d counts twice for t, also in the action that its action calls, and neither counts for u
counts_for_its_own_table : cells (filled (program (record (doing (applies (codes "t") ∷ applies (codes "u") ∷ [])) { ingress_locals = counting })) (for_0x12 ∷ for_0x12 ∷ [])) packet ≡ Counts ((2, 0) ∷ []) ∷ Counts ((0, 0) ∷ []) ∷ []
unfolding num bits run signature16 control16 parse16 ingress16 reparse16 egress16 Run16
counts_for_its_own_table = refl
