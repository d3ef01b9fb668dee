-- Tables: conditions, `switch`, defaults, direct counters, and what a control plane sees.
use Rattle.std.proofs.Common.{◌≡◌, ℕ, List, [], ◌∷◌, refl}
use Rattle.std.specs.Prelude.{codes, true, false, Option, Some, None}
use Rattle.p4x_bits.specs.BitLists.{num, bits}
use Rattle.state_store.specs.declared.cells.Cells.TheVariants.{Counts}
use Rattle.state_store.specs.declared.shapes.Kind.TheVariants.{Both}
use Rattle.state_store.specs.declared.shapes.Shape.TheVariants as shape
use Rattle.match_core.specs.declared.signatures.KeyKind.TheVariants.{Exact, Lpm}
use Rattle.match_core.specs.declared.entries.KeyMatch.TheVariants as key_match
use Rattle.match_core.specs.declared.entries.Entry.{Entry}
use Rattle.match_core.specs.declared.entries.TableFill.{TableFill}
use Rattle.match_core.specs.declared.entries.DefaultCall.{DefaultCall}
use Rattle.fabric.specs.Queue.{run}
use Rattle.p416_syntax.specs.declared.parts.Note.TheVariants as note
use Rattle.p416_syntax.specs.declared.parts.Member.TheVariants as member_of
use Rattle.p416_syntax.specs.declared.parts.CounterType.TheVariants.{PacketsAndBytes}
use Rattle.p416_syntax.specs.declared.controls.ActionName.TheVariants as action_name
use Rattle.p416_syntax.specs.declared.controls.Instance.TheVariants as instance
use Rattle.p416_syntax.specs.declared.controls.Local.{Local}
use Rattle.p416_syntax.specs.declared.controls.Local.TheVariants as local
use Rattle.p416_syntax.specs.declared.controls.Property.TheVariants as property
use Rattle.p416_syntax.specs.declared.node.BinaryOperator.TheVariants.{And, Or}
use Rattle.p416_syntax.specs.declared.node.CaseLabel.TheVariants as label
use Rattle.p416_syntax.specs.declared.program.Syntax16.{Syntax16}
use Rattle.p416_syntax.specs.Tree.{Exp16, truth, member, binary, Stmt16, assign, if_then, if_else, switch, no_cases, case_of}
use Rattle.v1_core.specs.Signatures.{signature16}
use Rattle.v1_core.specs.Blocks.{control16}
use Rattle.v1_core.specs.Parsing.{parse16}
use Rattle.v1_core.specs.Passes.{ingress16, reparse16, egress16}
use Rattle.v1_core.specs.Runs.{Run16}
use Rattle.v1_sem_examples.specs.Parts.{n, number, bits_type, param, hdr, action, table, key, an_action, method, calls, given, does, statements, var as variable}
use Rattle.v1_sem_examples.specs.Samples.{doing, program, h_x, h_y, h_z, packet}
use Rattle.v1_sem_examples.specs.Packets.{Outcome, filled, outcome, sends, cells}

-- direct_counter(CounterType.packets_and_bytes) dc;
-- action a(bit<8> v) { hdr.h.y = v; dc.count(); }
-- action b() { hdr.h.y = 8w0xbb; dc.count(); }
-- table t { key = { hdr.h.x : exact; } actions = { a; b; NoAction; } counters = dc; default_action = b(); }
abbrev locals : List Local
locals =
    local.Instance [] (instance.DirectCounter (member_of.CounterType PacketsAndBytes) (codes "dc"))
    ∷ action (codes "a") (param None (bits_type 8) (codes "v") ∷ [])
    (statements (assign h_y (variable (codes "v")) ∷ does (method (variable (codes "dc")) (codes "count") []) ∷ []))
    ∷ action (codes "b") []
    (statements (assign h_y (n 8 0xbb) ∷ does (method (variable (codes "dc")) (codes "count") []) ∷ []))
    ∷ table (codes "t")
    (property.Key (key h_x (codes "exact") ∷ [])
    ∷ property.Actions (an_action (codes "a") ∷ an_action (codes "b") ∷ action_name.NoAction ∷ [])
    ∷ property.Counters (codes "dc") ∷ property.DefaultAction (an_action (codes "b")) (given []) ∷ [])
    ∷ []

abbrev applying : List Stmt16 → Syntax16
applying xs = program (record (doing xs) { ingress_locals = locals })

-- an entry for this x, which is the second of two, calls a with 0xaa
abbrev entry : ℕ → Entry
entry x = record { keys = key_match.Exact x ∷ []; priority = 0; action = 0; arguments = 0xaa ∷ [] }

abbrev fills : List TableFill
fills = record { entries = entry 0x99 ∷ entry 0x12 ∷ []; default = None } ∷ []

-- no entry for this x, and these defaults
abbrev missing : Option DefaultCall → List TableFill
missing default = record { entries = entry 0x99 ∷ []; default = default } ∷ []

abbrev apply : Exp16
apply = method (variable (codes "t")) (codes "apply") []

abbrev hits : Exp16
hits = member apply (codes "hit")

abbrev misses : Exp16
misses = member apply (codes "miss")

-- a hit: `apply`, and the two statements of the action
runs_the_entry : outcome (filled (applying (does apply ∷ [])) fills) packet ≡ sends 3 (0x12 ∷ 0xaa ∷ 0 ∷ 0 ∷ []) 9
unfolding num bits run signature16 control16 parse16 ingress16 reparse16 egress16 Run16
runs_the_entry = refl

counts_the_entry : cells (filled (applying (does apply ∷ [])) fills) packet ≡ Counts ((0, 0) ∷ (1, 4) ∷ []) ∷ []
unfolding num bits run signature16 control16 parse16 ingress16 reparse16 egress16 Run16
counts_the_entry = refl

-- a miss: the table's own default runs, and its direct counter counts nothing
runs_the_default : outcome (filled (applying (does apply ∷ [])) (missing None)) packet ≡ sends 3 (0x12 ∷ 0xbb ∷ 0 ∷ 0 ∷ []) 9
unfolding num bits run signature16 control16 parse16 ingress16 reparse16 egress16 Run16
runs_the_default = refl

counts_nothing : cells (filled (applying (does apply ∷ [])) (missing None)) packet ≡ Counts ((0, 0) ∷ []) ∷ []
unfolding num bits run signature16 control16 parse16 ingress16 reparse16 egress16 Run16
counts_nothing = refl

-- the default of the entries comes before the table's own
runs_the_default_of_the_entries : outcome (filled (applying (does apply ∷ [])) (missing (Some (record { action = 0; arguments = 0xcc ∷ [] })))) packet ≡ sends 3 (0x12 ∷ 0xcc ∷ 0 ∷ 0 ∷ []) 9
unfolding num bits run signature16 control16 parse16 ingress16 reparse16 egress16 Run16
runs_the_default_of_the_entries = refl

-- a call of the action that isn't made by the table counts nothing
counts_no_call : cells (filled (applying (does (calls (codes "a") (n 8 1 ∷ [])) ∷ [])) fills) packet ≡ Counts ((0, 0) ∷ (0, 0) ∷ []) ∷ []
unfolding num bits run signature16 control16 parse16 ingress16 reparse16 egress16 Run16
counts_no_call = refl

-- conditions

applies_in_a_condition : outcome (filled (applying (if_else hits (assign h_x (n 8 1)) (assign h_x (n 8 2)) ∷ [])) fills) packet ≡ sends 3 (1 ∷ 0xaa ∷ 0 ∷ 0 ∷ []) 10
unfolding num bits run signature16 control16 parse16 ingress16 reparse16 egress16 Run16
applies_in_a_condition = refl

misses_in_a_condition : outcome (filled (applying (if_then misses (assign h_x (n 8 1)) ∷ [])) (missing None)) packet ≡ sends 3 (1 ∷ 0xbb ∷ 0 ∷ 0 ∷ []) 10
unfolding num bits run signature16 control16 parse16 ingress16 reparse16 egress16 Run16
misses_in_a_condition = refl

-- `&&` and `||` evaluate what they need: the table isn't applied
skips_behind_and : outcome (filled (applying (if_then (binary And (truth false) hits) (assign h_x (n 8 1)) ∷ [])) fills) packet ≡ sends 3 (0x12 ∷ 0x34 ∷ 0 ∷ 0 ∷ []) 7
unfolding num bits run signature16 control16 parse16 ingress16 reparse16 egress16 Run16
skips_behind_and = refl

skips_behind_or : outcome (filled (applying (if_then (binary Or (truth true) hits) (assign h_x (n 8 1)) ∷ [])) fills) packet ≡ sends 3 (1 ∷ 0x34 ∷ 0 ∷ 0 ∷ []) 8
unfolding num bits run signature16 control16 parse16 ingress16 reparse16 egress16 Run16
skips_behind_or = refl

applies_behind_and : outcome (filled (applying (if_then (binary And (truth true) hits) (assign h_x (n 8 1)) ∷ [])) fills) packet ≡ sends 3 (1 ∷ 0xaa ∷ 0 ∷ 0 ∷ []) 10
unfolding num bits run signature16 control16 parse16 ingress16 reparse16 egress16 Run16
applies_behind_and = refl

-- switch

abbrev sets_z : ℕ → Stmt16
sets_z v = statements (assign h_z (n 16 v) ∷ [])

abbrev labelled_a : Stmt16 → Stmt16
labelled_a before = case_of before (label.Action (codes "a")) (sets_z 1)

abbrev labelled_b : Stmt16 → Stmt16
labelled_b before = case_of before (label.Action (codes "b")) (sets_z 2)

abbrev by_default : Stmt16 → Stmt16
by_default before = case_of before label.Default (sets_z 3)

abbrev switches : Stmt16 → List TableFill → Outcome
switches cases f = outcome (filled (applying (switch (codes "t") cases ∷ [])) f) packet

takes_the_label : switches (by_default (labelled_b (labelled_a no_cases))) fills ≡ sends 3 (0x12 ∷ 0xaa ∷ 0 ∷ 1 ∷ []) 10
unfolding num bits run signature16 control16 parse16 ingress16 reparse16 egress16 Run16
takes_the_label = refl

takes_the_label_on_a_miss : switches (labelled_b (labelled_a no_cases)) (missing None) ≡ sends 3 (0x12 ∷ 0xbb ∷ 0 ∷ 2 ∷ []) 10
unfolding num bits run signature16 control16 parse16 ingress16 reparse16 egress16 Run16
takes_the_label_on_a_miss = refl

-- where no label fits `default` runs, wherever it stands, and else nothing
takes_the_default : switches (labelled_b (by_default no_cases)) fills ≡ sends 3 (0x12 ∷ 0xaa ∷ 0 ∷ 3 ∷ []) 10
unfolding num bits run signature16 control16 parse16 ingress16 reparse16 egress16 Run16
takes_the_default = refl

takes_none : switches (labelled_b no_cases) fills ≡ sends 3 (0x12 ∷ 0xaa ∷ 0 ∷ 0 ∷ []) 9
unfolding num bits run signature16 control16 parse16 ingress16 reparse16 egress16 Run16
takes_none = refl

-- of two that have one label the first counts
takes_the_first : switches (case_of (labelled_a no_cases) (label.Action (codes "a")) (sets_z 9)) fills ≡ sends 3 (0x12 ∷ 0xaa ∷ 0 ∷ 1 ∷ []) 10
unfolding num bits run signature16 control16 parse16 ingress16 reparse16 egress16 Run16
takes_the_first = refl

-- the signature

-- `NoAction` isn't in it, a table without `size` has room for 1024 entries, and actions stand in the order of their names
is_seen : signature16 (applying []) ≡ record {
  tables =
      record {
        name = codes "t";
        keys = record { kind = Exact; width = 8 } ∷ [];
        actions =
            record { name = codes "a"; widths = 8 ∷ [] } ∷ record { name = codes "b"; widths = [] } ∷ [];
        size = 1024;
        direct = Some 0;
      }
      ∷ [];
  objects = record { name = codes "dc"; shape = shape.Direct Both 0 } ∷ [];
}
unfolding signature16
is_seen = refl

-- @name("z") register<bit<16>>(32w4) r;
-- @name("y") action a(bit<16> v) { }
-- action b() { }
-- @name("c") table t2 { key = { hdr.h.isValid() : exact; hdr.h.z : lpm; } actions = { a; b; a; } size = 4294967296; }
-- table u { actions = { NoAction; } }
abbrev named_locals : List Local
named_locals =
    local.Instance (note.Name (codes "z") ∷ []) (instance.Register (number 16) (n 32 4) (codes "r"))
    ∷ local.Action (record {
      notes = note.Name (codes "y") ∷ [];
      name = codes "a";
      parameters = param None (bits_type 16) (codes "v") ∷ [];
      body = statements [];
    })
    ∷ action (codes "b") [] (statements [])
    ∷ table (codes "u") (property.Actions (action_name.NoAction ∷ []) ∷ [])
    ∷ local.Table (record {
      notes = note.Name (codes "c") ∷ [];
      name = codes "t2";
      properties =
          property.Key (key (method (hdr (codes "h")) (codes "isValid") []) (codes "exact") ∷ key h_z (codes "lpm") ∷ [])
          ∷ property.Actions (an_action (codes "a") ∷ an_action (codes "b") ∷ an_action (codes "a") ∷ [])
          ∷ property.Size (number 4294967296) ∷ [];
    })
    ∷ []

-- by control-plane names, in their order; a truth value is one bit that is matched exactly, an action that is listed twice
-- stands once, and a size is at most the greatest number of 32 bits
is_seen_by_names : signature16 (program (record (doing []) { ingress_locals = named_locals })) ≡ record {
  tables =
      record {
        name = codes "c";
        keys = record { kind = Exact; width = 1 } ∷ record { kind = Lpm; width = 16 } ∷ [];
        actions =
            record { name = codes "b"; widths = [] } ∷ record { name = codes "y"; widths = 16 ∷ [] } ∷ [];
        size = 4294967295;
        direct = None;
      }
      ∷ record { name = codes "u"; keys = []; actions = []; size = 1024; direct = None } ∷ [];
  objects = record { name = codes "z"; shape = shape.Register 16 4 } ∷ [];
}
unfolding signature16
is_seen_by_names = refl
