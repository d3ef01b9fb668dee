-- Calculated fields with conditions and the payload, headers that an action adds, keys that are matched on a mask, and what
-- packets keep that take a further pass.
use Rattle.std.proofs.Common.{◌≡◌, ℕ, false, List, [], ◌∷◌, ◌++◌, map, Option, Some, None, refl}
use Rattle.std.specs.Prelude.{codes}
use Rattle.p4x_bits.specs.BitLists.{num, bits}
use Rattle.match_core.specs.declared.entries.KeyMatch.TheVariants.{Ternary}
use Rattle.match_core.specs.declared.entries.Entry.{Entry}
use Rattle.match_core.specs.declared.entries.Entries.{Entries}
use Rattle.fabric.specs.declared.packets.Arrival.{Arrival}
use Rattle.fabric.specs.Queue.{run}
use Rattle.p414_syntax.specs.declared.node.BinaryOperator.TheVariants.{Equal}
use Rattle.p414_syntax.specs.declared.node.Label.TheVariants as label
use Rattle.p414_syntax.specs.declared.calculations.Calc.{Calc}
use Rattle.p414_syntax.specs.declared.calculations.CalcCond.TheVariants as calc_cond
use Rattle.p414_syntax.specs.declared.calculations.CalcUse.TheVariants.{Update, Verify}
use Rattle.p414_syntax.specs.declared.calculations.Item.{Item}
use Rattle.p414_syntax.specs.declared.calculations.Item.TheVariants as item
use Rattle.p414_syntax.specs.declared.parsers.PValue.TheVariants as pvalue
use Rattle.p414_syntax.specs.declared.parsers.CaseValues.TheVariants as case_values
use Rattle.p414_syntax.specs.declared.parsers.CaseTarget.TheVariants as case_target
use Rattle.p414_syntax.specs.declared.parsers.Return.{Return}
use Rattle.p414_syntax.specs.declared.parsers.Return.TheVariants as end_of
use Rattle.p414_syntax.specs.declared.tables.ReadKey.TheVariants as read_key
use Rattle.p414_syntax.specs.declared.tables.TableAttr.TheVariants as table_attr
use Rattle.p414_syntax.specs.declared.actions.Call.{Call}
use Rattle.p414_syntax.specs.declared.syntax.Decl.{Decl}
use Rattle.p414_syntax.specs.declared.syntax.Decl.TheVariants as decl
use Rattle.p414_syntax.specs.declared.syntax.Rule14.{Rule14}
use Rattle.p414_syntax.specs.declared.syntax.Rule14.TheVariants.{Sequential, Parallel}
use Rattle.p414_syntax.specs.Tree.{Stmt, no_statements, apply, apply_branches, no_branches, branch, if_then, no_else, else_block, number, binary}
use Rattle.p414_syntax.specs.Tree.{field as field_operand}
use Rattle.p414_syntax.specs.Names.{Name}
use Rattle.p414_syntax.specs.Arguments.{actions, invocations_of}
use Rattle.p414_syntax.specs.Expansion.{lists, items_in}
use Rattle.p414_sem.specs.Expanded.{Expanded}
use Rattle.p414_sem.specs.Controls.{Setting}
use Rattle.p414_sem.specs.Parsing.{parsed}
use Rattle.p414_sem.specs.Signatures.{signature14}
use Rattle.p414_sem.specs.Passes.{ingress14, reparse14, egress14}
use Rattle.p414_sem.specs.Runs.{Run14}
use Rattle.p414_sem_examples.specs.Parts.{plain, positive, field, named, of, call, n, at, by_name, to_port_3, type, header, state, action, table}
use Rattle.p414_sem_examples.specs.Programs.{simply, four, applies_t}
use Rattle.p414_sem_examples.specs.Packets.{setting, first, pass, sent, no_entries}

abbrev f : Name
f = codes "f"

abbrev sends : List Decl → List ℕ → Option (ℕ × List ℕ)
sends ds octets = sent (setting ds (simply ds applies_t) Sequential []) octets

-- calculated fields

-- the program with the header f, which sends to port 3, and with these declarations
abbrev summing : List Decl → List Decl
summing objects = four (field (codes "y") 8) [] objects

abbrev calculation : Name → List Item → Name → List Decl → List Decl
calculation name items algorithm rest =
    decl.FieldList (record { name = name; items = items })
    ∷ decl.FieldListCalculation (record { name = name; input = name ∷ []; algorithm = algorithm; output_width = plain 16 })
    ∷ rest

abbrev calculated_x : List Calc → Decl
calculated_x entries = decl.CalculatedField (record { field = of f (codes "x"); entries = entries })

-- x is csum16 over y, z and what isn't parsed, of which the last word is filled with zeros
abbrev over_payload : List Decl
over_payload =
    summing
    (calculation (codes "l") (item.Field (of f (codes "y")) ∷ item.Field (of f (codes "z")) ∷ item.Payload ∷ []) (codes "csum16")
    (calculated_x (record { used_to = Update; calculation = codes "l"; condition = None } ∷ []) ∷ []))

sums_the_payload : sends over_payload (0 ∷ 0 ∷ 1 ∷ 2 ∷ 3 ∷ 4 ∷ []) ≡ Some (3, 0xfb ∷ 0xf9 ∷ 1 ∷ 2 ∷ 3 ∷ 4 ∷ [])
unfolding num bits parsed signature14 ingress14 egress14
sums_the_payload = refl

fills_the_last_word : sends over_payload (0 ∷ 0 ∷ 1 ∷ 2 ∷ 3 ∷ []) ≡ Some (3, 0xfb ∷ 0xfd ∷ 1 ∷ 2 ∷ 3 ∷ [])
unfolding num bits parsed signature14 ingress14 egress14
fills_the_last_word = refl

-- the first of three entries whose condition holds: 0x1111 where y is 1, 0x2222 where z is 2, and else 0x3333
abbrev word : ℕ → List Item
word value = item.Number (record { width = Some 16; value = value }) ∷ []

abbrev of_three : List Decl
of_three =
    summing
    (calculation (codes "l1") (word 0x1111) (codes "identity")
    (calculation (codes "l2") (word 0x2222) (codes "identity")
    (calculation (codes "l3") (word 0x3333) (codes "identity")
    (calculated_x
    (record { used_to = Update; calculation = codes "l1"; condition = Some (calc_cond.Equal (of f (codes "y")) (plain 1)) }
    ∷ record { used_to = Update; calculation = codes "l2"; condition = Some (calc_cond.Equal (of f (codes "z")) (plain 2)) }
    ∷ record { used_to = Update; calculation = codes "l3"; condition = None }
    ∷ [])
    ∷ []))))

updates_by_the_first : sends of_three (0 ∷ 0 ∷ 1 ∷ 2 ∷ []) ≡ Some (3, 0x11 ∷ 0x11 ∷ 1 ∷ 2 ∷ [])
unfolding num bits parsed signature14 ingress14 egress14
updates_by_the_first = refl

updates_by_the_second : sends of_three (0 ∷ 0 ∷ 0 ∷ 2 ∷ []) ≡ Some (3, 0x22 ∷ 0x22 ∷ 0 ∷ 2 ∷ [])
unfolding num bits parsed signature14 ingress14 egress14
updates_by_the_second = refl

updates_by_the_last : sends of_three (0 ∷ 0 ∷ 0 ∷ 0 ∷ []) ≡ Some (3, 0x33 ∷ 0x33 ∷ 0 ∷ 0 ∷ [])
unfolding num bits parsed signature14 ingress14 egress14
updates_by_the_last = refl

-- x is verified only where y is 1
abbrev verifying : List Decl
verifying =
    summing
    (calculation (codes "l1") (word 0x1111) (codes "identity")
    (calculated_x
    (record { used_to = Verify; calculation = codes "l1"; condition = Some (calc_cond.Equal (of f (codes "y")) (plain 1)) } ∷ [])
    ∷ []))

verifies_nothing : sends verifying (0 ∷ 0 ∷ 0 ∷ 0 ∷ []) ≡ Some (3, 0 ∷ 0 ∷ 0 ∷ 0 ∷ [])
unfolding num bits parsed signature14 ingress14 egress14
verifies_nothing = refl

refuses_a_wrong_sum : sends verifying (0 ∷ 0 ∷ 1 ∷ 0 ∷ []) ≡ None
unfolding num bits parsed signature14 ingress14 egress14
refuses_a_wrong_sum = refl

-- a header that is added

-- g is extracted only where x is 0; the action does add_header(g); modify_field(g.a, 5)
abbrev x_is_0 : Return
x_is_0 =
    end_of.Select (pvalue.Latest (codes "x") ∷ [])
    (record {
      values = case_values.Values (record { value = plain 0; mask = None } ∷ []);
      target = case_target.State (codes "more");
    }
    ∷ record { values = case_values.Default; target = case_target.State (codes "ingress") }
    ∷ [])

abbrev adding_g : List Decl
adding_g =
    type (codes "four_t") (field (codes "x") 16 ∷ field (codes "y") 8 ∷ field (codes "z") 8 ∷ [])
    ∷ type (codes "g_t") (field (codes "a") 8 ∷ [])
    ∷ header (codes "four_t") f
    ∷ header (codes "g_t") (codes "g")
    ∷ state (codes "start") (named f) x_is_0
    ∷ state (codes "more") (named (codes "g")) (end_of.State (codes "ingress"))
    ∷ action (codes "act") []
    (to_port_3
    ∷ call (codes "add_header") (by_name (codes "g") ∷ [])
    ∷ call (codes "modify_field") (at (codes "g") (codes "a") ∷ n 5 ∷ [])
    ∷ [])
    ∷ table (codes "t") (codes "act")
    ∷ []

abbrev in_order : List ℕ → Stmt → Stmt → List Decl → Expanded
in_order order ingress egress ds = record {
  actions = map invocations_of (actions ds);
  lists = map items_in (lists ds);
  ingress = ingress;
  egress = egress;
  order = order;
}

abbrev sends_g : Rule14 → Option (ℕ × List ℕ)
sends_g rule =
    sent (setting adding_g (in_order (0 ∷ 1 ∷ []) applies_t no_statements adding_g) rule []) (0x12 ∷ 0x34 ∷ 0 ∷ 0 ∷ [])

adds_a_header : sends_g Sequential ≡ Some (3, 0x12 ∷ 0x34 ∷ 0 ∷ 0 ∷ 5 ∷ [])
unfolding num bits parsed signature14 ingress14 egress14
adds_a_header = refl

-- in parallel the field's header isn't valid at the entry
adds_an_empty_header : sends_g Parallel ≡ Some (3, 0x12 ∷ 0x34 ∷ 0 ∷ 0 ∷ 0 ∷ [])
unfolding num bits parsed signature14 ingress14 egress14
adds_an_empty_header = refl

-- keys on a mask

-- table u { reads { f.x : ternary; } actions { go; } }, and behind a miss the table t
abbrev keyed : List Decl
keyed =
    type (codes "four_t") (field (codes "x") 16 ∷ field (codes "y") 8 ∷ field (codes "z") 8 ∷ [])
    ∷ header (codes "four_t") f
    ∷ state (codes "start") (named f) (end_of.State (codes "ingress"))
    ∷ action (codes "go") (codes "port" ∷ [])
    (call (codes "modify_field") (at (codes "standard_metadata") (codes "egress_spec") ∷ by_name (codes "port") ∷ []) ∷ [])
    ∷ action (codes "act") [] (to_port_3 ∷ [])
    ∷ decl.Table (record {
      name = codes "u";
      attributes =
          table_attr.Reads (record { key = read_key.Field (of f (codes "x")); mask = None; kind = codes "ternary" } ∷ [])
          ∷ table_attr.Actions (codes "go" ∷ [])
          ∷ [];
    })
    ∷ table (codes "t") (codes "act")
    ∷ []

abbrev goes : ℕ → ℕ → ℕ → ℕ → Entry
goes value mask priority port =
    record { keys = Ternary value mask ∷ []; priority = priority; action = 0; arguments = port ∷ [] }

-- t is filled with nothing, and u with an entry on the high octet and one on the low
abbrev filled : ℕ → ℕ → Entries
filled high low = record {
  tables =
      record { entries = []; default = None }
      ∷ record { entries = goes 0x1200 0xff00 high 4 ∷ goes 0x0034 0x00ff low 5 ∷ []; default = None }
      ∷ [];
  sessions = [];
  colours = [];
}

abbrev misses_to_t : Stmt
misses_to_t = apply_branches (codes "u") (branch no_branches label.Miss applies_t)

abbrev keyed_setting : ℕ → ℕ → Setting
keyed_setting high low = record {
  decls = keyed;
  expanded = in_order (0 ∷ []) misses_to_t no_statements keyed;
  rule = Sequential;
  entries = filled high low;
}

abbrev goes_out : ℕ → ℕ → List ℕ → Option (ℕ × List ℕ)
goes_out high low octets = (pass (keyed_setting high low) (first (keyed_setting high low)) octets).sent

-- of two entries of one priority the earlier wins, and else the smaller priority
earlier_line_wins : goes_out 10 10 (0x12 ∷ 0x34 ∷ 0 ∷ 0 ∷ []) ≡ Some (4, 0x12 ∷ 0x34 ∷ 0 ∷ 0 ∷ [])
unfolding num bits parsed signature14 ingress14 egress14
earlier_line_wins = refl

smaller_priority_wins : goes_out 10 9 (0x12 ∷ 0x34 ∷ 0 ∷ 0 ∷ []) ≡ Some (5, 0x12 ∷ 0x34 ∷ 0 ∷ 0 ∷ [])
unfolding num bits parsed signature14 ingress14 egress14
smaller_priority_wins = refl

miss_block_runs : goes_out 10 10 (0x11 ∷ 0x33 ∷ 0 ∷ 0 ∷ []) ≡ Some (3, 0x11 ∷ 0x33 ∷ 0 ∷ 0 ∷ [])
unfolding num bits parsed signature14 ingress14 egress14
miss_block_runs = refl

-- further passes

abbrev m : Name
m = codes "m"

-- Metadata m of k, l and n, of which l begins with 5, the list keep of m.k, and the actions act, first and later of the tables
-- t, e and g.
abbrev keeping : List Call → List Call → List Call → List Decl
keeping acts firsts laters =
    type (codes "four_t") (field (codes "x") 16 ∷ field (codes "y") 8 ∷ field (codes "z") 8 ∷ [])
    ∷ header (codes "four_t") f
    ∷ state (codes "start") (named f) (end_of.State (codes "ingress"))
    ∷ type (codes "m_t") (field (codes "k") 8 ∷ field (codes "l") 8 ∷ field (codes "n") 8 ∷ [])
    ∷ decl.Metadata (record {
      header_type = codes "m_t";
      name = m;
      initials = Some (record { values = record { field = codes "l"; value = positive 5 } ∷ []; semicolon = false });
    })
    ∷ decl.FieldList (record { name = codes "keep"; items = item.Field (of m (codes "k")) ∷ [] })
    ∷ action (codes "act") [] acts
    ∷ action (codes "first") [] firsts
    ∷ action (codes "later") [] laters
    ∷ table (codes "t") (codes "act")
    ∷ table (codes "e") (codes "first")
    ∷ table (codes "g") (codes "later")
    ∷ []

-- if (standard_metadata.instance_type == 0) { apply(e); } else { apply(g); }
abbrev by_kind : Stmt
by_kind =
    if_then
    (binary Equal (field_operand (of (codes "standard_metadata") (codes "instance_type"))) (number (plain 0)))
    (apply (codes "e")) (else_block (apply (codes "g")))

-- session 7 goes to port 9, and no other session is known
abbrev entries : List Decl → Entries
entries ds = record {
  tables = map no_entries (signature14 ds).tables;
  sessions = record { number = 7; port = 9 } ∷ [];
  colours = [];
}

abbrev set : Stmt → Stmt → List Decl → Setting
set ingress egress ds = record {
  decls = ds;
  expanded = in_order (0 ∷ []) ingress egress ds;
  rule = Sequential;
  entries = entries ds;
}

abbrev arrives : List Arrival
arrives = record { octets = 0x12 ∷ 0x34 ∷ 0 ∷ 0 ∷ []; port = 0; seconds = 0; fraction = 0 } ∷ []

abbrev sets_k : ℕ → Call
sets_k value = call (codes "modify_field") (at m (codes "k") ∷ n value ∷ [])

abbrev modifies : Name → Name → Name → Call
modifies target instance source = call (codes "modify_field") (at f target ∷ at instance source ∷ [])

-- A clone made behind egress keeps f as egress left it and k, which is preserved. It isn't parsed, so l isn't 5 again.
abbrev cloning : List Decl
cloning =
    keeping (to_port_3 ∷ [])
    (call (codes "modify_field") (at f (codes "y") ∷ n 1 ∷ []) ∷ sets_k 7
    ∷ call (codes "clone_e2e") (n 7 ∷ by_name (codes "keep") ∷ []) ∷ [])
    (call (codes "add") (at f (codes "z") ∷ at m (codes "k") ∷ at m (codes "l") ∷ []) ∷ [])

clone_of_egress_leaves : (Run14 (set applies_t by_kind cloning) 256 arrives).sent ≡ record { arrival = 0; port = 3; octets = 0x12 ∷ 0x34 ∷ 1 ∷ 0 ∷ [] } ∷ record { arrival = 0; port = 9; octets = 0x12 ∷ 0x34 ∷ 1 ∷ 7 ∷ [] } ∷ []
unfolding num bits parsed signature14 ingress14 reparse14 egress14 Run14 run
clone_of_egress_leaves = refl

-- A recirculated packet keeps k, and is of kind 4.
abbrev recirculating : List Decl
recirculating =
    keeping (to_port_3 ∷ []) (sets_k 1 ∷ call (codes "recirculate") (by_name (codes "keep") ∷ []) ∷ [])
    (modifies (codes "y") m (codes "k") ∷ modifies (codes "z") (codes "standard_metadata") (codes "instance_type") ∷ [])

recirculated_once : (Run14 (set applies_t by_kind recirculating) 256 arrives).sent ≡ record { arrival = 0; port = 3; octets = 0x12 ∷ 0x34 ∷ 1 ∷ 4 ∷ [] } ∷ []
unfolding num bits parsed signature14 ingress14 reparse14 egress14 Run14 run
recirculated_once = refl

-- A packet that is resubmitted isn't dropped. It is parsed again, so l is 5 again.
abbrev resubmitting : List Decl
resubmitting =
    keeping []
    (sets_k 1 ∷ call (codes "modify_field") (at m (codes "l") ∷ n 2 ∷ [])
    ∷ call (codes "resubmit") (by_name (codes "keep") ∷ []) ∷ call (codes "drop") [] ∷ [])
    (to_port_3 ∷ modifies (codes "y") m (codes "k") ∷ modifies (codes "z") m (codes "l") ∷ [])

resubmitted_in_place_of_dropped : (Run14 (set by_kind no_statements resubmitting) 256 arrives).sent ≡ record { arrival = 0; port = 3; octets = 0x12 ∷ 0x34 ∷ 1 ∷ 5 ∷ [] } ∷ []
unfolding num bits parsed signature14 ingress14 reparse14 egress14 Run14 run
resubmitted_in_place_of_dropped = refl

-- The last request counts, also where its session isn't known: clone_i2e(7); clone_i2e(8).
abbrev asking_twice : List Decl
asking_twice =
    keeping (to_port_3 ∷ call (codes "clone_i2e") (n 7 ∷ []) ∷ call (codes "clone_i2e") (n 8 ∷ []) ∷ []) [] []

no_clone_is_made : (Run14 (set applies_t no_statements asking_twice) 256 arrives).sent ≡ record { arrival = 0; port = 3; octets = 0x12 ∷ 0x34 ∷ 0 ∷ 0 ∷ [] } ∷ []
unfolding num bits parsed signature14 ingress14 reparse14 egress14 Run14 run
no_clone_is_made = refl

-- A clone made at the end of ingress is parsed again and isn't verified: x is verified only where m.k is 1, which is preserved
-- for the clone, and x isn't 0x1111.
abbrev verifying_k : List Decl
verifying_k =
    keeping (to_port_3 ∷ sets_k 1 ∷ call (codes "clone_i2e") (n 7 ∷ by_name (codes "keep") ∷ []) ∷ []) [] []
    ++ calculation (codes "l1") (word 0x1111) (codes "identity")
    (calculated_x
    (record { used_to = Verify; calculation = codes "l1"; condition = Some (calc_cond.Equal (of m (codes "k")) (plain 1)) } ∷ [])
    ∷ [])

clone_is_not_verified : (Run14 (set applies_t no_statements verifying_k) 256 arrives).sent ≡ record { arrival = 0; port = 3; octets = 0x12 ∷ 0x34 ∷ 0 ∷ 0 ∷ [] } ∷ record { arrival = 0; port = 9; octets = 0x12 ∷ 0x34 ∷ 0 ∷ 0 ∷ [] } ∷ []
unfolding num bits parsed signature14 ingress14 reparse14 egress14 Run14 run
clone_is_not_verified = refl

-- A clone made behind egress is updated in its own pass, over the octets that it carries: x is csum16 over y, z and what isn't
-- parsed, and both packets leave with it.
abbrev cloning_with_payload : List Decl
cloning_with_payload =
    four (field (codes "y") 8) []
    (action (codes "first") [] (call (codes "clone_e2e") (n 7 ∷ []) ∷ [])
    ∷ table (codes "e") (codes "first")
    ∷ calculation (codes "l") (item.Field (of f (codes "y")) ∷ item.Field (of f (codes "z")) ∷ item.Payload ∷ []) (codes "csum16")
    (calculated_x (record { used_to = Update; calculation = codes "l"; condition = None } ∷ []) ∷ []))

abbrev once : Stmt
once =
    if_then
    (binary Equal (field_operand (of (codes "standard_metadata") (codes "instance_type"))) (number (plain 0)))
    (apply (codes "e")) no_else

clone_is_summed_with_payload : (Run14 (set applies_t once cloning_with_payload) 256 (record { octets = 0 ∷ 0 ∷ 1 ∷ 2 ∷ 3 ∷ 4 ∷ []; port = 0; seconds = 0; fraction = 0 } ∷ [])).sent ≡ record { arrival = 0; port = 3; octets = 0xfb ∷ 0xf9 ∷ 1 ∷ 2 ∷ 3 ∷ 4 ∷ [] } ∷ record { arrival = 0; port = 9; octets = 0xfb ∷ 0xf9 ∷ 1 ∷ 2 ∷ 3 ∷ 4 ∷ [] } ∷ []
unfolding num bits parsed signature14 ingress14 reparse14 egress14 Run14 run
clone_is_summed_with_payload = refl
