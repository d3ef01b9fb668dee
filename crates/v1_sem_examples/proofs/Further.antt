-- Further examples: variables of blocks, structs, standard metadata, objects at the top, defaults with arguments, and what
-- clones and repeated packets carry. The packet is 12 34 00 00.
use Rattle.std.proofs.Common.{◌≡◌, List, [], ◌∷◌, refl}
use Rattle.std.specs.Prelude.{codes, true, false, Some, None}
use Rattle.p4x_bits.specs.BitLists.{num, bits}
use Rattle.state_store.specs.declared.cells.Cells.TheVariants.{Counts}
use Rattle.match_core.specs.declared.entries.KeyMatch.TheVariants as key_match
use Rattle.match_core.specs.declared.entries.TableFill.{TableFill}
use Rattle.fabric.specs.Queue.{run}
use Rattle.p416_syntax.specs.declared.parts.Type16.TheVariants.{Bool as BoolType}
use Rattle.p416_syntax.specs.declared.parts.Member.TheVariants as member_of
use Rattle.p416_syntax.specs.declared.parts.CounterType.TheVariants.{Packets}
use Rattle.p416_syntax.specs.declared.parsers.Target.TheVariants as target
use Rattle.p416_syntax.specs.declared.parsers.Transition.TheVariants as transition
use Rattle.p416_syntax.specs.declared.controls.Instance.TheVariants as instance
use Rattle.p416_syntax.specs.declared.controls.Local.{Local}
use Rattle.p416_syntax.specs.declared.controls.Local.TheVariants as local
use Rattle.p416_syntax.specs.declared.controls.Property.TheVariants as property
use Rattle.p416_syntax.specs.declared.node.BinaryOperator.TheVariants.{Add, Equal, Concatenate, And, Or}
use Rattle.p416_syntax.specs.declared.node.CastType.TheVariants.{Bit}
use Rattle.p416_syntax.specs.declared.program.Decl16.TheVariants as decl
use Rattle.p416_syntax.specs.declared.program.Syntax16.{Syntax16}
use Rattle.p416_syntax.specs.Tree.{truth, name, member, index, slice, cast, binary, choice, assign, if_then, var, var_is}
use Rattle.p416_syntax.specs.Tree as tree
use Rattle.v1_core.specs.Signatures.{signature16}
use Rattle.v1_core.specs.Blocks.{control16}
use Rattle.v1_core.specs.Parsing.{parse16}
use Rattle.v1_core.specs.Passes.{ingress16, reparse16, egress16}
use Rattle.v1_core.specs.Runs.{Run16}
use Rattle.v1_sem_examples.specs.Parts.{n, number, named, bits_type, param, key, action, table, an_action, hdr, sm, method, calls, given, does, statements, extract, emit, state, accept, var as variable}
use Rattle.v1_sem_examples.specs.Samples.{small_types, small, doing, program, to_port_3, h_x, h_y, h_z, packet}
use Rattle.v1_sem_examples.specs.Packets.{plainly, filled, ran_from, ran, told, outcome, sends, cells, sends_of}

-- standard_metadata_t v = sm; v.egress_spec = 9w5; sm = v; and then the port is read: a struct is taken whole
takes_struct_whole : outcome (plainly (program (record small { ingress = var_is (named (codes "standard_metadata_t")) (codes "v") (name (codes "sm")) ∷ assign (member (variable (codes "v")) (codes "egress_spec")) (n 9 5) ∷ assign (name (codes "sm")) (variable (codes "v")) ∷ [] }))) packet ≡ sends 5 packet 8
unfolding num bits run signature16 control16 parse16 ingress16 reparse16 egress16 Run16
takes_struct_whole = refl

-- mark_to_drop(v) of a variable drops nothing
marks_a_variable : outcome (plainly (program (record small { ingress = to_port_3 ∷ var_is (named (codes "standard_metadata_t")) (codes "v") (name (codes "sm")) ∷ does (calls (codes "mark_to_drop") (variable (codes "v") ∷ [])) ∷ [] }))) packet ≡ sends 3 packet 8
unfolding num bits run signature16 control16 parse16 ingress16 reparse16 egress16 Run16
marks_a_variable = refl

-- h_t v; v = hdr.h; v.x = 8w1; v.setInvalid(); hdr.i = v; a variable of a header type is a header by itself
holds_a_header : sends_of (var (named (codes "h_t")) (codes "v") ∷ assign (variable (codes "v")) (hdr (codes "h")) ∷ assign (member (variable (codes "v")) (codes "x")) (n 8 1) ∷ assign (hdr (codes "i")) (variable (codes "v")) ∷ does (method (variable (codes "v")) (codes "setInvalid") []) ∷ []) ≡ sends 3 (0x12 ∷ 0x34 ∷ 0 ∷ 0 ∷ 1 ∷ 0x34 ∷ 0 ∷ 0 ∷ []) 10
unfolding num bits run signature16 control16 parse16 ingress16 reparse16 egress16 Run16
holds_a_header = refl

-- hdr.h.z = hdr.h.x ++ hdr.h.y;
joins : sends_of (assign h_z (binary Concatenate h_x h_y) ∷ []) ≡ sends 3 (0x12 ∷ 0x34 ∷ 0x12 ∷ 0x34 ∷ []) 7
unfolding num bits run signature16 control16 parse16 ingress16 reparse16 egress16 Run16
joins = refl

-- hdr.s[1] is invalid, hdr.h is valid: (hdr.s[1].isValid() ? hdr.i : hdr.h).x
chooses_header : sends_of (assign h_y (member (choice (method (index (hdr (codes "s")) (number 1)) (codes "isValid") []) (hdr (codes "i")) (hdr (codes "h"))) (codes "x")) ∷ []) ≡ sends 3 (0x12 ∷ 0x12 ∷ 0 ∷ 0 ∷ []) 7
unfolding num bits run signature16 control16 parse16 ingress16 reparse16 egress16 Run16
chooses_header = refl

-- the port of arrival, 9, and the packet's length
came_in : told (ran_from 9 (plainly (program (doing (assign h_x (slice (sm (codes "ingress_port")) (number 7) (number 0)) ∷ assign h_y (slice (sm (codes "packet_length")) (number 7) (number 0)) ∷ [])))) packet) ≡ sends 3 (9 ∷ 4 ∷ 0 ∷ 0 ∷ []) 8
unfolding num bits run signature16 control16 parse16 ingress16 reparse16 egress16 Run16
came_in = refl

-- egress begins with `egress_spec` 0 and the port; the rest of the standard metadata is as ingress left it
egress_begins : outcome (plainly (program (record (doing (assign (sm (codes "ingress_port")) (n 9 6) ∷ [])) { egress = assign h_x (slice (sm (codes "egress_port")) (number 7) (number 0)) ∷ assign h_y (slice (sm (codes "egress_spec")) (number 7) (number 0)) ∷ assign h_z (cast (Bit (number 16)) (sm (codes "ingress_port"))) ∷ [] }))) packet ≡ sends 3 (3 ∷ 0 ∷ 0 ∷ 6 ∷ []) 10
unfolding num bits run signature16 control16 parse16 ingress16 reparse16 egress16 Run16
egress_begins = refl

-- egress may drop: mark_to_drop(sm) there, and nothing is put together
drops_in_egress : outcome (plainly (program (record small { egress = does (calls (codes "mark_to_drop") (name (codes "sm") ∷ [])) ∷ [] }))) packet ≡ record { sent = []; work = 4 }
unfolding num bits run signature16 control16 parse16 ingress16 reparse16 egress16 Run16
drops_in_egress = refl

-- a header may be emitted twice
emits_twice : outcome (plainly (program (record small { deparser = emit (hdr (codes "h")) ∷ emit (hdr (codes "h")) ∷ [] }))) packet ≡ sends 3 (0x12 ∷ 0x34 ∷ 0 ∷ 0 ∷ 0x12 ∷ 0x34 ∷ 0 ∷ 0 ∷ []) 5
unfolding num bits run signature16 control16 parse16 ingress16 reparse16 egress16 Run16
emits_twice = refl

-- variables of a control: bit<8> v; bit<8> w = 8w5; and behind `apply` v = v + w; hdr.h.x = v; the initial value counts one
abbrev variables : List Local
variables =
    local.Var (record { of = bits_type 8; name = codes "v"; initial = None })
    ∷ local.Var (record { of = bits_type 8; name = codes "w"; initial = Some (n 8 5) })
    ∷ []

block_variables : outcome (plainly (program (record (doing (assign (variable (codes "v")) (binary Add (variable (codes "v")) (variable (codes "w"))) ∷ assign h_x (variable (codes "v")) ∷ [])) { ingress_locals = variables }))) packet ≡ sends 3 (5 ∷ 0x34 ∷ 0 ∷ 0 ∷ []) 9
unfolding num bits run signature16 control16 parse16 ingress16 reparse16 egress16 Run16
block_variables = refl

-- action a(bit<8> v) { hdr.h.y = v; }
-- table t { actions = { a; } default_action = a(8w7); }
-- bool hit = t.apply().hit; the table is applied as ingress begins
abbrev applies_at_first : List Local
applies_at_first =
    action (codes "a") (param None (bits_type 8) (codes "v") ∷ []) (statements (assign h_y (variable (codes "v")) ∷ []))
    ∷ table (codes "t")
    (property.Actions (an_action (codes "a") ∷ []) ∷ property.DefaultAction (an_action (codes "a")) (given (n 8 7 ∷ [])) ∷ [])
    ∷ local.Var (record {
      of = BoolType;
      name = codes "found";
      initial = Some (member (method (variable (codes "t")) (codes "apply") []) (codes "hit"));
    })
    ∷ []

applies_in_an_initial_value : outcome (plainly (program (record (doing (if_then (variable (codes "found")) (assign h_x (n 8 1)) ∷ [])) { ingress_locals = applies_at_first }))) packet ≡ sends 3 (0x12 ∷ 7 ∷ 0 ∷ 0 ∷ []) 9
unfolding num bits run signature16 control16 parse16 ingress16 reparse16 egress16 Run16
applies_in_an_initial_value = refl

-- A key is evaluated by the control's own names: the table's v is the control's, which is 0, also where the statement that
-- applies it has a v of its own. The entry for 0 is hit.
abbrev keyed : List Local
keyed =
    local.Var (record { of = bits_type 8; name = codes "v"; initial = None })
    ∷ action (codes "a") [] (statements (assign h_y (variable (codes "v")) ∷ []))
    ∷ table (codes "t") (property.Key (key (variable (codes "v")) (codes "exact") ∷ []) ∷ property.Actions (an_action (codes "a") ∷ []) ∷ [])
    ∷ []

abbrev for_0 : List TableFill
for_0 = record { entries = record { keys = key_match.Exact 0 ∷ []; priority = 0; action = 0; arguments = [] } ∷ []; default = None } ∷ []

own_names : outcome (filled (program (record (doing (var_is (bits_type 8) (codes "v") (n 8 9) ∷ if_then (member (method (variable (codes "t")) (codes "apply") []) (codes "hit")) (assign h_x (n 8 1)) ∷ [])) { ingress_locals = keyed })) for_0) packet ≡ sends 3 (1 ∷ 0 ∷ 0 ∷ 0 ∷ []) 10
unfolding num bits run signature16 control16 parse16 ingress16 reparse16 egress16 Run16
own_names = refl

-- counter(32w1, CounterType.packets) c; at the top, counted in ingress and in egress
counts_at_the_top : cells (plainly (program (record (doing (does (method (variable (codes "c")) (codes "count") (n 32 0 ∷ [])) ∷ [])) { types = decl.Instance [] (instance.Counter (n 32 1) (member_of.CounterType Packets) (codes "c")) ∷ small_types; egress = does (method (variable (codes "c")) (codes "count") (n 32 0 ∷ [])) ∷ [] }))) packet ≡ Counts ((2, 0) ∷ []) ∷ []
unfolding num bits run signature16 control16 parse16 ingress16 reparse16 egress16 Run16
counts_at_the_top = refl

-- A clone is made though the packet itself is dropped, and its own parsing sets `parser_error`: it is too short for hdr.i.
abbrev error_of_clone : Syntax16
error_of_clone =
    program (record small {
      states = state (codes "start") (extract (hdr (codes "h")) ∷ extract (hdr (codes "i")) ∷ []) accept ∷ [];
      ingress =
          does (calls (codes "clone_preserving_field_list") (member (name (codes "CloneType")) (codes "I2E") ∷ n 32 7 ∷ n 8 0 ∷ []))
          ∷ does (calls (codes "mark_to_drop") (name (codes "sm") ∷ [])) ∷ [];
      egress =
          if_then (binary Equal (sm (codes "parser_error")) (member tree.error (codes "PacketTooShort"))) (assign h_y (n 8 0xee)) ∷ [];
    })

clones_though_dropped : outcome (record { syntax = error_of_clone; entries = record { tables = []; sessions = record { number = 7; port = 9 } ∷ []; colours = [] } }) packet ≡ record { sent = (9, 0x12 ∷ 0xee ∷ 0 ∷ 0 ∷ []) ∷ []; work = 11 }
unfolding num bits run signature16 control16 parse16 ingress16 reparse16 egress16 Run16
clones_though_dropped = refl

-- what isn't sent within the bound is cut
abbrev again_and_again : Syntax16
again_and_again = program (record small { egress = does (calls (codes "recirculate_preserving_field_list") (n 8 0 ∷ [])) ∷ [] })

is_cut : (ran (plainly again_and_again) packet).cut ≡ 1
unfolding num bits run signature16 control16 parse16 ingress16 reparse16 egress16 Run16
is_cut = refl

-- `true && false` and `true || false`
connects : sends_of (if_then (binary And (truth true) (truth false)) (assign h_x (n 8 1)) ∷ if_then (binary Or (truth true) (truth false)) (assign h_y (n 8 1)) ∷ []) ≡ sends 3 (0x12 ∷ 1 ∷ 0 ∷ 0 ∷ []) 9
unfolding num bits run signature16 control16 parse16 ingress16 reparse16 egress16 Run16
connects = refl

-- what a parser writes to `egress_spec` ingress sees: sm.egress_spec = 9w5, and ingress writes no port
parser_writes_port : outcome (plainly (program (record small { states = state (codes "start") (assign (sm (codes "egress_spec")) (n 9 5) ∷ extract (hdr (codes "h")) ∷ []) accept ∷ []; ingress = [] }))) packet ≡ sends 5 packet 6
unfolding num bits run signature16 control16 parse16 ingress16 reparse16 egress16 Run16
parser_writes_port = refl

-- verify runs behind `reject`: its one statement counts
verifies_behind_reject : outcome (plainly (program (record small { states = state (codes "start") (extract (hdr (codes "h")) ∷ []) (transition.Go target.Reject) ∷ []; verify = assign h_x (n 8 1) ∷ [] }))) packet ≡ sends 3 (1 ∷ 0x34 ∷ 0 ∷ 0 ∷ []) 7
unfolding num bits run signature16 control16 parse16 ingress16 reparse16 egress16 Run16
verifies_behind_reject = refl

-- A truth value as a key is 1 or 0. table t { key = { hdr.h.isValid() : exact; } actions = { a; } }, with an entry for 1.
abbrev keyed_by_truth : List Local
keyed_by_truth =
    action (codes "a") [] (statements (assign h_y (n 8 7) ∷ []))
    ∷ table (codes "t") (property.Key (key (method (hdr (codes "h")) (codes "isValid") []) (codes "exact") ∷ []) ∷ property.Actions (an_action (codes "a") ∷ []) ∷ [])
    ∷ []

abbrev for_1 : List TableFill
for_1 = record { entries = record { keys = key_match.Exact 1 ∷ []; priority = 0; action = 0; arguments = [] } ∷ []; default = None } ∷ []

matches_a_truth : outcome (filled (program (record (doing (does (method (variable (codes "t")) (codes "apply") []) ∷ [])) { ingress_locals = keyed_by_truth })) for_1) packet ≡ sends 3 (0x12 ∷ 7 ∷ 0 ∷ 0 ∷ []) 8
unfolding num bits run signature16 control16 parse16 ingress16 reparse16 egress16 Run16
matches_a_truth = refl
