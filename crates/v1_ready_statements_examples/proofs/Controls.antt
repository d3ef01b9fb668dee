-- Controls of small programs: ingresses, but where another block is said.
use Rattle.std.proofs.Common.{ℕ, List, [], ◌∷◌, refl}
use Rattle.std.specs.Prelude.{codes, Some, None, true}
use Rattle.p4x_bits.specs.BitLists.{num, bits}
use Rattle.match_core.specs.declared.entries.KeyMatch.TheVariants as key_match
use Rattle.match_core.specs.declared.entries.Entry.{Entry}
use Rattle.p416_syntax.specs.declared.parts.Direction.TheVariants.{In, Out, InOut}
use Rattle.p416_syntax.specs.declared.parts.Type16.TheVariants.{Bool as BoolType}
use Rattle.p416_syntax.specs.declared.parts.Member.TheVariants as member_of
use Rattle.p416_syntax.specs.declared.parts.CounterType.TheVariants.{PacketsAndBytes}
use Rattle.p416_syntax.specs.declared.controls.ActionName.TheVariants as action_name
use Rattle.p416_syntax.specs.declared.controls.Instance.TheVariants as instance
use Rattle.p416_syntax.specs.declared.controls.Local.{Local}
use Rattle.p416_syntax.specs.declared.controls.Local.TheVariants as local
use Rattle.p416_syntax.specs.declared.controls.Property.TheVariants as property
use Rattle.p416_syntax.specs.declared.node.BinaryOperator.TheVariants.{Add, Equal, And}
use Rattle.p416_syntax.specs.declared.node.CaseLabel.TheVariants as label
use Rattle.p416_syntax.specs.declared.node.CastType.TheVariants as cast_to
use Rattle.p416_syntax.specs.declared.parts.MeterType.TheVariants as meter_type
use Rattle.p416_syntax.specs.Tree.{Exp16, truth, member, index, slice, cast, binary, choice, Stmt16, block, empty, var as var_statement, var_is, assign, if_then, if_else, switch, no_cases, case_of, listed}
use Rattle.v1_core.specs.Signatures.{signature16}
use Rattle.v1_core.specs.Blocks.{control16}
use Rattle.v1_core.specs.Surroundings.{Setting}
use Rattle.v1_core.specs.declared.block.Block.TheVariants.{Verify, Compute, Deparse}
use Rattle.v1_sem_examples.specs.Parts.{n, number, named, bits_type, param, hdr, field, meta, action, table, key, an_action, algorithm, method, calls, given, does, statements, var}
use Rattle.v1_sem_examples.specs.Samples.{small, doing, program, h_x, h_y, h_z}
use Rattle.v1_sem_examples.specs.Packets.{plainly, filled}
use Rattle.v1_ready_statements_examples.specs.Alike.{BlockAlike, IngressAlike}

abbrev does_this : List Stmt16 → Setting
does_this xs = plainly (program (doing xs))

-- hdr.h.y = hdr.h.x + 8w3; meta.k = hdr.h.z[11:4]; hdr.h.z[7:4] = 4w9;
assignments : IngressAlike (does_this (
    assign h_y (binary Add h_x (n 8 3))
    ∷ assign (meta (codes "k")) (slice h_z (number 11) (number 4))
    ∷ assign (slice h_z (number 7) (number 4)) (n 4 9) ∷ []
    )) 0x12 0x34 0x5678
unfolding num bits signature16 control16
assignments = record { frame = refl; store = refl; emitted = refl; work = refl }

-- { bit<8> v = hdr.h.x; bit<8> w; w = v; if (hdr.i.isValid()) hdr.h.y = w; else { hdr.i = hdr.h; hdr.i.y = v; } }
variables_and_branches : IngressAlike (does_this (
    block (statements (
    var_is (bits_type 8) (codes "v") h_x
    ∷ var_statement (bits_type 8) (codes "w")
    ∷ assign (var (codes "w")) (var (codes "v"))
    ∷ if_else (method (hdr (codes "i")) (codes "isValid") []) (assign h_y (var (codes "w")))
    (block (statements (assign (hdr (codes "i")) (hdr (codes "h")) ∷ assign (field (codes "i") (codes "y")) (var (codes "v")) ∷ [])))
    ∷ []
    ))
    ∷ []
    )) 0x12 0x34 0x5678
unfolding num bits signature16 control16
variables_and_branches = record { frame = refl; store = refl; emitted = refl; work = refl }

-- hdr.i.setValid(); hdr.s[0].setValid(); hdr.s[0].v = 8w7; hdr.s.push_front(1); hdr.h.setInvalid(); mark_to_drop(sm);
headers_and_stacks : IngressAlike (does_this (
    does (method (hdr (codes "i")) (codes "setValid") [])
    ∷ does (method (index (hdr (codes "s")) (number 0)) (codes "setValid") [])
    ∷ assign (member (index (hdr (codes "s")) (number 0)) (codes "v")) (n 8 7)
    ∷ does (method (hdr (codes "s")) (codes "push_front") (n 32 1 ∷ []))
    ∷ does (method (hdr (codes "h")) (codes "setInvalid") [])
    ∷ does (calls (codes "mark_to_drop") (var (codes "sm") ∷ [])) ∷ []
    )) 0x12 0x34 0x5678
unfolding num bits signature16 control16
headers_and_stacks = record { frame = refl; store = refl; emitted = refl; work = refl }

-- direct_counter(CounterType.packets_and_bytes) dc;
-- action a(bit<8> v) { hdr.h.y = v; dc.count(); }
-- action b() { hdr.h.y = 8w0xbb; dc.count(); }
-- action c(inout bit<8> x, in bit<8> y) { x = x + y; hdr.h.x = x; }
-- table t { key = { hdr.h.x : exact; } actions = { a; b; NoAction; } counters = dc; default_action = b(); }
abbrev locals : List Local
locals =
    local.Instance [] (instance.DirectCounter (member_of.CounterType PacketsAndBytes) (codes "dc"))
    ∷ action (codes "a") (param None (bits_type 8) (codes "v") ∷ [])
    (statements (assign h_y (var (codes "v")) ∷ does (method (var (codes "dc")) (codes "count") []) ∷ []))
    ∷ action (codes "b") []
    (statements (assign h_y (n 8 0xbb) ∷ does (method (var (codes "dc")) (codes "count") []) ∷ []))
    ∷ action (codes "c") (param (Some InOut) (bits_type 8) (codes "x") ∷ param (Some In) (bits_type 8) (codes "y") ∷ [])
    (statements (assign (var (codes "x")) (binary Add (var (codes "x")) (var (codes "y"))) ∷ assign h_x (var (codes "x")) ∷ []))
    ∷ table (codes "t")
    (property.Key (key h_x (codes "exact") ∷ [])
    ∷ property.Actions (an_action (codes "a") ∷ an_action (codes "b") ∷ action_name.NoAction ∷ [])
    ∷ property.Counters (codes "dc") ∷ property.DefaultAction (an_action (codes "b")) (given []) ∷ [])
    ∷ []

abbrev entry : ℕ → Entry
entry x = record { keys = key_match.Exact x ∷ []; priority = 0; action = 0; arguments = 0xaa ∷ [] }

abbrev applying : List Stmt16 → Setting
applying xs =
    filled (program (record (doing xs) { ingress_locals = locals }))
    (record { entries = entry 0x99 ∷ entry 0x12 ∷ []; default = None } ∷ [])

abbrev apply : Exp16
apply = method (var (codes "t")) (codes "apply") []

-- if (t.apply().hit && hdr.h.x == ..) on a hit and on a miss
abbrev asking : List Stmt16
asking =
    if_else (binary And (member apply (codes "hit")) (method (hdr (codes "h")) (codes "isValid") []))
    (assign h_z (n 16 1)) (assign h_z (n 16 2))
    ∷ []

tables_hit : IngressAlike (applying asking) 0x12 0x34 0x5678
unfolding num bits signature16 control16
tables_hit = record { frame = refl; store = refl; emitted = refl; work = refl }

tables_missed : IngressAlike (applying asking) 0x13 0x34 0x5678
unfolding num bits signature16 control16
tables_missed = record { frame = refl; store = refl; emitted = refl; work = refl }

-- switch (t.apply().action_run) { b: { hdr.h.z = 16w1; } default: { hdr.h.z = 16w2; } a: { c(hdr.h.y, 8w1); } }
abbrev switching : List Stmt16
switching =
    switch (codes "t")
    (case_of
    (case_of (case_of no_cases (label.Action (codes "b")) (statements (assign h_z (n 16 1) ∷ []))) label.Default (statements (assign h_z (n 16 2) ∷ [])))
    (label.Action (codes "a")) (statements (does (calls (codes "c") (h_y ∷ n 8 1 ∷ [])) ∷ [])))
    ∷ []

switch_on_a : IngressAlike (applying switching) 0x12 0x34 0x5678
unfolding num bits signature16 control16
switch_on_a = record { frame = refl; store = refl; emitted = refl; work = refl }

switch_on_b : IngressAlike (applying switching) 0x13 0x34 0x5678
unfolding num bits signature16 control16
switch_on_b = record { frame = refl; store = refl; emitted = refl; work = refl }

-- hash(meta.k, HashAlgorithm.identity, 8w1, { hdr.h.x, hdr.h.y }, 16w7); clone_preserving_field_list(CloneType.I2E, 32w5, 8w1);
externs : IngressAlike (does_this (
    does (calls (codes "hash") (
    meta (codes "k") ∷ member (var (codes "HashAlgorithm")) (codes "identity") ∷ n 8 1
    ∷ listed (given (h_x ∷ h_y ∷ [])) ∷ n 16 7 ∷ []
    ))
    ∷ does (calls (codes "clone_preserving_field_list") (member (var (codes "CloneType")) (codes "I2E") ∷ n 32 5 ∷ n 8 1 ∷ []))
    ∷ []
    )) 0x12 0x34 0x5678
unfolding num bits signature16 control16
externs = record { frame = refl; store = refl; emitted = refl; work = refl }

-- with other locals in ingress
abbrev with_locals : List Local → List Stmt16 → Setting
with_locals declared xs = plainly (program (record (doing xs) { ingress_locals = declared }))

-- bit<8> u; bit<8> v = hdr.h.x; h_t w = hdr.h; bool q = v == hdr.h.x;
-- u = v + 8w1; w.y = u; if (q && w.isValid()) { bit<8> v = 8w9; hdr.i = w; hdr.i.x = v; } hdr.h.y = v;
abbrev own : List Local
own =
    local.Var (record { of = bits_type 8; name = codes "u"; initial = None })
    ∷ local.Var (record { of = bits_type 8; name = codes "v"; initial = Some h_x })
    ∷ local.Var (record { of = named (codes "h_t"); name = codes "w"; initial = Some (hdr (codes "h")) })
    ∷ local.Var (record { of = BoolType; name = codes "q"; initial = Some (binary Equal (var (codes "v")) h_x) }) ∷ []

control_variables : IngressAlike (with_locals own (
    assign (var (codes "u")) (binary Add (var (codes "v")) (n 8 1))
    ∷ assign (member (var (codes "w")) (codes "y")) (var (codes "u"))
    ∷ if_then (binary And (var (codes "q")) (method (var (codes "w")) (codes "isValid") []))
    (block (statements (
    var_is (bits_type 8) (codes "v") (n 8 9)
    ∷ assign (hdr (codes "i")) (var (codes "w"))
    ∷ assign (field (codes "i") (codes "x")) (var (codes "v")) ∷ []
    )))
    ∷ assign h_y (var (codes "v")) ∷ []
    )) 0x12 0x34 0x5678
unfolding num bits signature16 control16
control_variables = record { frame = refl; store = refl; emitted = refl; work = refl }

-- action a(inout bit<8> x, out bit<8> y, in bit<16> z) { bit<8> v = x; x = 8w1; y = v + z[7:0]; }
-- action b(inout h_t g, inout bit<8> x) { a(g.x, g.y, g.z); bit<8> x = 8w5; a(x, g.x, 16w2); }
-- b(hdr.h, meta.k); b(hdr.i, hdr.h.x); a(hdr.h.z[15:8], meta.l, 16w0x102);
abbrev callers : List Local
callers =
    action (codes "a") (param (Some InOut) (bits_type 8) (codes "x") ∷ param (Some Out) (bits_type 8) (codes "y") ∷ param (Some In) (bits_type 16) (codes "z") ∷ [])
    (statements (
    var_is (bits_type 8) (codes "v") (var (codes "x")) ∷ assign (var (codes "x")) (n 8 1)
    ∷ assign (var (codes "y")) (binary Add (var (codes "v")) (slice (var (codes "z")) (number 7) (number 0))) ∷ []
    ))
    ∷ action (codes "b") (param (Some InOut) (named (codes "h_t")) (codes "g") ∷ param (Some InOut) (bits_type 8) (codes "x") ∷ [])
    (statements (
    does (calls (codes "a") (member (var (codes "g")) (codes "x") ∷ member (var (codes "g")) (codes "y") ∷ member (var (codes "g")) (codes "z") ∷ []))
    ∷ var_is (bits_type 8) (codes "x") (n 8 5)
    ∷ does (calls (codes "a") (var (codes "x") ∷ member (var (codes "g")) (codes "x") ∷ n 16 2 ∷ [])) ∷ []
    ))
    ∷ []

calls_of_actions : IngressAlike (with_locals callers (
    does (calls (codes "b") (hdr (codes "h") ∷ meta (codes "k") ∷ []))
    ∷ does (calls (codes "b") (hdr (codes "i") ∷ h_x ∷ []))
    ∷ does (calls (codes "a") (slice h_z (number 15) (number 8) ∷ meta (codes "l") ∷ n 16 0x102 ∷ [])) ∷ []
    )) 0x12 0x34 0x5678
unfolding num bits signature16 control16
calls_of_actions = record { frame = refl; store = refl; emitted = refl; work = refl }

-- a(8w5, (bit<1>) t.apply().hit): the table runs a itself before the arguments enter its parameters
-- action a(bit<8> v, bit<1> k) { hdr.h.y = v; }
abbrev running_itself : List Local
running_itself =
    action (codes "a") (param None (bits_type 8) (codes "v") ∷ param None (bits_type 1) (codes "k") ∷ [])
    (statements (assign h_y (var (codes "v")) ∷ []))
    ∷ table (codes "t") (property.Key (key h_x (codes "exact") ∷ []) ∷ property.Actions (an_action (codes "a") ∷ []) ∷ []) ∷ []

abbrev apply_t : Exp16
apply_t = method (var (codes "t")) (codes "apply") []

abbrev two_given : ℕ → Entry
two_given x = record { keys = key_match.Exact x ∷ []; priority = 0; action = 0; arguments = 0xaa ∷ 1 ∷ [] }

arguments_apart : IngressAlike (filled (program (record (doing (
    does (calls (codes "a") (n 8 5 ∷ cast (cast_to.Bit (number 1)) (member apply_t (codes "hit")) ∷ [])) ∷ []
    )) { ingress_locals = running_itself })) (record { entries = two_given 0x12 ∷ []; default = None } ∷ [])) 0x12 0x34 0x5678
unfolding num bits signature16 control16
arguments_apart = record { frame = refl; store = refl; emitted = refl; work = refl }

-- hdr.i = t.apply().hit ? hdr.h : hdr.i;
chosen_header : IngressAlike (applying (
    assign (hdr (codes "i")) (choice (member apply (codes "hit")) (hdr (codes "h")) (hdr (codes "i"))) ∷ []
    )) 0x12 0x34 0x5678
unfolding num bits signature16 control16
chosen_header = record { frame = refl; store = refl; emitted = refl; work = refl }

-- hdr.h.z = (t.apply().miss ? hdr.i : hdr.h).z;
chosen_field : IngressAlike (applying (
    assign h_z (member (choice (member apply (codes "miss")) (hdr (codes "i")) (hdr (codes "h"))) (codes "z")) ∷ []
    )) 0x12 0x34 0x5678
unfolding num bits signature16 control16
chosen_field = record { frame = refl; store = refl; emitted = refl; work = refl }

-- if ((t.apply().hit ? hdr.h : hdr.i).isValid()) hdr.h.z = 16w1;
chosen_validity : IngressAlike (applying (
    if_then (method (choice (member apply (codes "hit")) (hdr (codes "h")) (hdr (codes "i"))) (codes "isValid") []) (assign h_z (n 16 1)) ∷ []
    )) 0x12 0x34 0x5678
unfolding num bits signature16 control16
chosen_validity = record { frame = refl; store = refl; emitted = refl; work = refl }

-- hdr.s[1] = hdr.s[0]; t.apply();
elements_and_tables : IngressAlike (applying (
    assign (index (hdr (codes "s")) (number 1)) (index (hdr (codes "s")) (number 0)) ∷ does apply ∷ []
    )) 0x13 0x34 0x5678
unfolding num bits signature16 control16
elements_and_tables = record { frame = refl; store = refl; emitted = refl; work = refl }

-- counter(32w2, CounterType.packets_and_bytes) c; register<bit<8>>(32w2) r; meter(32w2, MeterType.packets) m;
abbrev objects : List Local
objects =
    local.Instance [] (instance.Counter (n 32 2) (member_of.CounterType PacketsAndBytes) (codes "c"))
    ∷ local.Instance [] (instance.Register (number 8) (n 32 2) (codes "r"))
    ∷ local.Instance [] (instance.Meter (n 32 2) (member_of.MeterType meter_type.Packets) (codes "m")) ∷ []

abbrev on : List ℕ → List ℕ → List Exp16 → Stmt16
on object word es = does (method (var object) word es)

-- c.count(32w1); r.write(32w1, hdr.h.x); r.read(hdr.h.z[11:4], 32w1); r.read(hdr.h.y, 32w2); m.execute_meter(32w0, hdr.h.y);
stateful_objects : IngressAlike (with_locals objects (
    on (codes "c") (codes "count") (n 32 1 ∷ [])
    ∷ on (codes "r") (codes "write") (n 32 1 ∷ h_x ∷ [])
    ∷ on (codes "r") (codes "read") (slice h_z (number 11) (number 4) ∷ n 32 1 ∷ [])
    ∷ on (codes "r") (codes "read") (h_y ∷ n 32 2 ∷ [])
    ∷ on (codes "m") (codes "execute_meter") (n 32 0 ∷ h_y ∷ []) ∷ []
    )) 0x12 0x34 0x5678
unfolding num bits signature16 control16
stateful_objects = record { frame = refl; store = refl; emitted = refl; work = refl }

-- hdr.h.isValid(); ; hdr.s[1].setValid(); hdr.s[1].v = 8w7; hdr.s.pop_front(1); hdr.s[0].setInvalid();
-- resubmit_preserving_field_list(8w1);
further_calls : IngressAlike (does_this (
    does (method (hdr (codes "h")) (codes "isValid") [])
    ∷ empty
    ∷ does (method (index (hdr (codes "s")) (number 1)) (codes "setValid") [])
    ∷ assign (member (index (hdr (codes "s")) (number 1)) (codes "v")) (n 8 7)
    ∷ does (method (hdr (codes "s")) (codes "pop_front") (n 32 1 ∷ []))
    ∷ does (method (index (hdr (codes "s")) (number 0)) (codes "setInvalid") [])
    ∷ does (calls (codes "resubmit_preserving_field_list") (n 8 1 ∷ [])) ∷ []
    )) 0x12 0x34 0x5678
unfolding num bits signature16 control16
further_calls = record { frame = refl; store = refl; emitted = refl; work = refl }

-- the other blocks

abbrev sums : List ℕ → Exp16 → Exp16 → Stmt16
sums text condition to =
    does (calls text (condition ∷ listed (given (h_x ∷ h_y ∷ [])) ∷ to ∷ algorithm (codes "csum16") ∷ []))

-- the right checksum of 1234 is edcb
verifies : BlockAlike (plainly (program (record small { verify = sums (codes "verify_checksum_with_payload") (truth true) h_z ∷ sums (codes "verify_checksum") (method (hdr (codes "i")) (codes "isValid") []) h_z ∷ [] }))) Verify 0x12 0x34 0xedcb
unfolding num bits signature16 control16
verifies = record { frame = refl; store = refl; emitted = refl; work = refl }

updates : BlockAlike (plainly (program (record small { compute = sums (codes "update_checksum") (method (hdr (codes "h")) (codes "isValid") []) h_z ∷ sums (codes "update_checksum_with_payload") (truth true) (slice h_z (number 7) (number 0)) ∷ [] }))) Compute 0x12 0x34 0x5678
unfolding num bits signature16 control16
updates = record { frame = refl; store = refl; emitted = refl; work = refl }

-- a valid header, one that isn't, and a stack
emits : BlockAlike (plainly (program small)) Deparse 0x12 0x34 0x5678
unfolding num bits signature16 control16
emits = record { frame = refl; store = refl; emitted = refl; work = refl }
