-- In which order things are evaluated, copied and run: operands, arguments, branches, variables, and a control that runs twice.
-- The packet is 12 34 00 00.
use Rattle.std.proofs.Common.{◌≡◌, List, [], ◌∷◌, refl}
use Rattle.std.specs.Prelude.{codes, true, false, Some, None}
use Rattle.p4x_bits.specs.BitLists.{num, bits}
use Rattle.state_store.specs.declared.cells.Cells.TheVariants.{Counts}
use Rattle.fabric.specs.Queue.{run}
use Rattle.p416_syntax.specs.declared.parts.Direction.TheVariants.{In, InOut}
use Rattle.p416_syntax.specs.declared.parts.Member.TheVariants as member_of
use Rattle.p416_syntax.specs.declared.parts.CounterType.TheVariants.{Packets}
use Rattle.p416_syntax.specs.declared.controls.Instance.TheVariants as instance
use Rattle.p416_syntax.specs.declared.controls.Local.{Local}
use Rattle.p416_syntax.specs.declared.controls.Local.TheVariants as local
use Rattle.p416_syntax.specs.declared.controls.Property.TheVariants as property
use Rattle.p416_syntax.specs.declared.node.BinaryOperator.TheVariants.{Add, Concatenate}
use Rattle.p416_syntax.specs.declared.program.Syntax16.{Syntax16}
use Rattle.p416_syntax.specs.Tree.{Exp16, truth, member, binary, choice, Stmt16, assign, if_else}
use Rattle.v1_core.specs.Signatures.{signature16}
use Rattle.v1_core.specs.Blocks.{control16}
use Rattle.v1_core.specs.Parsing.{parse16}
use Rattle.v1_core.specs.Passes.{ingress16, reparse16, egress16}
use Rattle.v1_core.specs.Runs.{Run16}
use Rattle.v1_sem_examples.specs.Parts.{n, named, bits_type, param, hdr, action, table, an_action, method, calls, given, does, statements, var as variable}
use Rattle.v1_sem_examples.specs.Samples.{doing, program, h_x, h_z, packet}
use Rattle.v1_sem_examples.specs.Packets.{Outcome, plainly, outcome, sends, sends_of, cells}

-- action s() { hdr.h.x = 8w9; }
-- table t { actions = { s; } default_action = s(); }
-- action w(in bit<8> f, in bit<8> g) { hdr.h.z = f ++ g; }
abbrev locals : List Local
locals =
    action (codes "s") [] (statements (assign h_x (n 8 9) ∷ []))
    ∷ table (codes "t") (property.Actions (an_action (codes "s") ∷ []) ∷ property.DefaultAction (an_action (codes "s")) (given []) ∷ [])
    ∷ action (codes "w") (param (Some In) (bits_type 8) (codes "f") ∷ param (Some In) (bits_type 8) (codes "g") ∷ [])
    (statements (assign h_z (binary Concatenate (variable (codes "f")) (variable (codes "g"))) ∷ []))
    ∷ []

-- t.apply().hit ? 8w1 : hdr.h.x, which is 9: the table misses, and its default runs in front of the choice
abbrev applying : Exp16
applying = choice (member (method (variable (codes "t")) (codes "apply") []) (codes "hit")) (n 8 1) h_x

abbrev doing_with : List Local → List Stmt16 → Outcome
doing_with ls xs = outcome (plainly (program (record (doing xs) { ingress_locals = ls }))) packet

-- hdr.h.z = hdr.h.x ++ (..); the left operand is read first
left_operand_first : doing_with locals (assign h_z (binary Concatenate h_x applying) ∷ []) ≡ sends 3 (9 ∷ 0x34 ∷ 0x12 ∷ 9 ∷ []) 8
unfolding num bits run signature16 control16 parse16 ingress16 reparse16 egress16 Run16
left_operand_first = refl

-- w(hdr.h.x, ..); so is the first argument
first_argument_first : doing_with locals (does (calls (codes "w") (h_x ∷ applying ∷ [])) ∷ []) ≡ sends 3 (9 ∷ 0x34 ∷ 0x12 ∷ 9 ∷ []) 9
unfolding num bits run signature16 control16 parse16 ingress16 reparse16 egress16 Run16
first_argument_first = refl

-- action a(inout bit<8> q, inout h_t w) { q = 8w5; w.x = 8w6; }
-- action b(inout h_t w, inout bit<8> q) { q = 8w5; w.setInvalid(); }
-- action c(in h_t v, inout h_t w) { w.setInvalid(); hdr.i = v; }
abbrev w : Exp16
w = variable (codes "w")

abbrev q : Exp16
q = variable (codes "q")

abbrev of_headers : List Local
of_headers =
    action (codes "a") (param (Some InOut) (bits_type 8) (codes "q") ∷ param (Some InOut) (named (codes "h_t")) (codes "w") ∷ [])
    (statements (assign q (n 8 5) ∷ assign (member w (codes "x")) (n 8 6) ∷ []))
    ∷ action (codes "b") (param (Some InOut) (named (codes "h_t")) (codes "w") ∷ param (Some InOut) (bits_type 8) (codes "q") ∷ [])
    (statements (assign q (n 8 5) ∷ does (method w (codes "setInvalid") []) ∷ []))
    ∷ action (codes "c") (param (Some In) (named (codes "h_t")) (codes "v") ∷ param (Some InOut) (named (codes "h_t")) (codes "w") ∷ [])
    (statements (does (method w (codes "setInvalid") []) ∷ assign (hdr (codes "i")) (variable (codes "v")) ∷ []))
    ∷ []

-- a(hdr.h.x, hdr.h); the header is copied out behind its field
header_behind_its_field : doing_with of_headers (does (calls (codes "a") (h_x ∷ hdr (codes "h") ∷ [])) ∷ []) ≡ sends 3 (6 ∷ 0x34 ∷ 0 ∷ 0 ∷ []) 9
unfolding num bits run signature16 control16 parse16 ingress16 reparse16 egress16 Run16
header_behind_its_field = refl

-- b(hdr.h, hdr.h.x); hdr.i.setValid(); the header is copied out first and is invalid, so the write to its field does nothing
field_behind_its_header : doing_with of_headers (does (calls (codes "b") (hdr (codes "h") ∷ h_x ∷ [])) ∷ does (method (hdr (codes "i")) (codes "setValid") []) ∷ []) ≡ sends 3 (0 ∷ 0 ∷ 0 ∷ 0 ∷ []) 10
unfolding num bits run signature16 control16 parse16 ingress16 reparse16 egress16 Run16
field_behind_its_header = refl

-- c(hdr.h, hdr.h); the first parameter is a header by itself, and hdr.h is invalid behind the call
copies_a_header_in : doing_with of_headers (does (calls (codes "c") (hdr (codes "h") ∷ hdr (codes "h") ∷ [])) ∷ []) ≡ sends 3 packet 9
unfolding num bits run signature16 control16 parse16 ingress16 reparse16 egress16 Run16
copies_a_header_in = refl

-- if (false) hdr.h.x = 8w1; else if (true) hdr.h.x = 8w2; else hdr.h.x = 8w3; the inner `if` counts too
chains : sends_of (if_else (truth false) (assign h_x (n 8 1)) (if_else (truth true) (assign h_x (n 8 2)) (assign h_x (n 8 3))) ∷ []) ≡ sends 3 (2 ∷ 0x34 ∷ 0 ∷ 0 ∷ []) 9
unfolding num bits run signature16 control16 parse16 ingress16 reparse16 egress16 Run16
chains = refl

-- a control's bit<8> v = v + 8w1; and hdr.h.x = v; a variable is there, and 0, before its initial value is evaluated
abbrev of_itself : List Local
of_itself =
    local.Var (record { of = bits_type 8; name = codes "v"; initial = Some (binary Add (variable (codes "v")) (n 8 1)) }) ∷ []

begins_with_itself : doing_with of_itself (assign h_x (variable (codes "v")) ∷ []) ≡ sends 3 (1 ∷ 0x34 ∷ 0 ∷ 0 ∷ []) 8
unfolding num bits run signature16 control16 parse16 ingress16 reparse16 egress16 Run16
begins_with_itself = refl

-- One control at both pipelines: counter(32w1, CounterType.packets) c; bit<8> v; and v = v + 8w1; hdr.h.x = hdr.h.x + v;
-- c.count(32w0); its variable begins anew, and its counter is one.
abbrev at_both : Syntax16
at_both =
    record (program (record (doing (assign (variable (codes "v")) (binary Add (variable (codes "v")) (n 8 1)) ∷ assign h_x (binary Add h_x (variable (codes "v"))) ∷ does (method (variable (codes "c")) (codes "count") (n 32 0 ∷ [])) ∷ [])) {
      ingress_locals =
          local.Instance [] (instance.Counter (n 32 1) (member_of.CounterType Packets) (codes "c"))
          ∷ local.Var (record { of = bits_type 8; name = codes "v"; initial = None }) ∷ [];
    })) {
      main = codes "P" ∷ codes "V" ∷ codes "I" ∷ codes "I" ∷ codes "C" ∷ codes "D" ∷ [];
    }

runs_at_both : outcome (plainly at_both) packet ≡ sends 3 (0x14 ∷ 0x34 ∷ 0 ∷ 0 ∷ []) 13
unfolding num bits run signature16 control16 parse16 ingress16 reparse16 egress16 Run16
runs_at_both = refl

counts_at_both : cells (plainly at_both) packet ≡ Counts ((2, 0) ∷ []) ∷ []
unfolding num bits run signature16 control16 parse16 ingress16 reparse16 egress16 Run16
counts_at_both = refl
