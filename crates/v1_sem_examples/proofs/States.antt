-- What a parser does with stacks, variables and keys, seen in the packet that leaves.
use Rattle.std.proofs.Common.{◌≡◌, ℕ, List, [], ◌∷◌, refl}
use Rattle.std.specs.Prelude.{codes, true, false, Some}
use Rattle.p4x_bits.specs.BitLists.{num, bits}
use Rattle.fabric.specs.Queue.{run}
use Rattle.p416_syntax.specs.declared.parsers.Var.{Var}
use Rattle.p416_syntax.specs.declared.parsers.Target.TheVariants as target
use Rattle.p416_syntax.specs.declared.parsers.Transition.TheVariants as transition
use Rattle.p416_syntax.specs.declared.parsers.Keyset.{Keyset}
use Rattle.p416_syntax.specs.declared.parsers.Keyset.TheVariants as keyset
use Rattle.p416_syntax.specs.declared.parsers.Simple.TheVariants as simple
use Rattle.p416_syntax.specs.declared.node.BinaryOperator.TheVariants.{Add}
use Rattle.p416_syntax.specs.Tree.{Exp16, truth, name, member, index, slice, lookahead, no_arguments, binary, Stmt16, assign, var}
use Rattle.v1_core.specs.Signatures.{signature16}
use Rattle.v1_core.specs.Blocks.{control16}
use Rattle.v1_core.specs.Parsing.{parse16}
use Rattle.v1_core.specs.Passes.{ingress16, reparse16, egress16}
use Rattle.v1_core.specs.Runs.{Run16}
use Rattle.v1_sem_examples.specs.Parts.{n, number, plain, hdr, sm, bits_type, method, does, extract, state, accept, var as variable}
use Rattle.v1_sem_examples.specs.Samples.{small, parsing, program, h_x, h_y, packet}
use Rattle.v1_sem_examples.specs.Packets.{Outcome, plainly, outcome, sends}

-- stacks: the packet is 07 08 09, and hdr.h isn't extracted

abbrev next : Exp16
next = member (hdr (codes "s")) (codes "next")

abbrev last_v : Exp16
last_v = member (member (hdr (codes "s")) (codes "last")) (codes "v")

abbrev second : Exp16
second = index (hdr (codes "s")) (number 1)

abbrev starting : List Stmt16 → Outcome
starting xs = outcome (plainly (program (record small { states = state (codes "start") xs accept ∷ [] }))) (7 ∷ 8 ∷ 9 ∷ [])

abbrev on_stack : List ℕ → ℕ → Stmt16
on_stack word count = does (method (hdr (codes "s")) word (plain count ∷ []))

-- The place stays at 1: behind `push_front(1)` the first element is invalid, and the second one, to which 07 was moved, is
-- extracted again.
pushes_and_keeps_place : starting (extract next ∷ on_stack (codes "push_front") 1 ∷ extract next ∷ []) ≡ sends 3 (8 ∷ 9 ∷ []) 8
unfolding num bits run signature16 control16 parse16 ingress16 reparse16 egress16 Run16
pushes_and_keeps_place = refl

-- behind `pop_front(1)` the first one is invalid too, since the second one was
pops_and_keeps_place : starting (extract next ∷ on_stack (codes "pop_front") 1 ∷ extract next ∷ []) ≡ sends 3 (8 ∷ 9 ∷ []) 8
unfolding num bits run signature16 control16 parse16 ingress16 reparse16 egress16 Run16
pops_and_keeps_place = refl

pops_all : starting (extract next ∷ extract next ∷ on_stack (codes "pop_front") 5 ∷ []) ≡ sends 3 (9 ∷ []) 8
unfolding num bits run signature16 control16 parse16 ingress16 reparse16 egress16 Run16
pops_all = refl

-- p.extract(hdr.s[1]); p.extract(hdr.s.next); a number moves no place
extracts_by_number : starting (extract second ∷ extract next ∷ []) ≡ sends 3 (8 ∷ 7 ∷ 9 ∷ []) 7
unfolding num bits run signature16 control16 parse16 ingress16 reparse16 egress16 Run16
extracts_by_number = refl

-- hdr.s.next.setValid(); hdr.s.next.v = 8w5; neither moves the place
writes_next : starting (does (method next (codes "setValid") []) ∷ assign (member next (codes "v")) (n 8 5) ∷ extract second ∷ []) ≡ sends 3 (5 ∷ 7 ∷ 8 ∷ 9 ∷ []) 8
unfolding num bits run signature16 control16 parse16 ingress16 reparse16 egress16 Run16
writes_next = refl

-- variables

-- Those of the parser begin in order: bit<8> v = 8w5; bit<8> w = v + 8w1; and in `start` hdr.h.x = w;
abbrev variables : List Var
variables =
    record { of = bits_type 8; name = codes "v"; initial = Some (n 8 5) }
    ∷ record { of = bits_type 8; name = codes "w"; initial = Some (binary Add (variable (codes "v")) (n 8 1)) }
    ∷ []

begin_in_order : outcome (plainly (program (record (parsing (assign h_x (variable (codes "w")) ∷ [])) { variables = variables }))) packet ≡ sends 3 (6 ∷ 0x34 ∷ 0 ∷ 0 ∷ []) 9
unfolding num bits run signature16 control16 parse16 ingress16 reparse16 egress16 Run16
begin_in_order = refl

-- Those of a state begin anew each time that it is entered, here twice: bit<8> v; v = v + 8w1; p.extract(hdr.s.next);
-- hdr.s.last.v = v; and again until hdr.s[1] is valid.
begin_anew : outcome (plainly (program (record small { states = state (codes "start") (var (bits_type 8) (codes "v") ∷ assign (variable (codes "v")) (binary Add (variable (codes "v")) (n 8 1)) ∷ extract next ∷ assign last_v (variable (codes "v")) ∷ []) (transition.Select (method second (codes "isValid") [] ∷ []) (record { keyset = keyset.One (simple.Value (truth true)); target = target.Accept } ∷ record { keyset = keyset.One (simple.Value (truth false)); target = target.State (codes "start") } ∷ [])) ∷ [] }))) (7 ∷ 8 ∷ []) ≡ sends 3 (1 ∷ 1 ∷ []) 12
unfolding num bits run signature16 control16 parse16 ingress16 reparse16 egress16 Run16
begin_anew = refl

-- keys: where the case is taken y becomes 7, and else the parser stops

abbrev selecting : List Exp16 → Keyset → List ℕ → Outcome
selecting keys k octets =
    outcome (plainly (program (record small {
      states =
          state (codes "start") (extract (hdr (codes "h")) ∷ [])
          (transition.Select keys (record { keyset = k; target = target.State (codes "a") } ∷ []))
          ∷ state (codes "a") (assign h_y (n 8 7) ∷ []) accept
          ∷ [];
    }))) octets

-- select(hdr.h.x[7:4], hdr.i.isValid()) { (4w1, false): a; }
of_a_slice_and_a_truth : selecting (slice h_x (number 7) (number 4) ∷ method (hdr (codes "i")) (codes "isValid") [] ∷ []) (keyset.Tuple (simple.Value (n 4 1) ∷ simple.Value (truth false) ∷ [])) packet ≡ sends 3 (0x12 ∷ 7 ∷ 0 ∷ 0 ∷ []) 8
unfolding num bits run signature16 control16 parse16 ingress16 reparse16 egress16 Run16
of_a_slice_and_a_truth = refl

-- select(sm.parser_error) { default: a; }
of_an_error : selecting (sm (codes "parser_error") ∷ []) (keyset.One simple.Default) packet ≡ sends 3 (0x12 ∷ 7 ∷ 0 ∷ 0 ∷ []) 8
unfolding num bits run signature16 control16 parse16 ingress16 reparse16 egress16 Run16
of_an_error = refl

-- select(p.lookahead<bit<8>>()) { 7: a; }
of_what_is_ahead : selecting (lookahead (name (codes "p")) (bits_type 8) no_arguments ∷ []) (keyset.One (simple.Value (plain 7))) (0x12 ∷ 0x34 ∷ 0 ∷ 0 ∷ 7 ∷ []) ≡ sends 3 (0x12 ∷ 7 ∷ 0 ∷ 0 ∷ 7 ∷ []) 8
unfolding num bits run signature16 control16 parse16 ingress16 reparse16 egress16 Run16
of_what_is_ahead = refl
