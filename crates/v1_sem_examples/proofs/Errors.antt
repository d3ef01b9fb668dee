-- An error in each place of a parser, and what ingress sees of it. The packet is 12 34 00 00, but where another one stands.
-- hdr.i becomes valid, and its x tells the error: 1 is PacketTooShort, 2 StackOutOfBounds, 3 NoMatch, and 0 none. A program
-- whose parser stops in its first statement behind `extract` counts 11: `extract`, that statement, four of ingress and the one
-- in the branch, the port, and three `emit`.
use Rattle.std.proofs.Common.{◌≡◌, ℕ, List, [], ◌∷◌, ◌++◌, refl}
use Rattle.std.specs.Prelude.{codes, true, false, Some}
use Rattle.p4x_bits.specs.BitLists.{num, bits}
use Rattle.fabric.specs.Queue.{run}
use Rattle.p416_syntax.specs.declared.parsers.Var.{Var}
use Rattle.p416_syntax.specs.declared.parsers.Target.TheVariants as target
use Rattle.p416_syntax.specs.declared.parsers.Transition.{Transition}
use Rattle.p416_syntax.specs.declared.parsers.Transition.TheVariants as transition
use Rattle.p416_syntax.specs.declared.node.BinaryOperator.TheVariants.{Add, Equal, And}
use Rattle.p416_syntax.specs.Tree.{Exp16, truth, name, member, lookahead, no_arguments, binary, choice, Stmt16, assign, block, if_then, if_else, var_is}
use Rattle.p416_syntax.specs.Tree as tree
use Rattle.v1_core.specs.Signatures.{signature16}
use Rattle.v1_core.specs.Blocks.{control16}
use Rattle.v1_core.specs.Parsing.{parse16}
use Rattle.v1_core.specs.Passes.{ingress16, reparse16, egress16}
use Rattle.v1_core.specs.Runs.{Run16}
use Rattle.v1_sem_examples.specs.Parts.{n, hdr, field, sm, is_error, bits_type, method, does, extract, state, accept, statements}
use Rattle.v1_sem_examples.specs.Samples.{Sample, small, parsing, program, to_port_3, h_x, h_y, packet}
use Rattle.v1_sem_examples.specs.Packets.{Outcome, plainly, outcome, sends}

-- hdr.i.setValid(); if (sm.parser_error == error.PacketTooShort) hdr.i.x = 8w1; and so on
abbrev tells_if : List ℕ → ℕ → Stmt16
tells_if x v = if_then (is_error x) (assign (field (codes "i") (codes "x")) (n 8 v))

abbrev tells : List Stmt16
tells =
    does (method (hdr (codes "i")) (codes "setValid") []) ∷ tells_if (codes "PacketTooShort") 1
    ∷ tells_if (codes "StackOutOfBounds") 2 ∷ tells_if (codes "NoMatch") 3 ∷ []

abbrev telling : Sample → List ℕ → Outcome
telling s octets = outcome (plainly (program (record s { ingress = tells ++ to_port_3 ∷ [] }))) octets

-- what these statements of the parser leave behind `extract`
abbrev behind : List Stmt16 → Outcome
behind xs = telling (parsing xs) packet

-- no element of s was extracted, and no octet is left behind hdr.h
abbrev last : Exp16
last = member (hdr (codes "s")) (codes "last")

abbrev last_v : Exp16
last_v = member last (codes "v")

-- p.lookahead<bit<8>>()
abbrev ahead : Exp16
ahead = lookahead (name (codes "p")) (bits_type 8) no_arguments

-- if (hdr.s.last.v == 8w0) { hdr.h.x = 8w1; } else { hdr.h.x = 8w2; } hdr.h.y = 8w9; neither branch runs
in_a_condition : behind (if_else (binary Equal last_v (n 8 0)) (block (statements (assign h_x (n 8 1) ∷ []))) (block (statements (assign h_x (n 8 2) ∷ []))) ∷ assign h_y (n 8 9) ∷ []) ≡ sends 3 (0x12 ∷ 0x34 ∷ 0 ∷ 0 ∷ 2 ∷ 0 ∷ 0 ∷ 0 ∷ []) 11
unfolding num bits run signature16 control16 parse16 ingress16 reparse16 egress16 Run16
in_a_condition = refl

-- bit<8> v = p.lookahead<bit<8>>(); hdr.h.x = 8w1;
in_an_initial_value : behind (var_is (bits_type 8) (codes "v") ahead ∷ assign h_x (n 8 1) ∷ []) ≡ sends 3 (0x12 ∷ 0x34 ∷ 0 ∷ 0 ∷ 1 ∷ 0 ∷ 0 ∷ 0 ∷ []) 11
unfolding num bits run signature16 control16 parse16 ingress16 reparse16 egress16 Run16
in_an_initial_value = refl

-- hdr.h.x = hdr.h.y + hdr.s.last.v; nothing is written
in_an_operand : behind (assign h_x (binary Add h_y last_v) ∷ []) ≡ sends 3 (0x12 ∷ 0x34 ∷ 0 ∷ 0 ∷ 2 ∷ 0 ∷ 0 ∷ 0 ∷ []) 11
unfolding num bits run signature16 control16 parse16 ingress16 reparse16 egress16 Run16
in_an_operand = refl

-- p.extract(hdr.s.last); the place is asked for before the bits, of which there are none
in_extract : behind (extract last ∷ []) ≡ sends 3 (0x12 ∷ 0x34 ∷ 0 ∷ 0 ∷ 2 ∷ 0 ∷ 0 ∷ 0 ∷ []) 11
unfolding num bits run signature16 control16 parse16 ingress16 reparse16 egress16 Run16
in_extract = refl

-- hdr.s.last.setValid(); hdr.h.x = 8w1;
in_set_valid : behind (does (method last (codes "setValid") []) ∷ assign h_x (n 8 1) ∷ []) ≡ sends 3 (0x12 ∷ 0x34 ∷ 0 ∷ 0 ∷ 2 ∷ 0 ∷ 0 ∷ 0 ∷ []) 11
unfolding num bits run signature16 control16 parse16 ingress16 reparse16 egress16 Run16
in_set_valid = refl

-- hdr.s.last.isValid(); hdr.h.x = 8w1;
in_is_valid : behind (does (method last (codes "isValid") []) ∷ assign h_x (n 8 1) ∷ []) ≡ sends 3 (0x12 ∷ 0x34 ∷ 0 ∷ 0 ∷ 2 ∷ 0 ∷ 0 ∷ 0 ∷ []) 11
unfolding num bits run signature16 control16 parse16 ingress16 reparse16 egress16 Run16
in_is_valid = refl

-- p.lookahead<bit<8>>(); as a statement, then hdr.h.x = 8w1;
in_a_statement : behind (does ahead ∷ assign h_x (n 8 1) ∷ []) ≡ sends 3 (0x12 ∷ 0x34 ∷ 0 ∷ 0 ∷ 1 ∷ 0 ∷ 0 ∷ 0 ∷ []) 11
unfolding num bits run signature16 control16 parse16 ingress16 reparse16 egress16 Run16
in_a_statement = refl

-- what isn't evaluated raises nothing: if (false && hdr.s.last.v == 8w0) hdr.h.x = 8w1; hdr.h.y = 8w9;
none_behind_and : behind (if_then (binary And (truth false) (binary Equal last_v (n 8 0))) (assign h_x (n 8 1)) ∷ assign h_y (n 8 9) ∷ []) ≡ sends 3 (0x12 ∷ 9 ∷ 0 ∷ 0 ∷ 0 ∷ 0 ∷ 0 ∷ 0 ∷ []) 12
unfolding num bits run signature16 control16 parse16 ingress16 reparse16 egress16 Run16
none_behind_and = refl

-- hdr.h.x = true ? 8w1 : hdr.s.last.v;
none_in_what_is_not_chosen : behind (assign h_x (choice (truth true) (n 8 1) last_v) ∷ []) ≡ sends 3 (1 ∷ 0x34 ∷ 0 ∷ 0 ∷ 0 ∷ 0 ∷ 0 ∷ 0 ∷ []) 11
unfolding num bits run signature16 control16 parse16 ingress16 reparse16 egress16 Run16
none_in_what_is_not_chosen = refl

-- a parser's variable bit<8> v = p.lookahead<bit<8>>(); of no octet: `start` doesn't begin
abbrev looks_at_first : List Var
looks_at_first = record { of = bits_type 8; name = codes "v"; initial = Some ahead } ∷ []

in_a_variable_of_the_parser : telling (record small { variables = looks_at_first }) [] ≡ sends 3 (1 ∷ 0 ∷ 0 ∷ 0 ∷ []) 10
unfolding num bits run signature16 control16 parse16 ingress16 reparse16 egress16 Run16
in_a_variable_of_the_parser = refl

-- A parser may write `parser_error` itself: sm.parser_error = error.NoMatch; no error stops it, so verify, which writes 9 to
-- hdr.h.x, runs, with `reject` as with `accept`.
abbrev writing_error : Transition → Sample
writing_error t =
    record small {
      states =
          state (codes "start")
          (extract (hdr (codes "h")) ∷ assign (sm (codes "parser_error")) (member tree.error (codes "NoMatch")) ∷ []) t
          ∷ [];
      verify = assign h_x (n 8 9) ∷ [];
    }

writes_and_accepts : telling (writing_error accept) packet ≡ sends 3 (9 ∷ 0x34 ∷ 0 ∷ 0 ∷ 3 ∷ 0 ∷ 0 ∷ 0 ∷ []) 13
unfolding num bits run signature16 control16 parse16 ingress16 reparse16 egress16 Run16
writes_and_accepts = refl

writes_and_rejects : telling (writing_error (transition.Go target.Reject)) packet ≡ sends 3 (9 ∷ 0x34 ∷ 0 ∷ 0 ∷ 3 ∷ 0 ∷ 0 ∷ 0 ∷ []) 13
unfolding num bits run signature16 control16 parse16 ingress16 reparse16 egress16 Run16
writes_and_rejects = refl
