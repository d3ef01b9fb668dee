-- Parsers: the four errors, what is left, and the count of statements and transitions.
use Rattle.std.proofs.Common.{◌≡◌, ℕ, List, [], ◌∷◌, refl}
use Rattle.std.specs.Prelude.{codes}
use Rattle.p4x_bits.specs.BitLists.{num, bits}
use Rattle.fabric.specs.Queue.{run}
use Rattle.p416_syntax.specs.declared.parsers.Target.{Target}
use Rattle.p416_syntax.specs.declared.parsers.Target.TheVariants as target
use Rattle.p416_syntax.specs.declared.parsers.Transition.{Transition}
use Rattle.p416_syntax.specs.declared.parsers.Transition.TheVariants as transition
use Rattle.p416_syntax.specs.declared.parsers.Keyset.{Keyset}
use Rattle.p416_syntax.specs.declared.parsers.Keyset.TheVariants as keyset
use Rattle.p416_syntax.specs.declared.parsers.Simple.{Simple}
use Rattle.p416_syntax.specs.declared.parsers.Simple.TheVariants as simple
use Rattle.p416_syntax.specs.declared.parsers.SelectCase.{SelectCase}
use Rattle.p416_syntax.specs.declared.program.Syntax16.{Syntax16}
use Rattle.p416_syntax.specs.Tree.{Exp16, name, member, lookahead, no_arguments, Stmt16, assign, empty, block, if_then, binary}
use Rattle.p416_syntax.specs.declared.node.BinaryOperator.TheVariants.{Equal}
use Rattle.p416_syntax.specs.Tree as tree
use Rattle.v1_core.specs.declared.parser_error.ParserError.TheVariants.{NoError, PacketTooShort, StackOutOfBounds, NoMatch}
use Rattle.v1_core.specs.Signatures.{signature16}
use Rattle.v1_core.specs.Blocks.{control16}
use Rattle.v1_core.specs.Parsing.{parse16}
use Rattle.v1_core.specs.Passes.{ingress16, reparse16, egress16}
use Rattle.v1_core.specs.Runs.{Run16}
use Rattle.v1_sem_examples.specs.Parts.{n, plain, hdr, field, sm, bits_type, extract, state, accept, statements}
use Rattle.v1_sem_examples.specs.Samples.{small, program, to_port_3}
use Rattle.v1_sem_examples.specs.Packets.{parsed, ends, plainly, outcome, sends}

-- one state, whose statements and whose transition are these
abbrev starting : List Stmt16 → Transition → Syntax16
starting xs t = program (record small { states = state (codes "start") xs t ∷ [] })

abbrev next : Exp16
next = member (hdr (codes "s")) (codes "next")

abbrev last : Exp16
last = member (hdr (codes "s")) (codes "last")

-- p.lookahead<bit<8>>()
abbrev ahead : Exp16
ahead = lookahead (name (codes "p")) (bits_type 8) no_arguments

accepts : parsed (starting (extract (hdr (codes "h")) ∷ []) accept) (1 ∷ 2 ∷ 3 ∷ 4 ∷ 5 ∷ []) ≡ ends NoError 2 (5 ∷ [])
unfolding num bits parse16
accepts = refl

-- `reject` is no error
rejects : parsed (starting (extract (hdr (codes "h")) ∷ []) (transition.Go target.Reject)) (1 ∷ 2 ∷ 3 ∷ 4 ∷ 5 ∷ []) ≡ ends NoError 2 (5 ∷ [])
unfolding num bits parse16
rejects = refl

-- too few bits: nothing moves, and the transition doesn't begin
too_short : parsed (starting (extract (hdr (codes "h")) ∷ []) accept) (1 ∷ 2 ∷ 3 ∷ []) ≡ ends PacketTooShort 1 (1 ∷ 2 ∷ 3 ∷ [])
unfolding num bits parse16
too_short = refl

looks_past_the_end : parsed (starting (assign (field (codes "h") (codes "x")) ahead ∷ []) accept) [] ≡ ends PacketTooShort 1 []
unfolding num bits parse16
looks_past_the_end = refl

-- `lookahead` moves nothing
looks_ahead : parsed (starting (assign (field (codes "h") (codes "x")) ahead ∷ []) accept) (7 ∷ []) ≡ ends NoError 2 (7 ∷ [])
unfolding num bits parse16
looks_ahead = refl

-- a full stack is asked for before the bits are
is_full : parsed (starting (extract next ∷ extract next ∷ extract next ∷ []) accept) (1 ∷ 2 ∷ []) ≡ ends StackOutOfBounds 3 []
unfolding num bits parse16
is_full = refl

is_short_and_not_full : parsed (starting (extract next ∷ extract next ∷ []) accept) (1 ∷ []) ≡ ends PacketTooShort 2 []
unfolding num bits parse16
is_short_and_not_full = refl

no_last : parsed (starting (assign (field (codes "h") (codes "x")) (member last (codes "v")) ∷ []) accept) (1 ∷ []) ≡ ends StackOutOfBounds 1 (1 ∷ [])
unfolding num bits parse16
no_last = refl

-- the target of an assignment is found before its value is evaluated
value_second : parsed (starting (assign (member next (codes "v")) ahead ∷ []) accept) [] ≡ ends PacketTooShort 1 []
unfolding num bits parse16
value_second = refl

target_out_of_bounds_first : parsed (starting (assign (member last (codes "v")) ahead ∷ []) accept) [] ≡ ends StackOutOfBounds 1 []
unfolding num bits parse16
target_out_of_bounds_first = refl

-- `last` is extracted again, and no place moves
extracts_last_again : parsed (starting (extract next ∷ extract last ∷ extract next ∷ []) accept) (1 ∷ 2 ∷ 3 ∷ 4 ∷ []) ≡ ends NoError 4 (4 ∷ [])
unfolding num bits parse16
extracts_last_again = refl

-- nothing runs behind an error, and an empty statement and a block count nothing
stops_behind_an_error : parsed (starting (block (statements (empty ∷ extract (hdr (codes "h")) ∷ [])) ∷ extract next ∷ []) accept) (1 ∷ []) ≡ ends PacketTooShort 1 (1 ∷ [])
unfolding num bits parse16
stops_behind_an_error = refl

-- selects

abbrev case_of : Keyset → Target → SelectCase
case_of k t = record { keyset = k; target = t }

abbrev to : List ℕ → Target
to text = target.State text

-- h is extracted, then its x is selected on; the states a, b and c extract one octet, two octets and none
abbrev selecting : List Exp16 → List SelectCase → Syntax16
selecting keys cases =
    program (record small {
      states =
          state (codes "start") (extract (hdr (codes "h")) ∷ []) (transition.Select keys cases)
          ∷ state (codes "a") (extract next ∷ []) accept
          ∷ state (codes "b") (extract next ∷ extract next ∷ []) accept
          ∷ state (codes "c") [] accept
          ∷ [];
    })

abbrev x : Exp16
x = field (codes "h") (codes "x")

abbrev y : Exp16
y = field (codes "h") (codes "y")

abbrev value : ℕ → Simple
value v = simple.Value (n 8 v)

abbrev mask : ℕ → ℕ → Simple
mask v m = simple.Mask (n 8 v) (n 8 m)

abbrev range : ℕ → ℕ → Simple
range low high = simple.Range (n 8 low) (n 8 high)

abbrev packet : List ℕ
packet = 0x12 ∷ 0x34 ∷ 0 ∷ 0 ∷ 5 ∷ 6 ∷ 7 ∷ []

-- the first case that matches counts
takes_the_first : parsed (selecting (x ∷ []) (case_of (keyset.One (value 0x12)) (to (codes "a")) ∷ case_of (keyset.One (value 0x12)) (to (codes "b")) ∷ [])) packet ≡ ends NoError 4 (6 ∷ 7 ∷ [])
unfolding num bits parse16
takes_the_first = refl

takes_the_default : parsed (selecting (x ∷ []) (case_of (keyset.One (value 0x13)) (to (codes "a")) ∷ case_of (keyset.One simple.Default) (to (codes "b")) ∷ [])) packet ≡ ends NoError 5 (7 ∷ [])
unfolding num bits parse16
takes_the_default = refl

-- key and value agree on the bits of the mask, also where the value has others
agrees_on_mask : parsed (selecting (x ∷ []) (case_of (keyset.One (mask 0x1f 0xf0)) (to (codes "a")) ∷ [])) packet ≡ ends NoError 4 (6 ∷ 7 ∷ [])
unfolding num bits parse16
agrees_on_mask = refl

within_range : parsed (selecting (x ∷ []) (case_of (keyset.One (range 0x10 0x12)) (to (codes "a")) ∷ [])) packet ≡ ends NoError 4 (6 ∷ 7 ∷ [])
unfolding num bits parse16
within_range = refl

-- low over high never matches
empty_range : parsed (selecting (x ∷ []) (case_of (keyset.One (range 0x13 0x11)) (to (codes "a")) ∷ [])) packet ≡ ends NoMatch 2 (5 ∷ 6 ∷ 7 ∷ [])
unfolding num bits parse16
empty_range = refl

-- each of a tuple has to match; `_` matches
matches_both : parsed (selecting (x ∷ y ∷ []) (case_of (keyset.Tuple (value 0x12 ∷ value 0x35 ∷ [])) (to (codes "a")) ∷ case_of (keyset.Tuple (value 0x12 ∷ simple.Any ∷ [])) (to (codes "b")) ∷ [])) packet ≡ ends NoError 5 (7 ∷ [])
unfolding num bits parse16
matches_both = refl

any_for_both : parsed (selecting (x ∷ y ∷ []) (case_of (keyset.One simple.Any) (to (codes "c")) ∷ [])) packet ≡ ends NoError 3 (5 ∷ 6 ∷ 7 ∷ [])
unfolding num bits parse16
any_for_both = refl

-- a literal without a width has that of its key
takes_width_of_key : parsed (selecting (x ∷ []) (case_of (keyset.One (simple.Value (plain 0x12))) (to (codes "c")) ∷ [])) packet ≡ ends NoError 3 (5 ∷ 6 ∷ 7 ∷ [])
unfolding num bits parse16
takes_width_of_key = refl

no_case : parsed (selecting (x ∷ []) []) packet ≡ ends NoMatch 2 (5 ∷ 6 ∷ 7 ∷ [])
unfolding num bits parse16
no_case = refl

-- a transition counts before its keys are evaluated
error_in_a_key : parsed (selecting (member last (codes "v") ∷ []) (case_of (keyset.One simple.Default) (to (codes "c")) ∷ [])) packet ≡ ends StackOutOfBounds 2 (5 ∷ 6 ∷ 7 ∷ [])
unfolding num bits parse16
error_in_a_key = refl

-- labels: a state that extracts comes again until the bottom of the stack
abbrev looping : Syntax16
looping =
    program (record small {
      states =
          state (codes "start") (extract next ∷ [])
          (transition.Select (member last (codes "v") ∷ [])
          (case_of (keyset.One (value 1)) target.Accept ∷ case_of (keyset.One simple.Default) (to (codes "start")) ∷ []))
          ∷ [];
    })

comes_again : parsed looping (2 ∷ 1 ∷ 9 ∷ []) ≡ ends NoError 4 (9 ∷ [])
unfolding num bits parse16
comes_again = refl

fills_the_stack : parsed looping (2 ∷ 4 ∷ 7 ∷ []) ≡ ends StackOutOfBounds 5 (7 ∷ [])
unfolding num bits parse16
fills_the_stack = refl

-- after an error ingress runs and sees it; what was extracted stays
abbrev seeing : Syntax16
seeing =
    program (record small {
      states = state (codes "start") (extract (hdr (codes "h")) ∷ extract (hdr (codes "i")) ∷ []) accept ∷ [];
      ingress =
          if_then (binary Equal (sm (codes "parser_error")) (member tree.error (codes "PacketTooShort")))
          (assign (field (codes "h") (codes "y")) (n 8 0xee))
          ∷ to_port_3 ∷ [];
    })

ingress_runs_after_an_error : outcome (plainly seeing) packet ≡ sends 3 (0x12 ∷ 0xee ∷ 0 ∷ 0 ∷ 5 ∷ 6 ∷ 7 ∷ []) 8
unfolding num bits run signature16 control16 parse16 ingress16 reparse16 egress16 Run16
ingress_runs_after_an_error = refl

-- the bits in front: hdr.h.x = p.lookahead<bit<8>>(), and hdr.h.z = p.lookahead<bit<12>>(), of 07 f0
abbrev looking : Exp16 → ℕ → Syntax16
looking to width =
    starting (extract (hdr (codes "h")) ∷ assign to (lookahead (name (codes "p")) (bits_type width) no_arguments) ∷ []) accept

sees_an_octet : outcome (plainly (looking (field (codes "h") (codes "x")) 8)) (1 ∷ 2 ∷ 3 ∷ 4 ∷ 7 ∷ 0xf0 ∷ []) ≡ sends 3 (7 ∷ 2 ∷ 3 ∷ 4 ∷ 7 ∷ 0xf0 ∷ []) 7
unfolding num bits run signature16 control16 parse16 ingress16 reparse16 egress16 Run16
sees_an_octet = refl

sees_twelve_bits : outcome (plainly (looking (field (codes "h") (codes "z")) 12)) (1 ∷ 2 ∷ 3 ∷ 4 ∷ 7 ∷ 0xf0 ∷ []) ≡ sends 3 (1 ∷ 2 ∷ 0 ∷ 0x7f ∷ 7 ∷ 0xf0 ∷ []) 7
unfolding num bits run signature16 control16 parse16 ingress16 reparse16 egress16 Run16
sees_twelve_bits = refl

-- 8 bits are left, and 12 are too many
sees_too_few_bits : parsed (looking (field (codes "h") (codes "z")) 12) (1 ∷ 2 ∷ 3 ∷ 4 ∷ 7 ∷ []) ≡ ends PacketTooShort 2 (7 ∷ [])
unfolding num bits parse16
sees_too_few_bits = refl
