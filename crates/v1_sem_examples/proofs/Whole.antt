-- Whole packets. F1 is the frame 01 02 .. 0e.
use Rattle.std.proofs.Common.{◌≡◌, ℕ, List, [], ◌∷◌, refl}
use Rattle.std.specs.Prelude.{take, codes}
use Rattle.p4x_bits.specs.BitLists.{num, bits}
use Rattle.fabric.specs.Queue.{run}
use Rattle.p416_syntax.specs.declared.node.BinaryOperator.TheVariants.{ShiftLeft}
use Rattle.p416_syntax.specs.Tree.{binary, assign}
use Rattle.v1_core.specs.Signatures.{signature16}
use Rattle.v1_core.specs.Blocks.{control16}
use Rattle.v1_core.specs.Parsing.{parse16}
use Rattle.v1_core.specs.Passes.{ingress16, reparse16, egress16}
use Rattle.v1_core.specs.Runs.{Run16}
use Rattle.v1_sem_examples.specs.Parts.{n, field}
use Rattle.v1_sem_examples.specs.Samples.{Sample, q1, to_port_3, program}
use Rattle.v1_sem_examples.specs.Packets.{plainly, outcome, sends}

abbrev f1 : List ℕ
f1 = 1 ∷ 2 ∷ 3 ∷ 4 ∷ 5 ∷ 6 ∷ 7 ∷ 8 ∷ 9 ∷ 10 ∷ 11 ∷ 12 ∷ 13 ∷ 14 ∷ []

-- `extract`, the transition, the assignment and `emit`
goes_through : outcome (plainly (program q1)) f1 ≡ sends 3 f1 4
unfolding num bits run signature16 control16 parse16 ingress16 reparse16 egress16 Run16
goes_through = refl

-- 13 octets are too few: the transition doesn't begin, the header is invalid, and nothing was taken
too_short : outcome (plainly (program q1)) (take 13 f1) ≡ sends 3 (take 13 f1) 3
unfolding num bits run signature16 control16 parse16 ingress16 reparse16 egress16 Run16
too_short = refl

-- hdr.h.c = hdr.h.c << 16w16;
abbrev shifting : Sample
shifting =
    record q1 {
      ingress =
          assign (field (codes "h") (codes "c")) (binary ShiftLeft (field (codes "h") (codes "c")) (n 16 16))
          ∷ to_port_3 ∷ [];
    }

shifts_out : outcome (plainly (program shifting)) f1 ≡ sends 3 (1 ∷ 2 ∷ 3 ∷ 4 ∷ 5 ∷ 6 ∷ 7 ∷ 8 ∷ 9 ∷ 10 ∷ 11 ∷ 12 ∷ 0 ∷ 0 ∷ []) 5
unfolding num bits run signature16 control16 parse16 ingress16 reparse16 egress16 Run16
shifts_out = refl
