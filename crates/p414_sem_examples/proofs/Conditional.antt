-- Conditions at the greatest width of both sides, and a packet that is resubmitted.
use Rattle.std.proofs.Common.{◌≡◌, ℕ, false, List, [], ◌∷◌, Some, None, refl}
use Rattle.std.specs.Prelude.{codes}
use Rattle.p4x_bits.specs.BitLists.{num, bits}
use Rattle.fabric.specs.declared.items.IngressNext.TheVariants as after_ingress
use Rattle.p414_syntax.specs.declared.calculations.Item.TheVariants as item
use Rattle.p414_syntax.specs.declared.node.BinaryOperator.TheVariants.{Add, Equal}
use Rattle.p414_syntax.specs.declared.parsers.Return.TheVariants as end_of
use Rattle.p414_syntax.specs.declared.syntax.Decl.{Decl}
use Rattle.p414_syntax.specs.declared.syntax.Decl.TheVariants as decl
use Rattle.p414_syntax.specs.declared.syntax.Rule14.TheVariants.{Sequential}
use Rattle.p414_syntax.specs.Tree.{Stmt, Expr, apply, if_then, no_else, else_block, number, binary, valid}
use Rattle.p414_syntax.specs.Tree.{field as field_operand}
use Rattle.p414_sem.specs.Parsing.{parsed}
use Rattle.p414_sem.specs.Signatures.{signature14}
use Rattle.p414_sem.specs.Passes.{Preserved, none_preserved, ingress14, egress14}
use Rattle.p414_sem_examples.specs.Parts.{plain, positive, field, named, of, call, n, at, by_name, to_port_3, type, header, state, action, table}
use Rattle.p414_sem_examples.specs.Programs.{simply, p3, applies_t}
use Rattle.p414_sem_examples.specs.Packets.{setting, first, sent, behind_ingress}

-- if (f.y + f.z == f.x) { apply(t); }
abbrev sum_is_x : Expr
sum_is_x =
    binary Equal
    (binary Add (field_operand (of (codes "f") (codes "y"))) (field_operand (of (codes "f") (codes "z"))))
    (field_operand (of (codes "f") (codes "x")))

abbrev if_sum_is_x : Stmt
if_sum_is_x = if_then sum_is_x applies_t no_else

sums_at_16_bits : sent (setting (p3 []) (simply (p3 []) if_sum_is_x) Sequential []) (0x01 ∷ 0x00 ∷ 0xff ∷ 0x01 ∷ []) ≡ Some (3, 0x01 ∷ 0x00 ∷ 0xff ∷ 0x01 ∷ [])
unfolding num bits parsed signature14 ingress14 egress14
sums_at_16_bits = refl

keeps_the_carry : sent (setting (p3 []) (simply (p3 []) if_sum_is_x) Sequential []) (0x00 ∷ 0x00 ∷ 0xff ∷ 0x01 ∷ []) ≡ Some (0, 0x00 ∷ 0x00 ∷ 0xff ∷ 0x01 ∷ [])
unfolding num bits parsed signature14 ingress14 egress14
keeps_the_carry = refl

-- if (valid(standard_metadata)) { apply(t); }: metadata is always valid
abbrev if_standard : Stmt
if_standard = if_then (valid (record { name = codes "standard_metadata"; index = None })) applies_t no_else

standard_metadata_is_valid : sent (setting (p3 []) (simply (p3 []) if_standard) Sequential []) (0x01 ∷ 0x00 ∷ 0xff ∷ 0x01 ∷ []) ≡ Some (3, 0x01 ∷ 0x00 ∷ 0xff ∷ 0x01 ∷ [])
unfolding num bits parsed signature14 ingress14 egress14
standard_metadata_is_valid = refl

-- Metadata m of k, l and n, of which l begins with 5. While m.k is 0 the packet is resubmitted with m.k preserved, which
-- is 1 then.
abbrev m : List ℕ
m = codes "m"

abbrev again : List Decl
again =
    type (codes "four_t") (field (codes "x") 16 ∷ field (codes "y") 8 ∷ field (codes "z") 8 ∷ [])
    ∷ header (codes "four_t") (codes "f")
    ∷ state (codes "start") (named (codes "f")) (end_of.State (codes "ingress"))
    ∷ type (codes "m_t") (field (codes "k") 8 ∷ field (codes "l") 8 ∷ field (codes "n") 8 ∷ [])
    ∷ decl.Metadata (record {
      header_type = codes "m_t";
      name = m;
      initials = Some (record { values = record { field = codes "l"; value = positive 5 } ∷ []; semicolon = false });
    })
    ∷ decl.FieldList (record { name = codes "keep"; items = item.Field (of m (codes "k")) ∷ [] })
    ∷ action (codes "again") []
    (call (codes "modify_field") (at m (codes "k") ∷ n 1 ∷ [])
    ∷ call (codes "modify_field") (at m (codes "l") ∷ n 2 ∷ [])
    ∷ call (codes "modify_field") (at m (codes "n") ∷ n 4 ∷ [])
    ∷ call (codes "resubmit") (by_name (codes "keep") ∷ [])
    ∷ [])
    ∷ action (codes "finish") []
    (call (codes "modify_field") (at (codes "f") (codes "y") ∷ at m (codes "k") ∷ [])
    ∷ call (codes "add") (at (codes "f") (codes "z") ∷ at m (codes "l") ∷ at m (codes "n") ∷ [])
    ∷ to_port_3
    ∷ [])
    ∷ table (codes "ta") (codes "again")
    ∷ table (codes "tb") (codes "finish")
    ∷ []

abbrev once_again : Stmt
once_again =
    if_then (binary Equal (field_operand (of m (codes "k"))) (number (plain 0))) (apply (codes "ta"))
    (else_block (apply (codes "tb")))

abbrev packet : List ℕ
packet = 0x12 ∷ 0x34 ∷ 0 ∷ 0 ∷ []

-- f preserves nothing, and m the number 1 of k
abbrev k_is_1 : Preserved
k_is_1 = [] ∷ (1 ∷ 0 ∷ 0 ∷ []) ∷ []

resubmits : (ingress14 (setting again (simply again once_again) Sequential []) (first (setting again (simply again once_again) Sequential [])) (record { octets = packet; port = 0; instance = 0; kept = none_preserved again })).answer.next ≡ after_ingress.Resubmit k_is_1
unfolding num bits parsed signature14 ingress14 egress14
resubmits = refl

-- the second pass finds k preserved, l at its initial value and n at 0
finishes : (behind_ingress (setting again (simply again once_again) Sequential []) (first (setting again (simply again once_again) Sequential [])) (ingress14 (setting again (simply again once_again) Sequential []) (first (setting again (simply again once_again) Sequential [])) (record { octets = packet; port = 0; instance = 6; kept = k_is_1 })).answer.next).sent ≡ Some (3, 0x12 ∷ 0x34 ∷ 0x01 ∷ 0x05 ∷ [])
unfolding num bits parsed signature14 ingress14 egress14
finishes = refl
