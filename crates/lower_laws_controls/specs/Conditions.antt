-- What the lowering of conditions writes: each operand at the width of its comparison, under the operator of the same
-- name (this project's own; P4_14 1.0.5, "Packet Processing and Control Flow"; P4_16 1.2, "Operations on fixed-width
-- bit types (unsigned integers)", "Operations on Boolean values", "Operations on headers", "Casts").
use Rattle.std.specs.Prelude.{◌≡◌, ℕ, ◌<◌, ◌^◌, max, true, false, if◌then◌else◌, List}
use Rattle.p414_syntax.specs.declared.node.UnaryOperator.TheVariants as unary14
use Rattle.p414_syntax.specs.declared.node.BinaryOperator.{BinaryOperator as Binary14}
use Rattle.p414_syntax.specs.declared.node.BinaryOperator.TheVariants as op
use Rattle.p414_syntax.specs.declared.syntax.Decl.{Decl}
use Rattle.p414_syntax.specs.Tree.{Expr, valid, truth as truth14, field, number, parenthesized, unary as unary_of, binary as binary_of}
use Rattle.p414_syntax.specs.Primitives.{is_standard}
use Rattle.p414_sem.specs.Slots.{Element, slot_of, element_of, bits_of_ref}
use Rattle.p414_sem.specs.Conditions.{literal_width, operand_width}
use Rattle.p416_syntax.specs.declared.node.UnaryOperator.TheVariants as unary16
use Rattle.p416_syntax.specs.declared.node.BinaryOperator.{BinaryOperator}
use Rattle.p416_syntax.specs.declared.node.BinaryOperator.TheVariants.{Multiply, Add, Subtract, ShiftLeft, ShiftRight, BitAnd, BitXor, BitOr, Less, LessEqual, Greater, GreaterEqual, Equal, NotEqual, And, Or}
use Rattle.p416_syntax.specs.Tree.{Exp16, literal, truth, unary, binary, no_arguments}
use Rattle.agreement_of_meanings.specs.Shown.{Shown, as_metadata, shown_at, slot_width}
use Rattle.lower_laws_base.specs.Context.{Words, now, StateLayout, IsPart, IsSlot}
use Rattle.lower_laws_base.specs.Mirror.{sized, width_in, resized, slot_exp, part_exp, valid_exp}

-- the operator of the same name
abbrev pub namesake : Binary14 → BinaryOperator
namesake op.Multiply = Multiply
namesake op.Add = Add
namesake op.Subtract = Subtract
namesake op.ShiftLeft = ShiftLeft
namesake op.ShiftRight = ShiftRight
namesake op.BitAnd = BitAnd
namesake op.BitXor = BitXor
namesake op.BitOr = BitOr
namesake op.Less = Less
namesake op.LessEqual = LessEqual
namesake op.Greater = Greater
namesake op.GreaterEqual = GreaterEqual
namesake op.Equal = Equal
namesake op.NotEqual = NotEqual
namesake op.And = And
namesake op.Or = Or

-- an operand at a width; what gives no number stands in no accepted program
abbrev pub number_exp : Words → List Decl → ℕ → Expr → Exp16
number_exp w ds width (field r) = resized (width_in w (slot_of ds r)) width (slot_exp w now (slot_of ds r))
number_exp w ds width (number n) = literal (sized width n.value)
number_exp w ds width (parenthesized a) = number_exp w ds width a
number_exp w ds width (unary_of o a) = unary unary16.Complement (number_exp w ds width a)
number_exp w ds width (binary_of o a b) = binary (namesake o) (number_exp w ds width a) (number_exp w ds width b)
number_exp w ds width _ = no_arguments

-- the width of a comparison: that of its widest operand
abbrev pub width_of_both : List Decl → Expr → Expr → ℕ
width_of_both ds a b = max (operand_width ds a) (operand_width ds b)

-- whether a part is valid; metadata always is (P4_14, "Header and Metadata Instances")
abbrev pub live_exp : Shown → Exp16 → Exp16
live_exp (as_metadata called fields) e = truth true
live_exp x e = valid_exp e

-- whether an element is valid ("Operations on headers")
abbrev pub is_valid_exp : Words → Element → Exp16
is_valid_exp w at = live_exp (shown_at w.names.instances at.instance) (part_exp w now at)

-- `and` and `or` join truth values; any other operator compares
abbrev pub joined_exp : Binary14 → Exp16 → Exp16 → Exp16 → Exp16
joined_exp op.And a b compared = binary And a b
joined_exp op.Or a b compared = binary Or a b
joined_exp _ a b compared = compared

-- what is written for a condition (P4_14, "Packet Processing and Control Flow"; "Operations on Boolean values")
abbrev pub truth_exp : Words → List Decl → Expr → Exp16
truth_exp w ds (valid i) = if is_standard i.name then truth true else is_valid_exp w (element_of ds i)
truth_exp w ds (truth14 b) = truth b
truth_exp w ds (parenthesized a) = truth_exp w ds a
truth_exp w ds (unary_of o a) = unary unary16.Not (truth_exp w ds a)
truth_exp w ds (binary_of o a b) =
    let width = width_of_both ds a b in
    joined_exp o (truth_exp w ds a) (truth_exp w ds b) (binary (namesake o) (number_exp w ds width a) (number_exp w ds width b))
truth_exp w ds _ = no_arguments

-- conditions of the program

-- an operator that gives a number
abbrev pub IsSum : Binary14 → Type 0
IsSum op.Multiply = Unit {0}
IsSum op.Add = Unit {0}
IsSum op.Subtract = Unit {0}
IsSum op.ShiftLeft = Unit {0}
IsSum op.ShiftRight = Unit {0}
IsSum op.BitAnd = Unit {0}
IsSum op.BitXor = Unit {0}
IsSum op.BitOr = Unit {0}
IsSum _ = ⊥

-- an operand of the program, whose parts all fit so many bits
abbrev pub IsOperand : StateLayout → List Decl → Expr → Type 0
IsOperand g ds (field r) = IsSlot g (slot_of ds r) × (slot_width g.names.instances (slot_of ds r) ≡ bits_of_ref ds r)
IsOperand g ds (number n) = n.value < 2 ^ literal_width n
IsOperand g ds (parenthesized a) = IsOperand g ds a
IsOperand g ds (unary_of unary14.Complement a) = IsOperand g ds a
IsOperand g ds (binary_of o a b) = IsSum o × IsOperand g ds a × IsOperand g ds b
IsOperand g ds _ = ⊥

-- what an operator of a condition asks: of its truth values, or of the operands that it compares
abbrev pub IsJoined : Binary14 → Type 0 → Type 0 → Type 0
IsJoined op.And joined compared = joined
IsJoined op.Or joined compared = joined
IsJoined op.Less joined compared = compared
IsJoined op.LessEqual joined compared = compared
IsJoined op.Greater joined compared = compared
IsJoined op.GreaterEqual joined compared = compared
IsJoined op.Equal joined compared = compared
IsJoined op.NotEqual joined compared = compared
IsJoined _ joined compared = ⊥

-- a condition of the program
abbrev pub IsCondition : StateLayout → List Decl → Expr → Type 0
IsCondition g ds (valid i) = is_standard i.name ≡ false → IsPart g (element_of ds i)
IsCondition g ds (truth14 b) = Unit {0}
IsCondition g ds (parenthesized a) = IsCondition g ds a
IsCondition g ds (unary_of unary14.Not a) = IsCondition g ds a
IsCondition g ds (binary_of o a b) = IsJoined o (IsCondition g ds a × IsCondition g ds b) (IsOperand g ds a × IsOperand g ds b)
IsCondition g ds _ = ⊥
