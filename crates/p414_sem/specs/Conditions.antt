-- Conditions (P4_14 1.0.5, "Packet Processing and Control Flow"; the width of a comparison, and a shift by as much or
-- more, are this project's own). A comparison computes at the greatest width among all operands on both sides: operands
-- are extended with zeros, and all operations are modulo 2 ^ width. Parentheses change nothing. What gives a truth value
-- where a number is wanted, or a number where a truth value is, stands only so that each function has all cases; so does
-- a minus sign, which C26 refuses.
use Rattle.std.specs.Prelude.{ℕ, zero, suc, ◌+◌, ◌-◌, ◌*◌, ◌/◌, ◌%◌, ◌^◌, max, Bool, false, not, ◌&&◌, ◌||◌, ◌==◌, nat_lt, nat_le, if◌then◌else◌, bit_and, bit_or, bit_xor, List, unwrap_or}
use Rattle.p414_syntax.specs.declared.lexeme.Literal.{Literal}
use Rattle.p414_syntax.specs.declared.node.UnaryOperator.{UnaryOperator}
use Rattle.p414_syntax.specs.declared.node.UnaryOperator.TheVariants.{Negate, Complement, Not}
use Rattle.p414_syntax.specs.declared.node.BinaryOperator.{BinaryOperator}
use Rattle.p414_syntax.specs.declared.node.BinaryOperator.TheVariants.{Multiply, Add, Subtract, ShiftLeft, ShiftRight, BitAnd, BitXor, BitOr, Less, LessEqual, Greater, GreaterEqual, Equal, NotEqual, And, Or}
use Rattle.p414_syntax.specs.declared.syntax.Decl.{Decl}
use Rattle.p414_syntax.specs.Tree.{Expr, valid, truth, field, number, parenthesized, unary, binary}
use Rattle.p414_syntax.specs.Primitives.{is_standard}
use Rattle.p414_sem.specs.Slots.{slot_of, bits_of_ref, element_of}
use Rattle.p414_sem.specs.State.{State, is_valid_at, read}

-- how many bits a number needs, at least 1, counted up to a limit that no literal passes
abbrev pub bit_length_within : ℕ → ℕ → ℕ
bit_length_within zero n = 1
bit_length_within (suc limit) n = if nat_lt n (2 ^ (suc limit)) then bit_length_within limit n else suc (suc limit)

abbrev pub bit_length : ℕ → ℕ
bit_length n = bit_length_within 127 n

-- the width of a literal: that of its prefix, or as many bits as its number needs
abbrev pub literal_width : Literal → ℕ
literal_width n = unwrap_or n.width (bit_length n.value)

-- the greatest width among the operands of an expression
abbrev pub operand_width : List Decl → Expr → ℕ
operand_width ds (valid i) = 1
operand_width ds (truth b) = 1
operand_width ds (field r) = bits_of_ref ds r
operand_width ds (number n) = literal_width n
operand_width ds (parenthesized a) = operand_width ds a
operand_width ds (unary o a) = operand_width ds a
operand_width ds (binary o a b) = max (operand_width ds a) (operand_width ds b)

-- operators on numbers below 2 ^ width

abbrev pub unary_number : ℕ → UnaryOperator → ℕ → ℕ
unary_number width Negate a = (2 ^ width - a) % 2 ^ width
unary_number width Complement a = 2 ^ width - 1 - a
unary_number width Not a = 0

abbrev pub shifted_left : ℕ → ℕ → ℕ → ℕ
shifted_left width a count = if nat_le width count then 0 else a * 2 ^ count % 2 ^ width

abbrev pub shifted_right : ℕ → ℕ → ℕ → ℕ
shifted_right width a count = if nat_le width count then 0 else a / 2 ^ count

abbrev pub binary_number : ℕ → BinaryOperator → ℕ → ℕ → ℕ
binary_number width Multiply a b = a * b % 2 ^ width
binary_number width Add a b = (a + b) % 2 ^ width
binary_number width Subtract a b = (a + 2 ^ width - b) % 2 ^ width
binary_number width ShiftLeft a b = shifted_left width a b
binary_number width ShiftRight a b = shifted_right width a b
binary_number width BitAnd a b = bit_and a b
binary_number width BitXor a b = bit_xor a b
binary_number width BitOr a b = bit_or a b
binary_number width _ a b = 0

-- an expression's number at a width that each of its operands fits; a field of an invalid header is 0
abbrev pub number_at : List Decl → ℕ → State → Expr → ℕ
number_at ds width s (valid i) = 0
number_at ds width s (truth b) = 0
number_at ds width s (field r) = read s (slot_of ds r)
number_at ds width s (number n) = n.value
number_at ds width s (parenthesized a) = number_at ds width s a
number_at ds width s (unary o a) = unary_number width o (number_at ds width s a)
number_at ds width s (binary o a b) = binary_number width o (number_at ds width s a) (number_at ds width s b)

abbrev pub compares : BinaryOperator → ℕ → ℕ → Bool
compares Less a b = nat_lt a b
compares LessEqual a b = nat_le a b
compares Greater a b = nat_lt b a
compares GreaterEqual a b = nat_le b a
compares Equal a b = a == b
compares NotEqual a b = not (a == b)
compares _ a b = false

-- both sides of a comparison, at the greatest width of both
abbrev pub comparison : List Decl → State → BinaryOperator → Expr → Expr → Bool
comparison ds s o a b =
    let width = max (operand_width ds a) (operand_width ds b) in
    compares o (number_at ds width s a) (number_at ds width s b)

abbrev pub unary_truth : UnaryOperator → Bool → Bool
unary_truth Not a = not a
unary_truth _ a = false

-- `and` and `or` join the truth values of their sides; any other operator compares them
abbrev pub binary_truth : BinaryOperator → Bool → Bool → Bool → Bool
binary_truth And a b compared = a && b
binary_truth Or a b compared = a || b
binary_truth _ a b compared = compared

-- whether a condition holds; metadata is always valid, and `standard_metadata` with it
abbrev pub holds : List Decl → State → Expr → Bool
holds ds s (valid i) = is_standard i.name || is_valid_at s (element_of ds i)
holds ds s (truth b) = b
holds ds s (field r) = false
holds ds s (number n) = false
holds ds s (parenthesized a) = holds ds s a
holds ds s (unary o a) = unary_truth o (holds ds s a)
holds ds s (binary o a b) = binary_truth o (holds ds s a) (holds ds s b) (comparison ds s o a b)
