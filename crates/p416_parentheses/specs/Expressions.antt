-- Where parentheses stand around an expression that is written (P4_16 1.2, "Expressions"; where more of them stand than have
-- to, is this project's own).
use Rattle.std.specs.Prelude.{Bool, true, false}
use Rattle.std.specs.Str.{bytes_eq}
use Rattle.p416_syntax.specs.Tree.{Exp16, literal, truth, error, name, member, index, slice, call, lookahead, cast, unary, binary, choice, parenthesized, no_arguments, argument, listed}
use Rattle.p416_syntax.specs.Tokens.{lookahead_text}

-- Parentheses stand around an operator between two operands, around `c ? a : b`, and around a member named `lookahead`,
-- behind which a `<` would begin a type.
abbrev pub is_wrapped : Exp16 → Bool
is_wrapped (member e word) = bytes_eq lookahead_text word
is_wrapped (binary operator a b) = true
is_wrapped (choice c a b) = true
is_wrapped _ = false

-- in front of a `.`, a `[` or a `(` they stand around casts and operators in front of an operand too
abbrev pub is_wrapped_base : Exp16 → Bool
is_wrapped_base (member e word) = bytes_eq lookahead_text word
is_wrapped_base (cast to e) = true
is_wrapped_base (unary operator e) = true
is_wrapped_base (binary operator a b) = true
is_wrapped_base (choice c a b) = true
is_wrapped_base _ = false

abbrev pub wrapped : Bool → Exp16 → Exp16
wrapped true e = parenthesized e
wrapped false e = e

-- the expression with parentheses around its parts, and none around itself
abbrev pub within : Exp16 → Exp16
within (literal n) = literal n
within (truth value) = truth value
within error = error
within (name text) = name text
within (member e word) = member (wrapped (is_wrapped_base e) (within e)) word
within (index e at) = index (wrapped (is_wrapped_base e) (within e)) at
within (slice e high low) = slice (wrapped (is_wrapped_base e) (within e)) high low
within (call e given) = call (wrapped (is_wrapped_base e) (within e)) (within given)
within (lookahead e of given) = lookahead (wrapped (is_wrapped_base e) (within e)) of (within given)
within (cast to e) = cast to (wrapped (is_wrapped e) (within e))
within (unary operator e) = unary operator (wrapped (is_wrapped e) (within e))
within (binary operator a b) = binary operator (wrapped (is_wrapped a) (within a)) (wrapped (is_wrapped b) (within b))
within (choice c a b) =
    choice (wrapped (is_wrapped c) (within c)) (wrapped (is_wrapped a) (within a)) (wrapped (is_wrapped b) (within b))
within (parenthesized e) = parenthesized (within e)
within no_arguments = no_arguments
within (argument before last) = argument (within before) (wrapped (is_wrapped last) (within last))
within (listed items) = listed (within items)

-- the expression with its parentheses
abbrev pub full : Exp16 → Exp16
full e = wrapped (is_wrapped e) (within e)

-- the expression with its parentheses, in front of a `.`, a `[` or a `(`
abbrev pub full_base : Exp16 → Exp16
full_base e = wrapped (is_wrapped_base e) (within e)
