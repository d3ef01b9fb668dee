-- Which tokens are of a class, and what is kept of one that is taken.
use Rattle.std.specs.Prelude.{ℕ, Bool, true, false, not, ◌&&◌, nat_eq, nat_le, if◌then◌else◌, List, [], ◌∷◌, ◌++◌, map, Option, Some, None}
use Rattle.std.specs.Str.{bytes_eq}
use Rattle.p414_syntax.specs.declared.lexeme.Literal.{Literal}
use Rattle.p414_syntax.specs.declared.lexeme.Lexeme.{Lexeme}
use Rattle.p414_syntax.specs.declared.lexeme.Lexeme.TheVariants as lexeme
use Rattle.p414_syntax.specs.declared.mark.Mark.{Mark}
use Rattle.p414_syntax.specs.declared.mark.Mark.TheVariants as mark
use Rattle.p414_syntax.specs.declared.node.UnaryOperator.{UnaryOperator}
use Rattle.p414_syntax.specs.declared.node.UnaryOperator.TheVariants as unary
use Rattle.p414_syntax.specs.declared.node.BinaryOperator.{BinaryOperator}
use Rattle.p414_syntax.specs.declared.node.BinaryOperator.TheVariants as binary
use Rattle.p414_syntax.specs.Operators.{unary_power, binary_power}
use Rattle.predictive_parser.specs.Operators as operators
use Rattle.p414_syntax.specs.Written.{tail_word, table_word, state_word}
use Rattle.p414_syntax.specs.Conditions.{is_among, is_expression_name, is_mixed, Brace, opens, closes, neither, brace_of}
use Rattle.p414_reader.specs.declared.symbols.Class.{Class}
use Rattle.p414_reader.specs.declared.symbols.Class.TheVariants as class
use Rattle.predictive_parser.specs.Values.{newest, extended, extended_option}
use Rattle.p414_syntax.specs.declared.keyword.Keyword.TheVariants as key
use Rattle.p414_syntax.specs.Keywords.{keyword_text}
use Rattle.p414_reader.specs.declared.built.Built.{Built}

abbrev pub mark_number : Mark → ℕ
mark_number mark.BraceOpen = 0
mark_number mark.BraceClose = 1
mark_number mark.ParenOpen = 2
mark_number mark.ParenClose = 3
mark_number mark.BracketOpen = 4
mark_number mark.BracketClose = 5
mark_number mark.Semicolon = 6
mark_number mark.Colon = 7
mark_number mark.Comma = 8
mark_number mark.Dot = 9
mark_number mark.Assign = 10
mark_number mark.Less = 11
mark_number mark.Greater = 12
mark_number mark.LessEqual = 13
mark_number mark.GreaterEqual = 14
mark_number mark.Equal = 15
mark_number mark.NotEqual = 16
mark_number mark.ShiftLeft = 17
mark_number mark.ShiftRight = 18
mark_number mark.Plus = 19
mark_number mark.Minus = 20
mark_number mark.Star = 21
mark_number mark.Ampersand = 22
mark_number mark.Bar = 23
mark_number mark.Caret = 24
mark_number mark.Tilde = 25

abbrev pub is_mark : Mark → Lexeme → Bool
is_mark m (lexeme.Name text) = false
is_mark m (lexeme.Number n) = false
is_mark m (lexeme.Mark other) = nat_eq (mark_number m) (mark_number other)

-- a name whose text passes the test
abbrev pub is_named : (List ℕ → Bool) → Lexeme → Bool
is_named test (lexeme.Name text) = test text
is_named test (lexeme.Number n) = false
is_named test (lexeme.Mark m) = false

abbrev pub is_number : Lexeme → Bool
is_number (lexeme.Name text) = false
is_number (lexeme.Number n) = true
is_number (lexeme.Mark m) = false

-- an attribute's word that stands not among these
abbrev pub is_new : List ℕ → List (List ℕ) → Lexeme → Bool
is_new word words token = is_named (bytes_eq word) token && not (is_among word words)

-- the label stands not among these, and `hit` and `miss` stand with no other
abbrev pub may_follow : List (List ℕ) → List ℕ → Bool
may_follow labels text = not (is_among text labels) && not (is_mixed (labels ++ text ∷ []))

-- the operator that a token is, if it is one before an operand
abbrev pub prefix_of : Lexeme → Option UnaryOperator
prefix_of (lexeme.Name text) = if bytes_eq (keyword_text key.Not) text then Some unary.Not else None
prefix_of (lexeme.Number n) = None
prefix_of (lexeme.Mark mark.Minus) = Some unary.Negate
prefix_of (lexeme.Mark mark.Tilde) = Some unary.Complement
prefix_of (lexeme.Mark _) = None

abbrev pub infix_mark : Mark → Option BinaryOperator
infix_mark mark.Star = Some binary.Multiply
infix_mark mark.Plus = Some binary.Add
infix_mark mark.Minus = Some binary.Subtract
infix_mark mark.ShiftLeft = Some binary.ShiftLeft
infix_mark mark.ShiftRight = Some binary.ShiftRight
infix_mark mark.Ampersand = Some binary.BitAnd
infix_mark mark.Caret = Some binary.BitXor
infix_mark mark.Bar = Some binary.BitOr
infix_mark mark.Less = Some binary.Less
infix_mark mark.LessEqual = Some binary.LessEqual
infix_mark mark.Greater = Some binary.Greater
infix_mark mark.GreaterEqual = Some binary.GreaterEqual
infix_mark mark.Equal = Some binary.Equal
infix_mark mark.NotEqual = Some binary.NotEqual
infix_mark _ = None

-- the operator that a token is, if it is one between two operands
abbrev pub infix_of : Lexeme → Option BinaryOperator
infix_of (lexeme.Name text) =
    if bytes_eq (keyword_text key.And) text then Some binary.And
    else (if bytes_eq (keyword_text key.Or) text then Some binary.Or else None)
infix_of (lexeme.Number n) = None
infix_of (lexeme.Mark m) = infix_mark m

abbrev pub is_prefix : ℕ → Option UnaryOperator → Bool
is_prefix least None = false
is_prefix least (Some operator) = nat_le least (unary_power operator)

abbrev pub is_infix : ℕ → ℕ → Option BinaryOperator → Bool
is_infix least most None = false
is_infix least most (Some operator) = operators.may_follow least most (binary_power operator)

abbrev pub is_neither : Brace → Bool
is_neither opens = false
is_neither closes = false
is_neither neither = true

-- whether the token is of the class, where so much is built
abbrev pub accepts : Class → Lexeme → Built → Bool
accepts (class.Mark m) token built = is_mark m token
accepts (class.Word k) token built = is_named (bytes_eq (keyword_text k)) token
accepts class.Name token built = is_named (λ text. true) token
accepts class.Number token built = is_number token
accepts class.ExpressionName token built = is_named is_expression_name token
accepts (class.NewTail k) token built = is_new (keyword_text k) (map tail_word (newest [] built.bodies.tails)) token
accepts (class.NewTableAttr k) token built = is_new (keyword_text k) (map table_word (newest [] built.tables.attributes)) token
accepts (class.NewStateAttr k) token built = is_new (keyword_text k) (map state_word (newest [] built.objects)) token
accepts class.NewLabel token built = is_named (may_follow (newest [] built.bodies.labels)) token
accepts (class.Infix least most) token built = is_infix least most (infix_of token)
accepts (class.Prefix least) token built = is_prefix least (prefix_of token)
accepts class.GroupToken token built = is_neither (brace_of token)
accepts class.GroupOpen token built = is_mark mark.BraceOpen token
accepts class.GroupClose token built = is_mark mark.BraceClose token

-- what is kept

abbrev pub text_of : Lexeme → List ℕ
text_of (lexeme.Name text) = text
text_of (lexeme.Number n) = []
text_of (lexeme.Mark m) = []

abbrev pub literal_of : Lexeme → Literal
literal_of (lexeme.Name text) = record { width = None; value = 0 }
literal_of (lexeme.Number n) = n
literal_of (lexeme.Mark m) = record { width = None; value = 0 }

abbrev pub with_name : List ℕ → Built → Built
with_name text built = record built { parts = record built.parts { names = text ∷ built.parts.names } }

abbrev pub with_literal : Literal → Built → Built
with_literal n built = record built { parts = record built.parts { literals = n ∷ built.parts.literals } }

abbrev pub with_label : List ℕ → Built → Built
with_label text built =
    record (with_name text built) { bodies = record built.bodies { labels = extended (text ∷ []) built.bodies.labels } }

-- what is built once a token of the class is taken
abbrev pub shift : Class → Lexeme → Built → Built
shift (class.Mark m) token built = built
shift (class.Word k) token built = built
shift class.Name token built = with_name (text_of token) built
shift class.Number token built = with_literal (literal_of token) built
shift class.ExpressionName token built = with_name (text_of token) built
shift (class.NewTail k) token built = built
shift (class.NewTableAttr k) token built = built
shift (class.NewStateAttr k) token built = built
shift class.NewLabel token built = with_label (text_of token) built
shift (class.Infix least most) token built = built
shift (class.Prefix least) token built = built
shift class.GroupToken token built = record built { groups = extended_option token built.groups }
shift class.GroupOpen token built = record built { groups = extended_option token built.groups }
shift class.GroupClose token built = record built { groups = extended_option token built.groups }
