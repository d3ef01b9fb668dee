-- Which tokens are of a class, and what is kept of one that is taken.
use Rattle.std.specs.Prelude.{ℕ, Bool, true, false, not, ◌&&◌, nat_eq, nat_le, List, [], ◌∷◌, Option, Some, None, codes}
use Rattle.std.specs.List.{list_any}
use Rattle.std.specs.Str.{bytes_eq}
use Rattle.predictive_parser.specs.Operators as operators
use Rattle.predictive_parser.specs.Values.{newest}
use Rattle.p416_syntax.specs.declared.keyword.Keyword16.{Keyword16}
use Rattle.p416_syntax.specs.declared.keyword.Keyword16.TheVariants as key
use Rattle.p416_syntax.specs.declared.lexeme.Annotation16.{Annotation16}
use Rattle.p416_syntax.specs.declared.lexeme.Annotation16.TheVariants as note_of
use Rattle.p416_syntax.specs.declared.lexeme.Include16.{Include16}
use Rattle.p416_syntax.specs.declared.lexeme.Include16.TheVariants as include
use Rattle.p416_syntax.specs.declared.lexeme.Literal16.{Literal16}
use Rattle.p416_syntax.specs.declared.mark.Mark16.{Mark16}
use Rattle.p416_syntax.specs.declared.mark.Mark16.TheVariants as mark_of
use Rattle.p416_syntax.specs.Keywords.{keyword_text16, is_reserved16}
use Rattle.p416_syntax.specs.declared.node.BinaryOperator.{BinaryOperator}
use Rattle.p416_syntax.specs.declared.node.BinaryOperator.TheVariants as binary
use Rattle.p416_syntax.specs.Operators.{binary_power}
use Rattle.p416_syntax.specs.Tokens.{Seen16, id, quoted, number, mark, string, annotation, include_line, joined, opens}
use Rattle.p416_syntax.specs.Tree.{Exp16, name, index, no_arguments}
use Rattle.p416_syntax.specs.Conditions.{is_name_note, is_call, is_among, property_texts}
use Rattle.p416_reader.specs.declared.symbols.Known.{Known}
use Rattle.p416_reader.specs.declared.symbols.Known.TheVariants as known
use Rattle.p416_reader.specs.declared.symbols.Class.{Class}
use Rattle.p416_reader.specs.declared.symbols.Class.TheVariants as class
use Rattle.p416_reader.specs.declared.built.Built.{Built}

-- marks, words, annotations and include lines are told apart by numbers

abbrev pub mark_number : Mark16 → ℕ
mark_number mark_of.BraceOpen = 0
mark_number mark_of.BraceClose = 1
mark_number mark_of.ParenOpen = 2
mark_number mark_of.ParenClose = 3
mark_number mark_of.BracketOpen = 4
mark_number mark_of.BracketClose = 5
mark_number mark_of.Semicolon = 6
mark_number mark_of.Colon = 7
mark_number mark_of.Comma = 8
mark_number mark_of.Dot = 9
mark_number mark_of.DotDot = 10
mark_number mark_of.Assign = 11
mark_number mark_of.Less = 12
mark_number mark_of.Greater = 13
mark_number mark_of.LessEqual = 14
mark_number mark_of.GreaterEqual = 15
mark_number mark_of.Equal = 16
mark_number mark_of.NotEqual = 17
mark_number mark_of.ShiftLeft = 18
mark_number mark_of.Plus = 19
mark_number mark_of.PlusPlus = 20
mark_number mark_of.Minus = 21
mark_number mark_of.SaturatingPlus = 22
mark_number mark_of.SaturatingMinus = 23
mark_number mark_of.Star = 24
mark_number mark_of.Ampersand = 25
mark_number mark_of.AndAnd = 26
mark_number mark_of.Mask = 27
mark_number mark_of.Bar = 28
mark_number mark_of.OrOr = 29
mark_number mark_of.Caret = 30
mark_number mark_of.Tilde = 31
mark_number mark_of.Bang = 32
mark_number mark_of.Question = 33

abbrev pub word_number : Keyword16 → ℕ
word_number key.V1Switch = 0
word_number key.Main = 1
word_number key.Header = 2
word_number key.Bit = 3
word_number key.Struct = 4
word_number key.Parser = 5
word_number key.Control = 6
word_number key.Apply = 7
word_number key.Bool = 8
word_number key.In = 9
word_number key.Out = 10
word_number key.InOut = 11
word_number key.Counter = 12
word_number key.DirectCounter = 13
word_number key.Register = 14
word_number key.Meter = 15
word_number key.Action = 16
word_number key.Table = 17
word_number key.Key = 18
word_number key.Actions = 19
word_number key.NoAction = 20
word_number key.Size = 21
word_number key.Counters = 22
word_number key.DefaultAction = 23
word_number key.State = 24
word_number key.Transition = 25
word_number key.Select = 26
word_number key.Accept = 27
word_number key.Reject = 28
word_number key.Default = 29
word_number key.Underscore = 30
word_number key.If = 31
word_number key.Else = 32
word_number key.Switch = 33
word_number key.ActionRun = 34
word_number key.True = 35
word_number key.False = 36
word_number key.Error = 37

abbrev pub note_number : Annotation16 → ℕ
note_number note_of.Name = 0
note_number note_of.FieldList = 1

abbrev pub include_number : Include16 → ℕ
include_number include.Core = 0
include_number include.V1Model = 1

abbrev pub known_text : Known → List ℕ
known_text known.HashAlgorithm = codes "HashAlgorithm"
known_text known.CounterType = codes "CounterType"
known_text known.MeterType = codes "MeterType"
known_text known.CloneType = codes "CloneType"
known_text known.Csum16 = codes "csum16"
known_text known.Crc16 = codes "crc16"
known_text known.Crc32 = codes "crc32"
known_text known.Identity = codes "identity"
known_text known.Packets = codes "packets"
known_text known.Bytes = codes "bytes"
known_text known.PacketsAndBytes = codes "packets_and_bytes"
known_text known.I2E = codes "I2E"
known_text known.E2E = codes "E2E"
known_text known.Lookahead = codes "lookahead"

-- a token is this mark, this reserved word, this annotation, this include line, a name that passes a test, a number, a
-- string, or any word
abbrev pub is_mark : Mark16 → Seen16 → Bool
is_mark other (id text) = false
is_mark other (quoted k) = false
is_mark other (number n) = false
is_mark other (mark m) = nat_eq (mark_number other) (mark_number m)
is_mark other (string text) = false
is_mark other (annotation a) = false
is_mark other (include_line i) = false
is_mark other joined = false
is_mark other opens = false

abbrev pub is_quoted : Keyword16 → Seen16 → Bool
is_quoted word (id text) = false
is_quoted word (quoted k) = nat_eq (word_number word) (word_number k)
is_quoted word (number n) = false
is_quoted word (mark m) = false
is_quoted word (string text) = false
is_quoted word (annotation a) = false
is_quoted word (include_line i) = false
is_quoted word joined = false
is_quoted word opens = false

abbrev pub is_note : Annotation16 → Seen16 → Bool
is_note other (id text) = false
is_note other (quoted k) = false
is_note other (number n) = false
is_note other (mark m) = false
is_note other (string text) = false
is_note other (annotation a) = nat_eq (note_number other) (note_number a)
is_note other (include_line i) = false
is_note other joined = false
is_note other opens = false

abbrev pub is_include : Include16 → Seen16 → Bool
is_include other (id text) = false
is_include other (quoted k) = false
is_include other (number n) = false
is_include other (mark m) = false
is_include other (string text) = false
is_include other (annotation a) = false
is_include other (include_line i) = nat_eq (include_number other) (include_number i)
is_include other joined = false
is_include other opens = false

abbrev pub is_id : (List ℕ → Bool) → Seen16 → Bool
is_id test (id text) = test text
is_id test (quoted k) = false
is_id test (number n) = false
is_id test (mark m) = false
is_id test (string text) = false
is_id test (annotation a) = false
is_id test (include_line i) = false
is_id test joined = false
is_id test opens = false

abbrev pub is_number : Seen16 → Bool
is_number (id text) = false
is_number (quoted k) = false
is_number (number n) = true
is_number (mark m) = false
is_number (string text) = false
is_number (annotation a) = false
is_number (include_line i) = false
is_number joined = false
is_number opens = false

abbrev pub is_string : Seen16 → Bool
is_string (id text) = false
is_string (quoted k) = false
is_string (number n) = false
is_string (mark m) = false
is_string (string text) = true
is_string (annotation a) = false
is_string (include_line i) = false
is_string joined = false
is_string opens = false

abbrev pub is_opens : Seen16 → Bool
is_opens (id text) = false
is_opens (quoted k) = false
is_opens (number n) = false
is_opens (mark m) = false
is_opens (string text) = false
is_opens (annotation a) = false
is_opens (include_line i) = false
is_opens joined = false
is_opens opens = true

-- a name that isn't reserved, or a reserved word
abbrev pub is_word : Seen16 → Bool
is_word (id text) = not (is_reserved16 text)
is_word (quoted k) = true
is_word (number n) = false
is_word (mark m) = false
is_word (string text) = false
is_word (annotation a) = false
is_word (include_line i) = false
is_word joined = false
is_word opens = false

abbrev pub infix_mark : Mark16 → Option BinaryOperator
infix_mark mark_of.Less = Some binary.Less
infix_mark mark_of.Greater = Some binary.Greater
infix_mark mark_of.LessEqual = Some binary.LessEqual
infix_mark mark_of.GreaterEqual = Some binary.GreaterEqual
infix_mark mark_of.Equal = Some binary.Equal
infix_mark mark_of.NotEqual = Some binary.NotEqual
infix_mark mark_of.ShiftLeft = Some binary.ShiftLeft
infix_mark mark_of.Plus = Some binary.Add
infix_mark mark_of.PlusPlus = Some binary.Concatenate
infix_mark mark_of.Minus = Some binary.Subtract
infix_mark mark_of.SaturatingPlus = Some binary.SaturatingAdd
infix_mark mark_of.SaturatingMinus = Some binary.SaturatingSubtract
infix_mark mark_of.Star = Some binary.Multiply
infix_mark mark_of.Ampersand = Some binary.BitAnd
infix_mark mark_of.AndAnd = Some binary.And
infix_mark mark_of.Bar = Some binary.BitOr
infix_mark mark_of.OrOr = Some binary.Or
infix_mark mark_of.Caret = Some binary.BitXor
infix_mark _ = None

-- the operator that a token is, or begins, if it is one between two operands
abbrev pub infix_of : Seen16 → Option BinaryOperator
infix_of (id text) = None
infix_of (quoted k) = None
infix_of (number n) = None
infix_of (mark m) = infix_mark m
infix_of (string text) = None
infix_of (annotation a) = None
infix_of (include_line i) = None
infix_of joined = Some binary.ShiftRight
infix_of opens = None

abbrev pub is_infix : ℕ → ℕ → Option BinaryOperator → Bool
is_infix least most None = false
is_infix least most (Some operator) = operators.may_follow least most (binary_power operator)

-- an expression that could be a type: a name, or a name with an index
abbrev pub is_plain_name : Exp16 → Bool
is_plain_name (name text) = true
is_plain_name _ = false

abbrev pub is_type_like : Exp16 → Bool
is_type_like (name text) = true
is_type_like (index e at) = is_plain_name e
is_type_like _ = false

abbrev pub last_exp : Built → Exp16
last_exp b = newest no_arguments b.bodies.exps

-- whether the token is of the class, where so much is built
abbrev pub accepts : Class → Seen16 → Built → Bool
accepts (class.Mark m) token built = is_mark m token
accepts (class.Word k) token built = is_quoted k token
accepts (class.Known k) token built = is_id (bytes_eq (known_text k)) token
accepts class.Name token built = is_id (λ text. true) token
accepts class.AnyWord token built = is_word token
accepts class.Number token built = is_number token
accepts class.String token built = is_string token
accepts (class.At a) token built = is_note a token
accepts class.NewNameNote token built = is_note note_of.Name token && not (list_any is_name_note (newest [] built.parts.notes))
accepts (class.Include i) token built = is_include i token
accepts class.Opens token built = is_opens token
accepts (class.NewProperty k) token built = is_quoted k token && not (is_among (keyword_text16 k) (property_texts (newest [] built.controls.properties)))
accepts class.CallEnd token built = is_mark mark_of.Semicolon token && is_call (last_exp built)
accepts class.VarName token built = is_id (λ text. true) token && is_type_like (last_exp built)
accepts class.Else token built = is_quoted key.Else token && not built.bodies.is_open
accepts (class.Infix least most) token built = is_infix least most (infix_of token)
accepts (class.Question least most) token built = is_mark mark_of.Question token && (nat_eq least 0 && nat_le 1 most)

-- what is kept

abbrev pub text_of : Seen16 → List ℕ
text_of (id text) = text
text_of (quoted k) = keyword_text16 k
text_of (number n) = []
text_of (mark m) = []
text_of (string text) = text
text_of (annotation a) = []
text_of (include_line i) = []
text_of joined = []
text_of opens = []

abbrev pub literal_of : Seen16 → Literal16
literal_of (id text) = record { width = None; value = 0 }
literal_of (quoted k) = record { width = None; value = 0 }
literal_of (number n) = n
literal_of (mark m) = record { width = None; value = 0 }
literal_of (string text) = record { width = None; value = 0 }
literal_of (annotation a) = record { width = None; value = 0 }
literal_of (include_line i) = record { width = None; value = 0 }
literal_of joined = record { width = None; value = 0 }
literal_of opens = record { width = None; value = 0 }

abbrev pub with_name : List ℕ → Built → Built
with_name text built = record built { parts = record built.parts { names = text ∷ built.parts.names } }

abbrev pub with_literal : Literal16 → Built → Built
with_literal n built = record built { parts = record built.parts { literals = n ∷ built.parts.literals } }

-- what is built once a token of the class is taken
abbrev pub shift : Class → Seen16 → Built → Built
shift (class.Mark m) token built = built
shift (class.Word k) token built = built
shift (class.Known k) token built = built
shift class.Name token built = with_name (text_of token) built
shift class.AnyWord token built = with_name (text_of token) built
shift class.Number token built = with_literal (literal_of token) built
shift class.String token built = with_name (text_of token) built
shift (class.At a) token built = built
shift class.NewNameNote token built = built
shift (class.Include i) token built = built
shift class.Opens token built = built
shift (class.NewProperty k) token built = built
shift class.CallEnd token built = built
shift class.VarName token built = with_name (text_of token) built
shift class.Else token built = built
shift (class.Infix least most) token built = built
shift (class.Question least most) token built = built
