-- How each word of the grammar can be closed, and what it may still take at its end: so what is read before a refusal can
-- be completed.
use Rattle.std.proofs.Common.{◌≡◌, ℕ, Bool, true, false, ◌&&◌, ◌||◌, List, [], ◌∷◌, ◌++◌, codes, get_or, Option, Some, None, refl}
use Rattle.std.specs.Str.{bytes_eq}
use Rattle.predictive_parser.specs.declared.symbol.Symbol.TheVariants.{Put}
use Rattle.predictive_parser.proofs.Closings.{Closing, IsClosed, row_fits}
use Rattle.p414_syntax.specs.declared.lexeme.Lexeme.{Lexeme}
use Rattle.p414_syntax.specs.declared.lexeme.Lexeme.TheVariants as lexeme
use Rattle.p414_syntax.specs.declared.mark.Mark.{Mark}
use Rattle.p414_syntax.specs.declared.mark.Mark.TheVariants as mark
use Rattle.p414_syntax.specs.declared.node.UnaryOperator.{UnaryOperator}
use Rattle.p414_syntax.specs.declared.node.BinaryOperator.{BinaryOperator}
use Rattle.p414_syntax.specs.Words.{name, keyword, brace_open, brace_close, paren_open, paren_close, semicolon, colon, dot, equal}
use Rattle.p414_syntax.specs.Conditions.{is_expression_name, brace_of}
use Rattle.p414_syntax.specs.declared.keyword.Keyword.{Keyword}
use Rattle.p414_syntax.specs.declared.keyword.Keyword.TheVariants as key
use Rattle.p414_reader.specs.declared.symbols.Class.{Class}
use Rattle.p414_reader.specs.declared.symbols.Class.TheVariants as class
use Rattle.p414_reader.specs.declared.symbols.Action.TheVariants as action
use Rattle.p414_reader.specs.declared.symbols.BodyAction.TheVariants as body_action
use Rattle.p414_reader.specs.declared.symbols.Word.{Word}
use Rattle.p414_reader.specs.declared.symbols.Word.TheVariants as word
use Rattle.p414_reader.specs.declared.symbols.PartWord.{PartWord}
use Rattle.p414_reader.specs.declared.symbols.PartWord.TheVariants as part
use Rattle.p414_reader.specs.declared.symbols.HeaderWord.{HeaderWord}
use Rattle.p414_reader.specs.declared.symbols.HeaderWord.TheVariants as header
use Rattle.p414_reader.specs.declared.symbols.CalculationWord.{CalculationWord}
use Rattle.p414_reader.specs.declared.symbols.CalculationWord.TheVariants as calculation
use Rattle.p414_reader.specs.declared.symbols.StateWord.{StateWord}
use Rattle.p414_reader.specs.declared.symbols.StateWord.TheVariants as state
use Rattle.p414_reader.specs.declared.symbols.CallWord.{CallWord}
use Rattle.p414_reader.specs.declared.symbols.CallWord.TheVariants as called
use Rattle.p414_reader.specs.declared.symbols.TableWord.{TableWord}
use Rattle.p414_reader.specs.declared.symbols.TableWord.TheVariants as table
use Rattle.p414_reader.specs.declared.symbols.ObjectWord.{ObjectWord}
use Rattle.p414_reader.specs.declared.symbols.ObjectWord.TheVariants as object
use Rattle.p414_reader.specs.declared.symbols.BodyWord.{BodyWord}
use Rattle.p414_reader.specs.declared.symbols.BodyWord.TheVariants as body
use Rattle.p414_reader.specs.declared.built.Built.{Built}
use Rattle.p414_reader.specs.internal.Classes.{is_mark, is_named, is_number, prefix_of, infix_of, is_prefix, is_infix, is_neither, accepts}
use Rattle.p414_reader.specs.internal.Rows as rows
use Rattle.p414_reader.specs.internal.Rows.{Sym, grammar14, prefix_rest, infix_rest, body_sym, block_sym}
use Rattle.p414_syntax.specs.Keywords.{keyword_text}

-- a word of an attribute is taken or not by what is built; another token is not
abbrev pub unless : Bool → Option Bool
unless true = None
unless false = Some false

abbrev pub foresees : Class → Lexeme → Option Bool
foresees (class.Mark m) token = Some (is_mark m token)
foresees (class.Word k) token = Some (is_named (bytes_eq (keyword_text k)) token)
foresees class.Name token = Some (is_named (λ text. true) token)
foresees class.Number token = Some (is_number token)
foresees class.ExpressionName token = Some (is_named is_expression_name token)
foresees (class.NewTail k) token = unless (is_named (bytes_eq (keyword_text k)) token)
foresees (class.NewTableAttr k) token = unless (is_named (bytes_eq (keyword_text k)) token)
foresees (class.NewStateAttr k) token = unless (is_named (bytes_eq (keyword_text k)) token)
foresees class.NewLabel token = unless (is_named (λ text. true) token)
foresees (class.Infix least most) token = Some (is_infix least most (infix_of token))
foresees (class.Prefix least) token = Some (is_prefix least (prefix_of token))
foresees class.GroupToken token = Some (is_neither (brace_of token))
foresees class.GroupOpen token = Some (is_mark mark.BraceOpen token)
foresees class.GroupClose token = Some (is_mark mark.BraceClose token)

some_same : (a b : Bool) → Some a ≡ Some b → a ≡ b
some_same a b e = cc

unless_new : (a c answer : Bool) → unless a ≡ Some answer → (a && c) ≡ answer
unless_new true c answer e = cc
unless_new false c answer e = some_same false answer e

no_name : (test : List ℕ → Bool) (token : Lexeme) (answer : Bool) → unless (is_named (λ text. true) token) ≡ Some answer → is_named test token ≡ answer
no_name test (lexeme.Name text) answer e = cc
no_name test (lexeme.Number n) answer e = some_same false answer e
no_name test (lexeme.Mark m) answer e = some_same false answer e

pub foreseen : (c : Class) (token : Lexeme) (answer : Bool) (built : Built) → foresees c token ≡ Some answer → accepts c token built ≡ answer
foreseen (class.Mark m) token answer built e = some_same _ answer e
foreseen (class.Word k) token answer built e = some_same _ answer e
foreseen class.Name token answer built e = some_same _ answer e
foreseen class.Number token answer built e = some_same _ answer e
foreseen class.ExpressionName token answer built e = some_same _ answer e
foreseen (class.NewTail k) token answer built e = unless_new _ _ answer e
foreseen (class.NewTableAttr k) token answer built e = unless_new _ _ answer e
foreseen (class.NewStateAttr k) token answer built e = unless_new _ _ answer e
foreseen class.NewLabel token answer built e = no_name _ token answer e
foreseen (class.Infix least most) token answer built e = some_same _ answer e
foreseen (class.Prefix least) token answer built e = some_same _ answer e
foreseen class.GroupToken token answer built e = some_same _ answer e
foreseen class.GroupOpen token answer built e = some_same _ answer e
foreseen class.GroupClose token answer built e = some_same _ answer e

abbrev pub some_name : Lexeme
some_name = name (codes "a")

abbrev pub some_number : Lexeme
some_number = lexeme.Number (record { width = None; value = 0 })

abbrev pub sample : Class → Lexeme
sample (class.Mark m) = lexeme.Mark m
sample (class.Word k) = name (keyword_text k)
sample class.Name = some_name
sample class.Number = some_number
sample class.ExpressionName = some_name
sample (class.NewTail k) = name (keyword_text k)
sample (class.NewTableAttr k) = name (keyword_text k)
sample (class.NewStateAttr k) = name (keyword_text k)
sample class.NewLabel = some_name
sample (class.Infix least most) = lexeme.Mark mark.Star
sample (class.Prefix least) = lexeme.Mark mark.Minus
sample class.GroupToken = some_name
sample class.GroupOpen = lexeme.Mark mark.BraceOpen
sample class.GroupClose = lexeme.Mark mark.BraceClose

-- a word that has no rows of its own place only lends them
abbrev pub stands : Word → Bool
stands (word.Table table.Attr) = false
stands (word.Object object.Attr) = false
stands _ = true

abbrev pub part_closing : PartWord → List Lexeme
part_closing part.IndexIn = some_number ∷ []
part_closing part.Inst = some_name ∷ []
part_closing part.Ref = some_name ∷ dot ∷ some_name ∷ []
part_closing part.Number = some_number ∷ []
part_closing _ = []

abbrev pub header_closing : HeaderWord → List Lexeme
header_closing header.Width = some_number ∷ []
header_closing header.MetadataEnd = semicolon ∷ []
header_closing _ = []

abbrev pub calculation_closing : CalculationWord → List Lexeme
calculation_closing calculation.Calc = keyword key.Update ∷ some_name ∷ semicolon ∷ []
calculation_closing calculation.CalcCond = some_name ∷ dot ∷ some_name ∷ equal ∷ some_number ∷ []
calculation_closing calculation.AfterValid = dot ∷ some_name ∷ equal ∷ some_number ∷ []
calculation_closing _ = []

abbrev pub state_closing : StateWord → List Lexeme
state_closing state.Value = some_number ∷ []
state_closing state.SelectValue = some_name ∷ dot ∷ some_name ∷ []
state_closing state.AfterCurrent = dot ∷ some_name ∷ []
state_closing state.AfterLatest = dot ∷ some_name ∷ []
state_closing state.Return = keyword key.ParseError ∷ some_name ∷ semicolon ∷ []
state_closing state.AfterReturn = some_name ∷ semicolon ∷ []
state_closing state.AfterSelect = semicolon ∷ []
state_closing state.Case = keyword key.Default ∷ colon ∷ some_name ∷ semicolon ∷ []
state_closing state.Target = some_name ∷ []
state_closing _ = []

abbrev pub call_closing : CallWord → List Lexeme
call_closing called.Arg = some_number ∷ []
call_closing _ = []

abbrev pub table_closing : TableWord → List Lexeme
table_closing table.Attrs = keyword key.Actions ∷ brace_open ∷ some_name ∷ semicolon ∷ brace_close ∷ []
table_closing table.Timeout = keyword key.True ∷ semicolon ∷ []
table_closing _ = []

abbrev pub object_closing : ObjectWord → List Lexeme
object_closing object.CounterAttrs = keyword key.Counts ∷ colon ∷ keyword key.Packets ∷ semicolon ∷ []
object_closing object.RegisterAttrs = keyword key.Width ∷ colon ∷ some_number ∷ semicolon ∷ []
object_closing object.CounterType = keyword key.Packets ∷ semicolon ∷ []
object_closing _ = []

abbrev pub body_closing : BodyWord → List Lexeme
body_closing (body.Expr least) = some_number ∷ []
body_closing body.ExprInst = some_name ∷ []
body_closing body.AfterApply = paren_close ∷ semicolon ∷ []
body_closing body.ApplyEnd = semicolon ∷ []
body_closing body.AfterIf = paren_close ∷ semicolon ∷ []
body_closing body.AfterElse = paren_open ∷ paren_close ∷ semicolon ∷ []
body_closing _ = []

abbrev pub closing_of : Word → List Lexeme
closing_of (word.Part w) = part_closing w
closing_of (word.Header w) = header_closing w
closing_of (word.Calculation w) = calculation_closing w
closing_of (word.State w) = state_closing w
closing_of (word.Call w) = call_closing w
closing_of (word.Table w) = table_closing w
closing_of (word.Object w) = object_closing w
closing_of (word.Body w) = body_closing w
closing_of word.LeftOutEnd = semicolon ∷ []
closing_of word.Group = []
closing_of word.Decls = []

-- sets of tokens that optional words begin with

abbrev pub is_some : {A : Type 0} → Option A → Bool
is_some None = false
is_some (Some x) = true

-- `extract` or `set_metadata`
abbrev pub is_statement_word : List ℕ → Bool
is_statement_word text = bytes_eq (codes "extract") text || bytes_eq (codes "set_metadata") text

abbrev pub kinds : List (Lexeme → Bool)
kinds =
    is_named (λ text. true) ∷ is_named is_statement_word ∷ is_number ∷ is_mark mark.Comma ∷ is_mark mark.BracketOpen ∷ is_mark mark.Dot
    ∷ is_mark mark.ParenOpen ∷ is_mark mark.Semicolon ∷ is_mark mark.Plus ∷ is_mark mark.Minus ∷ is_mark mark.BraceOpen
    ∷ (λ token. is_some (infix_of token)) ∷ (λ token. is_neither (brace_of token)) ∷ []

-- one past the last set: every token
abbrev pub any_kind : ℕ
any_kind = 13

abbrev pub mark_kind : Mark → ℕ
mark_kind mark.Comma = 3
mark_kind mark.BracketOpen = 4
mark_kind mark.Dot = 5
mark_kind mark.ParenOpen = 6
mark_kind mark.Semicolon = 7
mark_kind mark.Plus = 8
mark_kind mark.Minus = 9
mark_kind mark.BraceOpen = 10
mark_kind _ = any_kind

abbrev pub word_kind : Keyword → ℕ
word_kind key.Extract = 1
word_kind key.SetMetadata = 1
word_kind _ = 0

abbrev pub kind : Class → ℕ
kind (class.Mark m) = mark_kind m
kind (class.Word k) = word_kind k
kind class.Name = 0
kind class.Number = 2
kind class.ExpressionName = 0
kind (class.NewTail k) = 0
kind (class.NewTableAttr k) = 0
kind (class.NewStateAttr k) = 0
kind class.NewLabel = 0
kind (class.Infix least most) = 11
kind (class.Prefix least) = any_kind
kind class.GroupToken = 12
kind class.GroupOpen = 10
kind class.GroupClose = any_kind

abbrev pub IsOf : ℕ → Lexeme → Type 0
IsOf k token = get_or kinds k (λ t. true) token ≡ true

mark_of_kind : (m : Mark) (token : Lexeme) → is_mark m token ≡ true → IsOf (mark_kind m) token
mark_of_kind mark.BraceOpen token h = h
mark_of_kind mark.BraceClose token h = refl
mark_of_kind mark.ParenOpen token h = h
mark_of_kind mark.ParenClose token h = refl
mark_of_kind mark.BracketOpen token h = h
mark_of_kind mark.BracketClose token h = refl
mark_of_kind mark.Semicolon token h = h
mark_of_kind mark.Colon token h = refl
mark_of_kind mark.Comma token h = h
mark_of_kind mark.Dot token h = h
mark_of_kind mark.Assign token h = refl
mark_of_kind mark.Less token h = refl
mark_of_kind mark.Greater token h = refl
mark_of_kind mark.LessEqual token h = refl
mark_of_kind mark.GreaterEqual token h = refl
mark_of_kind mark.Equal token h = refl
mark_of_kind mark.NotEqual token h = refl
mark_of_kind mark.ShiftLeft token h = refl
mark_of_kind mark.ShiftRight token h = refl
mark_of_kind mark.Plus token h = h
mark_of_kind mark.Minus token h = h
mark_of_kind mark.Star token h = refl
mark_of_kind mark.Ampersand token h = refl
mark_of_kind mark.Bar token h = refl
mark_of_kind mark.Caret token h = refl
mark_of_kind mark.Tilde token h = refl

named_is_name : (test : List ℕ → Bool) (token : Lexeme) → is_named test token ≡ true → is_named (λ text. true) token ≡ true
named_is_name test (lexeme.Name text) h = refl
named_is_name test (lexeme.Number n) h = h
named_is_name test (lexeme.Mark m) h = h

left : (a b : Bool) → (a && b) ≡ true → a ≡ true
left true b h = refl
left false b h = h

or_first : (a b : Bool) → a ≡ true → (a || b) ≡ true
or_first true b h = refl
or_first false b h = cc

or_second : (a b : Bool) → b ≡ true → (a || b) ≡ true
or_second true b h = refl
or_second false b h = h

statement_word : (token : Lexeme) → is_named (bytes_eq (codes "extract")) token ≡ true → is_named is_statement_word token ≡ true
statement_word (lexeme.Name text) h = or_first _ _ h
statement_word (lexeme.Number n) h = h
statement_word (lexeme.Mark m) h = h

other_word : (token : Lexeme) → is_named (bytes_eq (codes "set_metadata")) token ≡ true → is_named is_statement_word token ≡ true
other_word (lexeme.Name text) h = or_second (bytes_eq (codes "extract") text) _ h
other_word (lexeme.Number n) h = h
other_word (lexeme.Mark m) h = h

infix_some : (least most : ℕ) (o : Option BinaryOperator) → is_infix least most o ≡ true → is_some o ≡ true
infix_some least most None h = h
infix_some least most (Some operator) h = refl

word_of_kind : (k : Keyword) (token : Lexeme) → is_named (bytes_eq (keyword_text k)) token ≡ true → IsOf (word_kind k) token
word_of_kind key.HeaderType token h = named_is_name _ token h
word_of_kind key.Fields token h = named_is_name _ token h
word_of_kind key.Length token h = named_is_name _ token h
word_of_kind key.MaxLength token h = named_is_name _ token h
word_of_kind key.Header token h = named_is_name _ token h
word_of_kind key.Metadata token h = named_is_name _ token h
word_of_kind key.FieldList token h = named_is_name _ token h
word_of_kind key.FieldListCalculation token h = named_is_name _ token h
word_of_kind key.Input token h = named_is_name _ token h
word_of_kind key.Algorithm token h = named_is_name _ token h
word_of_kind key.OutputWidth token h = named_is_name _ token h
word_of_kind key.CalculatedField token h = named_is_name _ token h
word_of_kind key.Update token h = named_is_name _ token h
word_of_kind key.Verify token h = named_is_name _ token h
word_of_kind key.If token h = named_is_name _ token h
word_of_kind key.Valid token h = named_is_name _ token h
word_of_kind key.Parser token h = named_is_name _ token h
word_of_kind key.Extract token h = statement_word token h
word_of_kind key.SetMetadata token h = other_word token h
word_of_kind key.Current token h = named_is_name _ token h
word_of_kind key.Latest token h = named_is_name _ token h
word_of_kind key.Return token h = named_is_name _ token h
word_of_kind key.Select token h = named_is_name _ token h
word_of_kind key.Default token h = named_is_name _ token h
word_of_kind key.ParseError token h = named_is_name _ token h
word_of_kind key.Mask token h = named_is_name _ token h
word_of_kind key.Action token h = named_is_name _ token h
word_of_kind key.Table token h = named_is_name _ token h
word_of_kind key.Reads token h = named_is_name _ token h
word_of_kind key.Actions token h = named_is_name _ token h
word_of_kind key.MinSize token h = named_is_name _ token h
word_of_kind key.MaxSize token h = named_is_name _ token h
word_of_kind key.Size token h = named_is_name _ token h
word_of_kind key.SupportTimeout token h = named_is_name _ token h
word_of_kind key.True token h = named_is_name _ token h
word_of_kind key.False token h = named_is_name _ token h
word_of_kind key.And token h = named_is_name _ token h
word_of_kind key.Or token h = named_is_name _ token h
word_of_kind key.Not token h = named_is_name _ token h
word_of_kind key.DefaultAction token h = named_is_name _ token h
word_of_kind key.ActionProfile token h = named_is_name _ token h
word_of_kind key.Counter token h = named_is_name _ token h
word_of_kind key.Meter token h = named_is_name _ token h
word_of_kind key.Register token h = named_is_name _ token h
word_of_kind key.Counts token h = named_is_name _ token h
word_of_kind key.Packets token h = named_is_name _ token h
word_of_kind key.Bytes token h = named_is_name _ token h
word_of_kind key.PacketsAndBytes token h = named_is_name _ token h
word_of_kind key.Direct token h = named_is_name _ token h
word_of_kind key.Static token h = named_is_name _ token h
word_of_kind key.Layout token h = named_is_name _ token h
word_of_kind key.Result token h = named_is_name _ token h
word_of_kind key.InstanceCount token h = named_is_name _ token h
word_of_kind key.Width token h = named_is_name _ token h
word_of_kind key.MinWidth token h = named_is_name _ token h
word_of_kind key.Saturating token h = named_is_name _ token h
word_of_kind key.Signed token h = named_is_name _ token h
word_of_kind key.Control token h = named_is_name _ token h
word_of_kind key.Apply token h = named_is_name _ token h
word_of_kind key.Else token h = named_is_name _ token h
word_of_kind key.Hit token h = named_is_name _ token h
word_of_kind key.Miss token h = named_is_name _ token h
word_of_kind key.Payload token h = named_is_name _ token h
word_of_kind key.Next token h = named_is_name _ token h
word_of_kind key.Last token h = named_is_name _ token h
word_of_kind key.ParserValueSet token h = named_is_name _ token h
word_of_kind key.ParserException token h = named_is_name _ token h
word_of_kind key.ActionSelector token h = named_is_name _ token h

pub of_kind : (c : Class) (token : Lexeme) (built : Built) → accepts c token built ≡ true → IsOf (kind c) token
of_kind (class.Mark m) token built h = mark_of_kind m token h
of_kind (class.Word k) token built h = word_of_kind k token h
of_kind class.Name token built h = h
of_kind class.Number token built h = h
of_kind class.ExpressionName token built h = named_is_name _ token h
of_kind (class.NewTail k) token built h = named_is_name _ token (left _ _ h)
of_kind (class.NewTableAttr k) token built h = named_is_name _ token (left _ _ h)
of_kind (class.NewStateAttr k) token built h = named_is_name _ token (left _ _ h)
of_kind class.NewLabel token built h = named_is_name _ token h
of_kind (class.Infix least most) token built h = infix_some least most (infix_of token) h
of_kind (class.Prefix least) token built h = refl
of_kind class.GroupToken token built h = h
of_kind class.GroupOpen token built h = h
of_kind class.GroupClose token built h = refl

-- the sets that a word may still take from at its end

abbrev pub part_ends : PartWord → List ℕ
part_ends part.MoreNames = 3 ∷ []
part_ends part.NameLines = 0 ∷ []
part_ends part.IndexOption = 4 ∷ []
part_ends part.IndexIn = []
part_ends part.Inst = 4 ∷ []
part_ends part.FieldOption = 5 ∷ []
part_ends part.Ref = []
part_ends part.Number = []
part_ends part.Arguments = 6 ∷ []
part_ends part.NumberList = 8 ∷ 9 ∷ 2 ∷ 3 ∷ []
part_ends part.MoreNumbers = 3 ∷ []
part_ends part.MaskOption = 0 ∷ []

abbrev pub header_ends : HeaderWord → List ℕ
header_ends header.Fields = 0 ∷ []
header_ends header.Width = []
header_ends header.Attributes = 6 ∷ []
header_ends header.Tails = 0 ∷ []
header_ends header.Size = 4 ∷ []
header_ends header.MetadataEnd = 7 ∷ []
header_ends header.Initials = 0 ∷ []
header_ends header.Semicolon = 7 ∷ []

abbrev pub calculation_ends : CalculationWord → List ℕ
calculation_ends calculation.Items = 2 ∷ 0 ∷ []
calculation_ends calculation.Calc = []
calculation_ends calculation.Calcs = 0 ∷ []
calculation_ends calculation.CalcIf = 0 ∷ []
calculation_ends calculation.CalcCond = []
calculation_ends calculation.AfterValid = []

abbrev pub state_ends : StateWord → List ℕ
state_ends state.Statements = 1 ∷ []
state_ends state.Value = []
state_ends state.SelectValue = []
state_ends state.AfterCurrent = []
state_ends state.AfterLatest = []
state_ends state.MoreValues = 3 ∷ []
state_ends state.Return = []
state_ends state.AfterReturn = []
state_ends state.AfterSelect = []
state_ends state.Case = []
state_ends state.Cases = 0 ∷ 2 ∷ []
state_ends state.MoreMasked = 3 ∷ 0 ∷ []
state_ends state.Target = 0 ∷ []
state_ends state.AfterError = 0 ∷ []

abbrev pub call_ends : CallWord → List ℕ
call_ends called.Params = 0 ∷ 3 ∷ []
call_ends called.Calls = 0 ∷ []
call_ends called.Arg = 4 ∷ 5 ∷ []
call_ends called.Args = 8 ∷ 9 ∷ 2 ∷ 0 ∷ 4 ∷ 5 ∷ 3 ∷ []
call_ends called.MoreArgs = 3 ∷ 4 ∷ 5 ∷ []

abbrev pub table_ends : TableWord → List ℕ
table_ends table.Attr = []
table_ends table.Attrs = 0 ∷ []
table_ends table.MoreAttrs = 0 ∷ []
table_ends table.Timeout = []
table_ends table.Reads = 0 ∷ []

abbrev pub object_ends : ObjectWord → List ℕ
object_ends object.Attr = []
object_ends object.CounterAttrs = 0 ∷ []
object_ends object.RegisterAttrs = 0 ∷ []
object_ends object.MoreAttrs = 0 ∷ []
object_ends object.CounterType = []

abbrev pub body_ends : BodyWord → List ℕ
body_ends (body.Expr least) = 11 ∷ []
body_ends (body.Operators least most) = 11 ∷ []
body_ends body.ExprInst = 4 ∷ []
body_ends body.Statements = 0 ∷ []
body_ends body.AfterApply = []
body_ends body.ApplyEnd = []
body_ends body.AfterIf = 0 ∷ []
body_ends body.ElseOption = 0 ∷ []
body_ends body.AfterElse = 0 ∷ []
body_ends body.Branches = 0 ∷ []

abbrev pub ends : Word → List ℕ
ends (word.Part w) = part_ends w
ends (word.Header w) = header_ends w
ends (word.Calculation w) = calculation_ends w
ends (word.State w) = state_ends w
ends (word.Call w) = call_ends w
ends (word.Table w) = table_ends w
ends (word.Object w) = object_ends w
ends (word.Body w) = body_ends w
ends word.LeftOutEnd = []
ends word.Group = 12 ∷ 10 ∷ []
ends word.Decls = 0 ∷ 7 ∷ []

abbrev pub closing14 : Closing grammar14
closing14 = record {
  foresees = foresees;
  foreseen = foreseen;
  stands = stands;
  sample = sample;
  closing = closing_of;
  kinds = kinds;
  kind = kind;
  of_kind = of_kind;
  ends = ends;
}

abbrev Closed : Word → Type 0
Closed w = stands w ≡ true → IsClosed grammar14 closing14 w

part_closed : (w : PartWord) → Closed (word.Part w)
part_closed part.MoreNames s = (λ token. refl, refl)
part_closed part.NameLines s = (λ token. refl, refl)
part_closed part.IndexOption s = (λ token. refl, refl)
part_closed part.IndexIn s = (λ token. refl, refl)
part_closed part.Inst s = (λ token. refl, refl)
part_closed part.FieldOption s = (λ token. refl, refl)
part_closed part.Ref s = (λ token. refl, refl)
part_closed part.Number s = (λ token. refl, refl)
part_closed part.Arguments s = (λ token. refl, refl)
part_closed part.NumberList s = (λ token. refl, refl)
part_closed part.MoreNumbers s = (λ token. refl, refl)
part_closed part.MaskOption s = (λ token. refl, refl)

header_closed : (w : HeaderWord) → Closed (word.Header w)
header_closed header.Fields s = (λ token. refl, refl)
header_closed header.Width s = (λ token. refl, refl)
header_closed header.Attributes s = (λ token. refl, refl)
header_closed header.Tails s = (λ token. refl, refl)
header_closed header.Size s = (λ token. refl, refl)
header_closed header.MetadataEnd s = (λ token. refl, refl)
header_closed header.Initials s = (λ token. refl, refl)
header_closed header.Semicolon s = (λ token. refl, refl)

calculation_closed : (w : CalculationWord) → Closed (word.Calculation w)
calculation_closed calculation.Items s = (λ token. refl, refl)
calculation_closed calculation.Calc s = (λ token. refl, refl)
calculation_closed calculation.Calcs s = (λ token. refl, refl)
calculation_closed calculation.CalcIf s = (λ token. refl, refl)
calculation_closed calculation.CalcCond s = (λ token. refl, refl)
calculation_closed calculation.AfterValid s = (λ token. refl, refl)

state_closed : (w : StateWord) → Closed (word.State w)
state_closed state.Statements s = (λ token. refl, refl)
state_closed state.Value s = (λ token. refl, refl)
state_closed state.SelectValue s = (λ token. refl, refl)
state_closed state.AfterCurrent s = (λ token. refl, refl)
state_closed state.AfterLatest s = (λ token. refl, refl)
state_closed state.MoreValues s = (λ token. refl, refl)
state_closed state.Return s = (λ token. refl, refl)
state_closed state.AfterReturn s = (λ token. refl, refl)
state_closed state.AfterSelect s = (λ token. refl, refl)
state_closed state.Case s = (λ token. refl, refl)
state_closed state.Cases s = (λ token. refl, refl)
state_closed state.MoreMasked s = (λ token. refl, refl)
state_closed state.Target s = (λ token. refl, refl)
state_closed state.AfterError s = (λ token. refl, refl)

call_closed : (w : CallWord) → Closed (word.Call w)
call_closed called.Params s = (λ token. refl, refl)
call_closed called.Calls s = (λ token. refl, refl)
call_closed called.Arg s = (λ token. refl, refl)
call_closed called.Args s = (λ token. refl, refl)
call_closed called.MoreArgs s = (λ token. refl, refl)

table_closed : (w : TableWord) → Closed (word.Table w)
table_closed table.Attr s = cc
table_closed table.Attrs s = (λ token. refl, refl)
table_closed table.MoreAttrs s = (λ token. refl, refl)
table_closed table.Timeout s = (λ token. refl, refl)
table_closed table.Reads s = (λ token. refl, refl)

object_closed : (w : ObjectWord) → Closed (word.Object w)
object_closed object.Attr s = cc
object_closed object.CounterAttrs s = (λ token. refl, refl)
object_closed object.RegisterAttrs s = (λ token. refl, refl)
object_closed object.MoreAttrs s = (λ token. refl, refl)
object_closed object.CounterType s = (λ token. refl, refl)

prefix_fits : (least : ℕ) (o : Option UnaryOperator) → row_fits grammar14 closing14 (word.Body (body.Expr least)) (prefix_rest least o) ≡ true
prefix_fits least None = refl
prefix_fits least (Some operator) = refl

infix_fits : (least most : ℕ) (o : Option BinaryOperator) → row_fits grammar14 closing14 (word.Body (body.Operators least most)) (infix_rest least o) ≡ true
infix_fits least most None = refl
infix_fits least most (Some operator) = refl

-- what follows the condition of an `if`
abbrev if_rest : List Sym
if_rest = rows.paren_close ∷ block_sym (body_sym body.ElseOption ∷ Put (action.Body body_action.AddIf) ∷ [])

condition_fits : (o : Option UnaryOperator) → row_fits grammar14 closing14 (word.Body body.AfterIf) (prefix_rest 0 o ++ if_rest) ≡ true
condition_fits None = refl
condition_fits (Some operator) = refl

body_closed : (w : BodyWord) → Closed (word.Body w)
body_closed (body.Expr least) s = (λ token. rw (prefix_fits least (prefix_of token)) refl, refl)
body_closed (body.Operators least most) s = (λ token. rw (infix_fits least most (infix_of token)) refl, refl)
body_closed body.ExprInst s = (λ token. refl, refl)
body_closed body.Statements s = (λ token. refl, refl)
body_closed body.AfterApply s = (λ token. refl, refl)
body_closed body.ApplyEnd s = (λ token. refl, refl)
body_closed body.AfterIf s = (λ token. rw (condition_fits (prefix_of token)) refl, refl)
body_closed body.ElseOption s = (λ token. refl, refl)
body_closed body.AfterElse s = (λ token. refl, refl)
body_closed body.Branches s = (λ token. refl, refl)

pub closed14 : (w : Word) → stands w ≡ true → IsClosed grammar14 closing14 w
closed14 (word.Part w) = part_closed w
closed14 (word.Header w) = header_closed w
closed14 (word.Calculation w) = calculation_closed w
closed14 (word.State w) = state_closed w
closed14 (word.Call w) = call_closed w
closed14 (word.Table w) = table_closed w
closed14 (word.Object w) = object_closed w
closed14 (word.Body w) = body_closed w
closed14 word.LeftOutEnd = λ s. (λ token. refl, refl)
closed14 word.Group = λ s. (λ token. refl, refl)
closed14 word.Decls = λ s. (λ token. refl, refl)
