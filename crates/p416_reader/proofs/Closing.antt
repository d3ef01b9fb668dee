-- How each word of the grammar can be closed, and what it may still take at its end: so what is read before a refusal can
-- be completed.
use Rattle.std.proofs.Common.{◌≡◌, ℕ, Bool, true, false, ◌&&◌, nat_eq, nat_le, List, [], ◌∷◌, ◌++◌, codes, get_or, Option, Some, None, refl, bytes_eq}
use Rattle.predictive_parser.specs.declared.symbol.Symbol.TheVariants.{Put}
use Rattle.predictive_parser.proofs.Closings.{Closing, IsClosed, row_fits}
use Rattle.p416_syntax.specs.declared.keyword.Keyword16.{Keyword16}
use Rattle.p416_syntax.specs.declared.keyword.Keyword16.TheVariants as key
use Rattle.p416_syntax.specs.declared.lexeme.Annotation16.{Annotation16}
use Rattle.p416_syntax.specs.declared.lexeme.Annotation16.TheVariants as note_of
use Rattle.p416_syntax.specs.declared.lexeme.Include16.TheVariants as include
use Rattle.p416_syntax.specs.declared.mark.Mark16.{Mark16}
use Rattle.p416_syntax.specs.declared.mark.Mark16.TheVariants as mark_of
use Rattle.p416_syntax.specs.declared.node.BinaryOperator.{BinaryOperator}
use Rattle.p416_syntax.specs.declared.node.BinaryOperator.TheVariants as operator_of
use Rattle.p416_syntax.specs.Tokens.{Seen16, id, quoted, number, mark, string, annotation, include_line, opens, brace_open, brace_close, paren_open, paren_close, bracket_close, semicolon, dot, equals}
use Rattle.p416_reader.specs.declared.symbols.Class.{Class}
use Rattle.p416_reader.specs.declared.symbols.Class.TheVariants as class
use Rattle.p416_reader.specs.declared.symbols.Known.TheVariants as known
use Rattle.p416_reader.specs.declared.symbols.Action.TheVariants as action
use Rattle.p416_reader.specs.declared.symbols.StateAction.TheVariants as state_act
use Rattle.p416_reader.specs.declared.symbols.Word.{Word}
use Rattle.p416_reader.specs.declared.symbols.Word.TheVariants as word
use Rattle.p416_reader.specs.declared.symbols.PartWord.{PartWord}
use Rattle.p416_reader.specs.declared.symbols.PartWord.TheVariants as part
use Rattle.p416_reader.specs.declared.symbols.BodyWord.{BodyWord}
use Rattle.p416_reader.specs.declared.symbols.BodyWord.TheVariants as body
use Rattle.p416_reader.specs.declared.symbols.StateWord.{StateWord}
use Rattle.p416_reader.specs.declared.symbols.StateWord.TheVariants as state
use Rattle.p416_reader.specs.declared.symbols.ControlWord.{ControlWord}
use Rattle.p416_reader.specs.declared.symbols.ControlWord.TheVariants as control
use Rattle.p416_reader.specs.declared.symbols.DeclWord.{DeclWord}
use Rattle.p416_reader.specs.declared.symbols.DeclWord.TheVariants as declare
use Rattle.p416_reader.specs.declared.built.Built.{Built}
use Rattle.p416_reader.specs.internal.Classes.{known_text, is_mark, is_quoted, is_note, is_include, is_id, is_number, is_string, is_opens, is_word, infix_of, is_infix, accepts}
use Rattle.p416_reader.specs.internal.Actions.{no_literal}
use Rattle.p416_reader.specs.internal.Rows.{Sym, grammar16, infix_rest, state_sym}
use Rattle.p416_reader.proofs.Lists.{left_true}

-- what depends on what is built is taken or not by that; another token is not
abbrev pub unless : Bool → Option Bool
unless true = None
unless false = Some false

abbrev pub foresees : Class → Seen16 → Option Bool
foresees (class.Mark m) token = Some (is_mark m token)
foresees (class.Word k) token = Some (is_quoted k token)
foresees (class.Known k) token = Some (is_id (bytes_eq (known_text k)) token)
foresees class.Name token = Some (is_id (λ text. true) token)
foresees class.AnyWord token = Some (is_word token)
foresees class.Number token = Some (is_number token)
foresees class.String token = Some (is_string token)
foresees (class.At a) token = Some (is_note a token)
foresees class.NewNameNote token = unless (is_note note_of.Name token)
foresees (class.Include i) token = Some (is_include i token)
foresees class.Opens token = Some (is_opens token)
foresees (class.NewProperty k) token = unless (is_quoted k token)
foresees class.CallEnd token = unless (is_mark mark_of.Semicolon token)
foresees class.VarName token = unless (is_id (λ text. true) token)
foresees class.Else token = unless (is_quoted key.Else token)
foresees (class.Infix least most) token = Some (is_infix least most (infix_of token))
foresees (class.Question least most) token = Some (is_mark mark_of.Question token && (nat_eq least 0 && nat_le 1 most))

some_same : (a b : Bool) → Some a ≡ Some b → a ≡ b
some_same a b e = cc

unless_new : (a c answer : Bool) → unless a ≡ Some answer → (a && c) ≡ answer
unless_new true c answer e = cc
unless_new false c answer e = some_same false answer e

pub foreseen : (c : Class) (token : Seen16) (answer : Bool) (built : Built) → foresees c token ≡ Some answer → accepts c token built ≡ answer
foreseen (class.Mark m) token answer built e = some_same _ answer e
foreseen (class.Word k) token answer built e = some_same _ answer e
foreseen (class.Known k) token answer built e = some_same _ answer e
foreseen class.Name token answer built e = some_same _ answer e
foreseen class.AnyWord token answer built e = some_same _ answer e
foreseen class.Number token answer built e = some_same _ answer e
foreseen class.String token answer built e = some_same _ answer e
foreseen (class.At a) token answer built e = some_same _ answer e
foreseen (class.Include i) token answer built e = some_same _ answer e
foreseen class.Opens token answer built e = some_same _ answer e
foreseen (class.Infix least most) token answer built e = some_same _ answer e
foreseen (class.Question least most) token answer built e = some_same _ answer e
foreseen class.NewNameNote token answer built e = unless_new _ _ answer e
foreseen (class.NewProperty k) token answer built e = unless_new _ _ answer e
foreseen class.CallEnd token answer built e = unless_new _ _ answer e
foreseen class.VarName token answer built e = unless_new _ _ answer e
foreseen class.Else token answer built e = unless_new _ _ answer e

abbrev pub some_name : Seen16
some_name = id (codes "a")

abbrev pub some_number : Seen16
some_number = number no_literal

abbrev pub some_string : Seen16
some_string = string (codes "a")

abbrev pub sample : Class → Seen16
sample (class.Mark m) = mark m
sample (class.Word k) = quoted k
sample (class.Known k) = id (known_text k)
sample class.Name = some_name
sample class.AnyWord = some_name
sample class.Number = some_number
sample class.String = some_string
sample (class.At a) = annotation a
sample class.NewNameNote = annotation note_of.Name
sample (class.Include i) = include_line i
sample class.Opens = opens
sample (class.NewProperty k) = quoted k
sample class.CallEnd = semicolon
sample class.VarName = some_name
sample class.Else = quoted key.Else
sample (class.Infix least most) = mark mark_of.Star
sample (class.Question least most) = mark mark_of.Question

-- a word that has no rows of its own place only lends them
abbrev pub stands : Word → Bool
stands (word.Part part.FirstNote) = false
stands (word.Body body.PlainOperand) = false
stands (word.Body body.SomePostfix) = false
stands (word.Body body.SomeOperators) = false
stands (word.Body body.PlainStmt) = false
stands (word.Control control.ActionDecl) = false
stands (word.Control control.TableDecl) = false
stands (word.Control control.Property) = false
stands _ = true

abbrev pub part_closing : PartWord → List Seen16
part_closing part.TypeOf = some_name ∷ []
part_closing part.Param = some_name ∷ some_name ∷ []
part_closing part.Member = id (known_text known.HashAlgorithm) ∷ dot ∷ id (known_text known.Csum16) ∷ []
part_closing part.HashMember = id (known_text known.Csum16) ∷ []
part_closing part.CounterMember = id (known_text known.Packets) ∷ []
part_closing part.MeterMember = id (known_text known.Packets) ∷ []
part_closing part.CloneMember = id (known_text known.I2E) ∷ []
part_closing _ = []

abbrev pub body_closing : BodyWord → List Seen16
body_closing body.Exp = some_number ∷ []
body_closing body.Operand = some_number ∷ []
body_closing body.AfterParen = some_number ∷ paren_close ∷ []
body_closing body.AfterDot = id (known_text known.Lookahead) ∷ []
body_closing body.AfterNumber = bracket_close ∷ []
body_closing body.Arg = some_number ∷ []
body_closing body.Stmt = semicolon ∷ []
body_closing body.StmtEnd = equals ∷ some_number ∷ semicolon ∷ []
body_closing body.NamedEnd = equals ∷ some_number ∷ semicolon ∷ []
body_closing body.VarEnd = semicolon ∷ []
body_closing _ = []

abbrev pub state_closing : StateWord → List Seen16
state_closing state.Target = some_name ∷ []
state_closing state.Simple = quoted key.Default ∷ []
state_closing state.KeysetParen = quoted key.Default ∷ paren_close ∷ []
state_closing state.KeysetParenEnd = paren_close ∷ []
state_closing state.Transition = quoted key.Transition ∷ some_name ∷ semicolon ∷ []
state_closing state.AfterTransition = some_name ∷ semicolon ∷ []
state_closing _ = []

abbrev pub control_closing : ControlWord → List Seen16
control_closing control.Instance = quoted key.DirectCounter ∷ paren_open ∷ id (known_text known.HashAlgorithm) ∷ dot ∷ id (known_text known.Csum16) ∷ paren_close ∷ some_name ∷ []
control_closing control.Properties = quoted key.Actions ∷ equals ∷ brace_open ∷ some_name ∷ semicolon ∷ brace_close ∷ []
control_closing control.ActionRef = some_name ∷ []
control_closing control.Noted = quoted key.Action ∷ some_name ∷ paren_open ∷ paren_close ∷ brace_open ∷ brace_close ∷ []
control_closing _ = []

abbrev pub decl_closing : DeclWord → List Seen16
decl_closing declare.Program = include_line include.Core ∷ include_line include.V1Model ∷ quoted key.V1Switch ∷ paren_open ∷ some_name ∷ paren_open ∷ paren_close ∷ paren_close ∷ quoted key.Main ∷ semicolon ∷ []
decl_closing declare.Decls = quoted key.V1Switch ∷ paren_open ∷ some_name ∷ paren_open ∷ paren_close ∷ paren_close ∷ quoted key.Main ∷ semicolon ∷ []
decl_closing _ = []

abbrev pub closing_of : Word → List Seen16
closing_of (word.Part w) = part_closing w
closing_of (word.Body w) = body_closing w
closing_of (word.State w) = state_closing w
closing_of (word.Control w) = control_closing w
closing_of (word.Decl w) = decl_closing w

-- sets of tokens that optional words begin with

abbrev pub is_some : {A : Type 0} → Option A → Bool
is_some None = false
is_some (Some x) = true

abbrev pub kinds : List (Seen16 → Bool)
kinds =
    is_note note_of.FieldList
    ∷ is_note note_of.Name
    ∷ is_id (λ text. true)
    ∷ (λ token. is_some (infix_of token))
    ∷ is_mark mark_of.Assign
    ∷ is_mark mark_of.Bang
    ∷ is_mark mark_of.BraceOpen
    ∷ is_mark mark_of.BracketOpen
    ∷ is_mark mark_of.Comma
    ∷ is_mark mark_of.Dot
    ∷ is_mark mark_of.DotDot
    ∷ is_mark mark_of.Mask
    ∷ is_mark mark_of.Minus
    ∷ is_mark mark_of.ParenOpen
    ∷ is_mark mark_of.Question
    ∷ is_mark mark_of.Semicolon
    ∷ is_mark mark_of.Tilde
    ∷ is_number
    ∷ is_opens
    ∷ is_quoted key.Action
    ∷ is_quoted key.Actions
    ∷ is_quoted key.Bit
    ∷ is_quoted key.Bool
    ∷ is_quoted key.Counter
    ∷ is_quoted key.Counters
    ∷ is_quoted key.Default
    ∷ is_quoted key.DefaultAction
    ∷ is_quoted key.DirectCounter
    ∷ is_quoted key.Else
    ∷ is_quoted key.Error
    ∷ is_quoted key.False
    ∷ is_quoted key.If
    ∷ is_quoted key.In
    ∷ is_quoted key.InOut
    ∷ is_quoted key.Key
    ∷ is_quoted key.Meter
    ∷ is_quoted key.NoAction
    ∷ is_quoted key.Out
    ∷ is_quoted key.Register
    ∷ is_quoted key.Size
    ∷ is_quoted key.State
    ∷ is_quoted key.Switch
    ∷ is_quoted key.Table
    ∷ is_quoted key.True
    ∷ is_quoted key.Underscore
    ∷ []

-- one past the last set: every token
abbrev pub any_kind : ℕ
any_kind = 45

abbrev pub mark_kind : Mark16 → ℕ
mark_kind mark_of.BraceOpen = 6
mark_kind mark_of.ParenOpen = 13
mark_kind mark_of.BracketOpen = 7
mark_kind mark_of.Semicolon = 15
mark_kind mark_of.Comma = 8
mark_kind mark_of.Dot = 9
mark_kind mark_of.DotDot = 10
mark_kind mark_of.Assign = 4
mark_kind mark_of.Minus = 12
mark_kind mark_of.Mask = 11
mark_kind mark_of.Tilde = 16
mark_kind mark_of.Bang = 5
mark_kind mark_of.Question = 14
mark_kind _ = any_kind

abbrev pub word_kind : Keyword16 → ℕ
word_kind key.Bit = 21
word_kind key.Bool = 22
word_kind key.In = 32
word_kind key.Out = 37
word_kind key.InOut = 33
word_kind key.Counter = 23
word_kind key.DirectCounter = 27
word_kind key.Register = 38
word_kind key.Meter = 35
word_kind key.Action = 19
word_kind key.Table = 42
word_kind key.Key = 34
word_kind key.Actions = 20
word_kind key.NoAction = 36
word_kind key.Size = 39
word_kind key.Counters = 24
word_kind key.DefaultAction = 26
word_kind key.State = 40
word_kind key.Default = 25
word_kind key.Underscore = 44
word_kind key.If = 31
word_kind key.Else = 28
word_kind key.Switch = 41
word_kind key.True = 43
word_kind key.False = 30
word_kind key.Error = 29
word_kind _ = any_kind

abbrev pub note_kind : Annotation16 → ℕ
note_kind note_of.Name = 1
note_kind note_of.FieldList = 0

abbrev pub kind : Class → ℕ
kind (class.Mark m) = mark_kind m
kind (class.Word k) = word_kind k
kind (class.Known k) = any_kind
kind class.Name = 2
kind class.AnyWord = any_kind
kind class.Number = 17
kind class.String = any_kind
kind (class.At a) = note_kind a
kind class.NewNameNote = note_kind note_of.Name
kind (class.Include i) = any_kind
kind class.Opens = 18
kind (class.NewProperty k) = word_kind k
kind class.CallEnd = mark_kind mark_of.Semicolon
kind class.VarName = 2
kind class.Else = word_kind key.Else
kind (class.Infix least most) = 3
kind (class.Question least most) = mark_kind mark_of.Question

abbrev pub IsOf : ℕ → Seen16 → Type 0
IsOf k token = get_or kinds k (λ t. true) token ≡ true

mark_of_kind : (m : Mark16) (token : Seen16) → is_mark m token ≡ true → IsOf (mark_kind m) token
mark_of_kind mark_of.BraceOpen token h = h
mark_of_kind mark_of.BraceClose token h = refl
mark_of_kind mark_of.ParenOpen token h = h
mark_of_kind mark_of.ParenClose token h = refl
mark_of_kind mark_of.BracketOpen token h = h
mark_of_kind mark_of.BracketClose token h = refl
mark_of_kind mark_of.Semicolon token h = h
mark_of_kind mark_of.Colon token h = refl
mark_of_kind mark_of.Comma token h = h
mark_of_kind mark_of.Dot token h = h
mark_of_kind mark_of.DotDot token h = h
mark_of_kind mark_of.Assign token h = h
mark_of_kind mark_of.Less token h = refl
mark_of_kind mark_of.Greater token h = refl
mark_of_kind mark_of.LessEqual token h = refl
mark_of_kind mark_of.GreaterEqual token h = refl
mark_of_kind mark_of.Equal token h = refl
mark_of_kind mark_of.NotEqual token h = refl
mark_of_kind mark_of.ShiftLeft token h = refl
mark_of_kind mark_of.Plus token h = refl
mark_of_kind mark_of.PlusPlus token h = refl
mark_of_kind mark_of.Minus token h = h
mark_of_kind mark_of.SaturatingPlus token h = refl
mark_of_kind mark_of.SaturatingMinus token h = refl
mark_of_kind mark_of.Star token h = refl
mark_of_kind mark_of.Ampersand token h = refl
mark_of_kind mark_of.AndAnd token h = refl
mark_of_kind mark_of.Mask token h = h
mark_of_kind mark_of.Bar token h = refl
mark_of_kind mark_of.OrOr token h = refl
mark_of_kind mark_of.Caret token h = refl
mark_of_kind mark_of.Tilde token h = h
mark_of_kind mark_of.Bang token h = h
mark_of_kind mark_of.Question token h = h

word_of_kind : (k : Keyword16) (token : Seen16) → is_quoted k token ≡ true → IsOf (word_kind k) token
word_of_kind key.V1Switch token h = refl
word_of_kind key.Main token h = refl
word_of_kind key.Header token h = refl
word_of_kind key.Bit token h = h
word_of_kind key.Struct token h = refl
word_of_kind key.Parser token h = refl
word_of_kind key.Control token h = refl
word_of_kind key.Apply token h = refl
word_of_kind key.Bool token h = h
word_of_kind key.In token h = h
word_of_kind key.Out token h = h
word_of_kind key.InOut token h = h
word_of_kind key.Counter token h = h
word_of_kind key.DirectCounter token h = h
word_of_kind key.Register token h = h
word_of_kind key.Meter token h = h
word_of_kind key.Action token h = h
word_of_kind key.Table token h = h
word_of_kind key.Key token h = h
word_of_kind key.Actions token h = h
word_of_kind key.NoAction token h = h
word_of_kind key.Size token h = h
word_of_kind key.Counters token h = h
word_of_kind key.DefaultAction token h = h
word_of_kind key.State token h = h
word_of_kind key.Transition token h = refl
word_of_kind key.Select token h = refl
word_of_kind key.Accept token h = refl
word_of_kind key.Reject token h = refl
word_of_kind key.Default token h = h
word_of_kind key.Underscore token h = h
word_of_kind key.If token h = h
word_of_kind key.Else token h = h
word_of_kind key.Switch token h = h
word_of_kind key.ActionRun token h = refl
word_of_kind key.True token h = h
word_of_kind key.False token h = h
word_of_kind key.Error token h = h

note_of_kind : (a : Annotation16) (token : Seen16) → is_note a token ≡ true → IsOf (note_kind a) token
note_of_kind note_of.Name token h = h
note_of_kind note_of.FieldList token h = h

infix_some : (least most : ℕ) (o : Option BinaryOperator) → is_infix least most o ≡ true → is_some o ≡ true
infix_some least most None h = h
infix_some least most (Some operator) h = refl

pub of_kind : (c : Class) (token : Seen16) (built : Built) → accepts c token built ≡ true → IsOf (kind c) token
of_kind (class.Mark m) token built h = mark_of_kind m token h
of_kind (class.Word k) token built h = word_of_kind k token h
of_kind (class.Known k) token built h = refl
of_kind class.Name token built h = h
of_kind class.AnyWord token built h = refl
of_kind class.Number token built h = h
of_kind class.String token built h = refl
of_kind (class.At a) token built h = note_of_kind a token h
of_kind class.NewNameNote token built h = note_of_kind note_of.Name token (left_true _ _ h)
of_kind (class.Include i) token built h = refl
of_kind class.Opens token built h = h
of_kind (class.NewProperty k) token built h = word_of_kind k token (left_true _ _ h)
of_kind class.CallEnd token built h = mark_of_kind mark_of.Semicolon token (left_true _ _ h)
of_kind class.VarName token built h = left_true _ _ h
of_kind class.Else token built h = word_of_kind key.Else token (left_true _ _ h)
of_kind (class.Infix least most) token built h = infix_some least most (infix_of token) h
of_kind (class.Question least most) token built h = mark_of_kind mark_of.Question token (left_true _ _ h)

-- the sets that a word may still take from at its end

abbrev pub part_ends : PartWord → List ℕ
part_ends part.TypeOf = 7 ∷ []
part_ends part.SizeOption = 7 ∷ []
part_ends part.FirstNote = []
part_ends part.Notes = 0 ∷ 1 ∷ []
part_ends part.MoreNumbers = 8 ∷ []
part_ends part.Param = []
part_ends part.Params = 2 ∷ 8 ∷ 21 ∷ 22 ∷ 32 ∷ 33 ∷ 37 ∷ []
part_ends part.MoreParams = 8 ∷ []
part_ends part.Member = []
part_ends part.HashMember = []
part_ends part.CounterMember = []
part_ends part.MeterMember = []
part_ends part.CloneMember = []

abbrev pub body_ends : BodyWord → List ℕ
body_ends body.Exp = 3 ∷ 7 ∷ 9 ∷ 13 ∷ 14 ∷ 18 ∷ []
body_ends body.Operand = 7 ∷ 9 ∷ 13 ∷ 18 ∷ []
body_ends body.PlainOperand = []
body_ends body.AfterParen = 7 ∷ 9 ∷ 13 ∷ 18 ∷ []
body_ends body.SomePostfix = []
body_ends body.Postfix = 7 ∷ 9 ∷ 13 ∷ 18 ∷ []
body_ends body.AfterDot = 18 ∷ []
body_ends body.AfterLookahead = 18 ∷ []
body_ends body.AfterNumber = []
body_ends body.Args = 2 ∷ 3 ∷ 5 ∷ 6 ∷ 7 ∷ 8 ∷ 9 ∷ 12 ∷ 13 ∷ 14 ∷ 16 ∷ 17 ∷ 18 ∷ 29 ∷ 30 ∷ 43 ∷ []
body_ends body.Arg = 3 ∷ 7 ∷ 9 ∷ 13 ∷ 14 ∷ 18 ∷ []
body_ends body.MoreArgs = 3 ∷ 7 ∷ 8 ∷ 9 ∷ 13 ∷ 14 ∷ 18 ∷ []
body_ends body.Items = 2 ∷ 3 ∷ 5 ∷ 7 ∷ 8 ∷ 9 ∷ 12 ∷ 13 ∷ 14 ∷ 16 ∷ 17 ∷ 18 ∷ 29 ∷ 30 ∷ 43 ∷ []
body_ends body.MoreItems = 3 ∷ 7 ∷ 8 ∷ 9 ∷ 13 ∷ 14 ∷ 18 ∷ []
body_ends (body.Operators least most) = 3 ∷ 7 ∷ 9 ∷ 13 ∷ 14 ∷ 18 ∷ []
body_ends body.SomeOperators = []
body_ends body.PlainStmt = []
body_ends body.Stmt = 28 ∷ []
body_ends body.Stmts = 2 ∷ 5 ∷ 6 ∷ 12 ∷ 13 ∷ 15 ∷ 16 ∷ 17 ∷ 21 ∷ 22 ∷ 28 ∷ 29 ∷ 30 ∷ 31 ∷ 41 ∷ 43 ∷ []
body_ends body.StmtEnd = []
body_ends body.NamedEnd = []
body_ends body.VarEnd = []
body_ends body.ElseOption = 28 ∷ []
body_ends body.Cases = 2 ∷ 25 ∷ []

abbrev pub state_ends : StateWord → List ℕ
state_ends state.Target = []
state_ends state.Simple = 3 ∷ 7 ∷ 9 ∷ 10 ∷ 11 ∷ 13 ∷ 14 ∷ 18 ∷ []
state_ends state.SimpleEnd = 3 ∷ 7 ∷ 9 ∷ 10 ∷ 11 ∷ 13 ∷ 14 ∷ 18 ∷ []
state_ends state.MoreSimples = 3 ∷ 7 ∷ 8 ∷ 9 ∷ 10 ∷ 11 ∷ 13 ∷ 14 ∷ 18 ∷ []
state_ends state.SelectCases = 2 ∷ 5 ∷ 12 ∷ 13 ∷ 16 ∷ 17 ∷ 25 ∷ 29 ∷ 30 ∷ 43 ∷ 44 ∷ []
state_ends state.KeysetParen = 3 ∷ 7 ∷ 9 ∷ 10 ∷ 11 ∷ 13 ∷ 14 ∷ 18 ∷ []
state_ends state.KeysetParenEnd = 3 ∷ 7 ∷ 9 ∷ 10 ∷ 11 ∷ 13 ∷ 14 ∷ 18 ∷ []
state_ends state.AfterKeysetParen = 3 ∷ 7 ∷ 9 ∷ 10 ∷ 11 ∷ 13 ∷ 14 ∷ 18 ∷ []
state_ends state.Transition = []
state_ends state.AfterTransition = []
state_ends state.MoreExps = 3 ∷ 7 ∷ 8 ∷ 9 ∷ 13 ∷ 14 ∷ 18 ∷ []
state_ends state.Vars = 2 ∷ 21 ∷ 22 ∷ []
state_ends state.InitialOption = 3 ∷ 4 ∷ 7 ∷ 9 ∷ 13 ∷ 14 ∷ 18 ∷ []
state_ends state.States = 40 ∷ []

abbrev pub control_ends : ControlWord → List ℕ
control_ends control.Instance = []
control_ends control.ActionDecl = []
control_ends control.TableDecl = []
control_ends control.Property = []
control_ends control.Properties = 20 ∷ 24 ∷ 26 ∷ 34 ∷ 39 ∷ []
control_ends control.MoreProperties = 20 ∷ 24 ∷ 26 ∷ 34 ∷ 39 ∷ []
control_ends control.ActionRef = []
control_ends control.ActionLines = 2 ∷ 36 ∷ []
control_ends control.Keys = 2 ∷ 5 ∷ 12 ∷ 13 ∷ 16 ∷ 17 ∷ 29 ∷ 30 ∷ 43 ∷ []
control_ends control.Noted = []
control_ends control.Locals = 0 ∷ 1 ∷ 2 ∷ 19 ∷ 21 ∷ 22 ∷ 23 ∷ 27 ∷ 35 ∷ 38 ∷ 42 ∷ []

abbrev pub decl_ends : DeclWord → List ℕ
decl_ends declare.Program = []
decl_ends declare.Decls = []
decl_ends declare.BitFields = 21 ∷ []
decl_ends declare.Fields = 0 ∷ 1 ∷ 2 ∷ 21 ∷ 22 ∷ []
decl_ends declare.MoreBlocks = 8 ∷ []

abbrev pub ends : Word → List ℕ
ends (word.Part w) = part_ends w
ends (word.Body w) = body_ends w
ends (word.State w) = state_ends w
ends (word.Control w) = control_ends w
ends (word.Decl w) = decl_ends w

abbrev pub closing16 : Closing grammar16
closing16 = record {
  foresees = foresees;
  foreseen = foreseen;
  stands = stands;
  sample = sample;
  closing = closing_of;
  kinds = kinds;
  kind = kind;
  of_kind = of_kind;
  ends = ends;
}

abbrev Closed : Word → Type 0
Closed w = stands w ≡ true → IsClosed grammar16 closing16 w

infix_fits : (least most : ℕ) (o : Option BinaryOperator) → row_fits grammar16 closing16 (word.Body (body.Operators least most)) (infix_rest least o) ≡ true
infix_fits least most None = refl
infix_fits least most (Some operator_of.Multiply) = refl
infix_fits least most (Some operator_of.Add) = refl
infix_fits least most (Some operator_of.Subtract) = refl
infix_fits least most (Some operator_of.SaturatingAdd) = refl
infix_fits least most (Some operator_of.SaturatingSubtract) = refl
infix_fits least most (Some operator_of.Concatenate) = refl
infix_fits least most (Some operator_of.ShiftLeft) = refl
infix_fits least most (Some operator_of.ShiftRight) = refl
infix_fits least most (Some operator_of.BitAnd) = refl
infix_fits least most (Some operator_of.BitXor) = refl
infix_fits least most (Some operator_of.BitOr) = refl
infix_fits least most (Some operator_of.Less) = refl
infix_fits least most (Some operator_of.LessEqual) = refl
infix_fits least most (Some operator_of.Greater) = refl
infix_fits least most (Some operator_of.GreaterEqual) = refl
infix_fits least most (Some operator_of.Equal) = refl
infix_fits least most (Some operator_of.NotEqual) = refl
infix_fits least most (Some operator_of.And) = refl
infix_fits least most (Some operator_of.Or) = refl

-- what follows the first operator behind parentheses in a keyset
abbrev keyset_rest : List Sym
keyset_rest = state_sym state.SimpleEnd ∷ Put (action.State state_act.KeysetOne) ∷ []

keyset_fits : (o : Option BinaryOperator) → row_fits grammar16 closing16 (word.State state.AfterKeysetParen) (infix_rest 0 o ++ keyset_rest) ≡ true
keyset_fits None = refl
keyset_fits (Some operator_of.Multiply) = refl
keyset_fits (Some operator_of.Add) = refl
keyset_fits (Some operator_of.Subtract) = refl
keyset_fits (Some operator_of.SaturatingAdd) = refl
keyset_fits (Some operator_of.SaturatingSubtract) = refl
keyset_fits (Some operator_of.Concatenate) = refl
keyset_fits (Some operator_of.ShiftLeft) = refl
keyset_fits (Some operator_of.ShiftRight) = refl
keyset_fits (Some operator_of.BitAnd) = refl
keyset_fits (Some operator_of.BitXor) = refl
keyset_fits (Some operator_of.BitOr) = refl
keyset_fits (Some operator_of.Less) = refl
keyset_fits (Some operator_of.LessEqual) = refl
keyset_fits (Some operator_of.Greater) = refl
keyset_fits (Some operator_of.GreaterEqual) = refl
keyset_fits (Some operator_of.Equal) = refl
keyset_fits (Some operator_of.NotEqual) = refl
keyset_fits (Some operator_of.And) = refl
keyset_fits (Some operator_of.Or) = refl

part_closed : (w : PartWord) → Closed (word.Part w)
part_closed part.TypeOf s = (λ token. refl, refl)
part_closed part.SizeOption s = (λ token. refl, refl)
part_closed part.FirstNote s = cc
part_closed part.Notes s = (λ token. refl, refl)
part_closed part.MoreNumbers s = (λ token. refl, refl)
part_closed part.Param s = (λ token. refl, refl)
part_closed part.Params s = (λ token. refl, refl)
part_closed part.MoreParams s = (λ token. refl, refl)
part_closed part.Member s = (λ token. refl, refl)
part_closed part.HashMember s = (λ token. refl, refl)
part_closed part.CounterMember s = (λ token. refl, refl)
part_closed part.MeterMember s = (λ token. refl, refl)
part_closed part.CloneMember s = (λ token. refl, refl)

body_closed : (w : BodyWord) → Closed (word.Body w)
body_closed body.Exp s = (λ token. refl, refl)
body_closed body.Operand s = (λ token. refl, refl)
body_closed body.PlainOperand s = cc
body_closed body.AfterParen s = (λ token. refl, refl)
body_closed body.SomePostfix s = cc
body_closed body.Postfix s = (λ token. refl, refl)
body_closed body.AfterDot s = (λ token. refl, refl)
body_closed body.AfterLookahead s = (λ token. refl, refl)
body_closed body.AfterNumber s = (λ token. refl, refl)
body_closed body.Args s = (λ token. refl, refl)
body_closed body.Arg s = (λ token. refl, refl)
body_closed body.MoreArgs s = (λ token. refl, refl)
body_closed body.Items s = (λ token. refl, refl)
body_closed body.MoreItems s = (λ token. refl, refl)
body_closed (body.Operators least most) s = (λ token. rw (infix_fits least most (infix_of token)) refl, refl)
body_closed body.SomeOperators s = cc
body_closed body.PlainStmt s = cc
body_closed body.Stmt s = (λ token. refl, refl)
body_closed body.Stmts s = (λ token. refl, refl)
body_closed body.StmtEnd s = (λ token. refl, refl)
body_closed body.NamedEnd s = (λ token. refl, refl)
body_closed body.VarEnd s = (λ token. refl, refl)
body_closed body.ElseOption s = (λ token. refl, refl)
body_closed body.Cases s = (λ token. refl, refl)

state_closed : (w : StateWord) → Closed (word.State w)
state_closed state.Target s = (λ token. refl, refl)
state_closed state.Simple s = (λ token. refl, refl)
state_closed state.SimpleEnd s = (λ token. refl, refl)
state_closed state.MoreSimples s = (λ token. refl, refl)
state_closed state.SelectCases s = (λ token. refl, refl)
state_closed state.KeysetParen s = (λ token. refl, refl)
state_closed state.KeysetParenEnd s = (λ token. refl, refl)
state_closed state.AfterKeysetParen s = (λ token. rw (keyset_fits (infix_of token)) refl, refl)
state_closed state.Transition s = (λ token. refl, refl)
state_closed state.AfterTransition s = (λ token. refl, refl)
state_closed state.MoreExps s = (λ token. refl, refl)
state_closed state.Vars s = (λ token. refl, refl)
state_closed state.InitialOption s = (λ token. refl, refl)
state_closed state.States s = (λ token. refl, refl)

control_closed : (w : ControlWord) → Closed (word.Control w)
control_closed control.Instance s = (λ token. refl, refl)
control_closed control.ActionDecl s = cc
control_closed control.TableDecl s = cc
control_closed control.Property s = cc
control_closed control.Properties s = (λ token. refl, refl)
control_closed control.MoreProperties s = (λ token. refl, refl)
control_closed control.ActionRef s = (λ token. refl, refl)
control_closed control.ActionLines s = (λ token. refl, refl)
control_closed control.Keys s = (λ token. refl, refl)
control_closed control.Noted s = (λ token. refl, refl)
control_closed control.Locals s = (λ token. refl, refl)

decl_closed : (w : DeclWord) → Closed (word.Decl w)
decl_closed declare.Program s = (λ token. refl, refl)
decl_closed declare.Decls s = (λ token. refl, refl)
decl_closed declare.BitFields s = (λ token. refl, refl)
decl_closed declare.Fields s = (λ token. refl, refl)
decl_closed declare.MoreBlocks s = (λ token. refl, refl)

pub closed16 : (w : Word) → stands w ≡ true → IsClosed grammar16 closing16 w
closed16 (word.Part w) = part_closed w
closed16 (word.Body w) = body_closed w
closed16 (word.State w) = state_closed w
closed16 (word.Control w) = control_closed w
closed16 (word.Decl w) = decl_closed w
