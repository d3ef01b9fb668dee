-- The grammar of P4_16 as rows: what each word may begin with, and what follows. A word of the grammar that several lines
-- begin with alike is read to the point where they part, so each row is known by one token (P4_16 1.2, "P4 grammar").
use Rattle.std.specs.Prelude.{ℕ, suc, true, false, List, [], ◌∷◌, Option, Some, None}
use Rattle.predictive_parser.specs.declared.symbol.Symbol.{Symbol}
use Rattle.predictive_parser.specs.declared.symbol.Symbol.TheVariants.{Token, Put}
use Rattle.predictive_parser.specs.declared.symbol.Symbol.TheVariants as symbol
use Rattle.predictive_parser.specs.declared.symbol.Otherwise.{Otherwise}
use Rattle.predictive_parser.specs.declared.symbol.Otherwise.TheVariants.{Refuse, Pass, Build}
use Rattle.predictive_parser.specs.Grammar.{Row, Plain, Like, ◌⇒◌, Grammar}
use Rattle.p416_syntax.specs.declared.keyword.Keyword16.{Keyword16}
use Rattle.p416_syntax.specs.declared.keyword.Keyword16.TheVariants as key
use Rattle.p416_syntax.specs.declared.lexeme.Annotation16.TheVariants as annotation
use Rattle.p416_syntax.specs.declared.lexeme.Include16.TheVariants as include
use Rattle.p416_syntax.specs.declared.mark.Mark16.TheVariants as mark
use Rattle.p416_syntax.specs.declared.parts.Direction.TheVariants as direction
use Rattle.p416_syntax.specs.declared.parts.Member.TheVariants as member
use Rattle.p416_syntax.specs.declared.parts.HashAlgorithm.TheVariants as hash
use Rattle.p416_syntax.specs.declared.parts.CounterType.TheVariants as counter
use Rattle.p416_syntax.specs.declared.parts.MeterType.TheVariants as meter
use Rattle.p416_syntax.specs.declared.parts.CloneType.TheVariants as clone
use Rattle.p416_syntax.specs.declared.node.UnaryOperator.TheVariants as unary
use Rattle.p416_syntax.specs.declared.node.BinaryOperator.{BinaryOperator}
use Rattle.p416_syntax.specs.declared.node.BinaryOperator.TheVariants as binary
use Rattle.p416_syntax.specs.Operators.{binary_power}
use Rattle.p416_syntax.specs.Tokens.{Seen16}
use Rattle.p416_reader.specs.declared.symbols.Known.TheVariants as known
use Rattle.p416_reader.specs.declared.symbols.Class.{Class}
use Rattle.p416_reader.specs.declared.symbols.Class.TheVariants as class
use Rattle.p416_reader.specs.declared.symbols.Action.{Action}
use Rattle.p416_reader.specs.declared.symbols.Action.TheVariants as action
use Rattle.p416_reader.specs.declared.symbols.PartAction.TheVariants as part
use Rattle.p416_reader.specs.declared.symbols.BodyAction.TheVariants as body
use Rattle.p416_reader.specs.declared.symbols.StateAction.TheVariants as state
use Rattle.p416_reader.specs.declared.symbols.ControlAction.TheVariants as control
use Rattle.p416_reader.specs.declared.symbols.DeclAction.TheVariants as declare
use Rattle.p416_reader.specs.declared.symbols.Word.{Word}
use Rattle.p416_reader.specs.declared.symbols.Word.TheVariants as word
use Rattle.p416_reader.specs.declared.symbols.PartWord.{PartWord}
use Rattle.p416_reader.specs.declared.symbols.PartWord.TheVariants as part_word
use Rattle.p416_reader.specs.declared.symbols.BodyWord.{BodyWord}
use Rattle.p416_reader.specs.declared.symbols.BodyWord.TheVariants as body_word
use Rattle.p416_reader.specs.declared.symbols.StateWord.{StateWord}
use Rattle.p416_reader.specs.declared.symbols.StateWord.TheVariants as state_word
use Rattle.p416_reader.specs.declared.symbols.ControlWord.{ControlWord}
use Rattle.p416_reader.specs.declared.symbols.ControlWord.TheVariants as control_word
use Rattle.p416_reader.specs.declared.symbols.DeclWord.{DeclWord}
use Rattle.p416_reader.specs.declared.symbols.DeclWord.TheVariants as decl_word
use Rattle.p416_reader.specs.declared.built.Built.{Built}
use Rattle.p416_reader.specs.internal.Classes.{accepts, shift, infix_of}
use Rattle.p416_reader.specs.internal.Actions.{put}

abbrev pub Sym : Type 0
Sym = Symbol Class Action Word

abbrev pub Rows : Type 0
Rows = List (Row Class Action Word Seen16)

-- short forms of symbols

abbrev pub brace_open : Sym
brace_open = Token (class.Mark mark.BraceOpen)

abbrev pub brace_close : Sym
brace_close = Token (class.Mark mark.BraceClose)

abbrev pub paren_open : Sym
paren_open = Token (class.Mark mark.ParenOpen)

abbrev pub paren_close : Sym
paren_close = Token (class.Mark mark.ParenClose)

abbrev pub bracket_close : Sym
bracket_close = Token (class.Mark mark.BracketClose)

abbrev pub semicolon : Sym
semicolon = Token (class.Mark mark.Semicolon)

abbrev pub colon : Sym
colon = Token (class.Mark mark.Colon)

abbrev pub comma : Sym
comma = Token (class.Mark mark.Comma)

abbrev pub dot : Sym
dot = Token (class.Mark mark.Dot)

abbrev pub less : Sym
less = Token (class.Mark mark.Less)

abbrev pub greater : Sym
greater = Token (class.Mark mark.Greater)

abbrev pub assign : Sym
assign = Token (class.Mark mark.Assign)

abbrev pub a_name : Sym
a_name = Token class.Name

abbrev pub a_number : Sym
a_number = Token class.Number

abbrev pub a_string : Sym
a_string = Token class.String

abbrev pub quoted : Keyword16 → Sym
quoted k = Token (class.Word k)

abbrev pub part_sym : PartWord → Sym
part_sym w = symbol.Word (word.Part w)

abbrev pub body_sym : BodyWord → Sym
body_sym w = symbol.Word (word.Body w)

abbrev pub state_sym : StateWord → Sym
state_sym w = symbol.Word (word.State w)

abbrev pub control_sym : ControlWord → Sym
control_sym w = symbol.Word (word.Control w)

abbrev pub decl_sym : DeclWord → Sym
decl_sym w = symbol.Word (word.Decl w)

-- operators between operands, by how tightly they bind

-- a shift to the right has a second token
abbrev pub infix_more : BinaryOperator → List Sym → List Sym
infix_more binary.ShiftRight more = greater ∷ more
infix_more _ more = more

-- the right operand of an operator, the action that joins the two, and the operators that may come next
abbrev pub infix_symbols : ℕ → BinaryOperator → List Sym
infix_symbols least operator =
    body_sym body_word.Operand ∷ body_sym (body_word.Operators (suc (binary_power operator)) 11)
    ∷ Put (action.Body (body.Binary operator)) ∷ body_sym (body_word.Operators least (binary_power operator)) ∷ []

abbrev pub infix_rest : ℕ → Option BinaryOperator → List Sym
infix_rest least None = []
infix_rest least (Some operator) = infix_more operator (infix_symbols least operator)

abbrev pub question_rest : List Sym
question_rest = body_sym body_word.Exp ∷ colon ∷ body_sym body_word.Exp ∷ Put (action.Body body.Choice) ∷ []

abbrev pub operator_rows : ℕ → ℕ → Rows
operator_rows least most = Plain (class.Infix least most) (λ token. infix_rest least (infix_of token)) ∷ (class.Question least most ⇒ question_rest) ∷ []

-- annotations, types, parameters and members

abbrev pub part_rows : PartWord → Rows
part_rows part_word.TypeOf =
    (class.Name ⇒ part_sym part_word.SizeOption ∷ Put (action.Part part.TypeNamed) ∷ [])
    ∷ (class.Word key.Bit ⇒ less ∷ a_number ∷ greater ∷ Put (action.Part part.TypeBit) ∷ [])
    ∷ (class.Word key.Bool ⇒ Put (action.Part part.TypeBool) ∷ [])
    ∷ []
part_rows part_word.SizeOption = (class.Mark mark.BracketOpen ⇒ a_number ∷ bracket_close ∷ Put (action.Part part.SomeLiteral) ∷ []) ∷ []
part_rows part_word.FirstNote =
    (class.At annotation.Name ⇒ Put (action.Part part.NoNotes) ∷ paren_open ∷ a_string ∷ paren_close ∷ Put (action.Part part.AddNameNote) ∷ [])
    ∷ (class.At annotation.FieldList ⇒ Put (action.Part part.NoNotes) ∷ paren_open ∷ Put (action.Part part.NoNumbers) ∷ a_number ∷ Put (action.Part part.AddNumber) ∷ part_sym part_word.MoreNumbers ∷ paren_close ∷ Put (action.Part part.AddListNote) ∷ [])
    ∷ []
part_rows part_word.Notes =
    (class.NewNameNote ⇒ paren_open ∷ a_string ∷ paren_close ∷ Put (action.Part part.AddNameNote) ∷ part_sym part_word.Notes ∷ [])
    ∷ (class.At annotation.FieldList ⇒ paren_open ∷ Put (action.Part part.NoNumbers) ∷ a_number ∷ Put (action.Part part.AddNumber) ∷ part_sym part_word.MoreNumbers ∷ paren_close ∷ Put (action.Part part.AddListNote) ∷ part_sym part_word.Notes ∷ [])
    ∷ []
part_rows part_word.MoreNumbers = (class.Mark mark.Comma ⇒ a_number ∷ Put (action.Part part.AddNumber) ∷ part_sym part_word.MoreNumbers ∷ []) ∷ []
part_rows part_word.Param =
    (class.Word key.In ⇒ part_sym part_word.TypeOf ∷ a_name ∷ Put (action.Part (part.AddParam (Some direction.In))) ∷ [])
    ∷ (class.Word key.Out ⇒ part_sym part_word.TypeOf ∷ a_name ∷ Put (action.Part (part.AddParam (Some direction.Out))) ∷ [])
    ∷ (class.Word key.InOut ⇒ part_sym part_word.TypeOf ∷ a_name ∷ Put (action.Part (part.AddParam (Some direction.InOut))) ∷ [])
    ∷ Like (word.Part part_word.TypeOf) (a_name ∷ Put (action.Part (part.AddParam None)) ∷ [])
    ∷ []
part_rows part_word.Params =
    (class.Word key.In ⇒ part_sym part_word.TypeOf ∷ a_name ∷ Put (action.Part (part.AddParam (Some direction.In))) ∷ part_sym part_word.MoreParams ∷ [])
    ∷ (class.Word key.Out ⇒ part_sym part_word.TypeOf ∷ a_name ∷ Put (action.Part (part.AddParam (Some direction.Out))) ∷ part_sym part_word.MoreParams ∷ [])
    ∷ (class.Word key.InOut ⇒ part_sym part_word.TypeOf ∷ a_name ∷ Put (action.Part (part.AddParam (Some direction.InOut))) ∷ part_sym part_word.MoreParams ∷ [])
    ∷ Like (word.Part part_word.TypeOf) (a_name ∷ Put (action.Part (part.AddParam None)) ∷ part_sym part_word.MoreParams ∷ [])
    ∷ []
part_rows part_word.MoreParams = (class.Mark mark.Comma ⇒ part_sym part_word.Param ∷ part_sym part_word.MoreParams ∷ []) ∷ []
part_rows part_word.Member =
    (class.Known known.HashAlgorithm ⇒ dot ∷ part_sym part_word.HashMember ∷ [])
    ∷ (class.Known known.CounterType ⇒ dot ∷ part_sym part_word.CounterMember ∷ [])
    ∷ (class.Known known.MeterType ⇒ dot ∷ part_sym part_word.MeterMember ∷ [])
    ∷ (class.Known known.CloneType ⇒ dot ∷ part_sym part_word.CloneMember ∷ [])
    ∷ []
part_rows part_word.HashMember =
    (class.Known known.Csum16 ⇒ Put (action.Part (part.Member (member.HashAlgorithm hash.Csum16))) ∷ [])
    ∷ (class.Known known.Crc16 ⇒ Put (action.Part (part.Member (member.HashAlgorithm hash.Crc16))) ∷ [])
    ∷ (class.Known known.Crc32 ⇒ Put (action.Part (part.Member (member.HashAlgorithm hash.Crc32))) ∷ [])
    ∷ (class.Known known.Identity ⇒ Put (action.Part (part.Member (member.HashAlgorithm hash.Identity))) ∷ [])
    ∷ []
part_rows part_word.CounterMember =
    (class.Known known.Packets ⇒ Put (action.Part (part.Member (member.CounterType counter.Packets))) ∷ [])
    ∷ (class.Known known.Bytes ⇒ Put (action.Part (part.Member (member.CounterType counter.Bytes))) ∷ [])
    ∷ (class.Known known.PacketsAndBytes ⇒ Put (action.Part (part.Member (member.CounterType counter.PacketsAndBytes))) ∷ [])
    ∷ []
part_rows part_word.MeterMember =
    (class.Known known.Packets ⇒ Put (action.Part (part.Member (member.MeterType meter.Packets))) ∷ [])
    ∷ (class.Known known.Bytes ⇒ Put (action.Part (part.Member (member.MeterType meter.Bytes))) ∷ [])
    ∷ []
part_rows part_word.CloneMember =
    (class.Known known.I2E ⇒ Put (action.Part (part.Member (member.CloneType clone.I2E))) ∷ [])
    ∷ (class.Known known.E2E ⇒ Put (action.Part (part.Member (member.CloneType clone.E2E))) ∷ [])
    ∷ []

abbrev pub part_otherwise : PartWord → Otherwise Action
part_otherwise part_word.TypeOf = Refuse
part_otherwise part_word.SizeOption = Build (action.Part part.NoLiteral)
part_otherwise part_word.FirstNote = Refuse
part_otherwise part_word.Notes = Pass
part_otherwise part_word.MoreNumbers = Pass
part_otherwise part_word.Param = Refuse
part_otherwise part_word.Params = Pass
part_otherwise part_word.MoreParams = Pass
part_otherwise part_word.Member = Refuse
part_otherwise part_word.HashMember = Refuse
part_otherwise part_word.CounterMember = Refuse
part_otherwise part_word.MeterMember = Refuse
part_otherwise part_word.CloneMember = Refuse

-- expressions and statements

abbrev pub body_rows : BodyWord → Rows
body_rows body_word.Exp = Like (word.Body body_word.Operand) (body_sym (body_word.Operators 0 11) ∷ []) ∷ []
body_rows body_word.Operand =
    (class.Number ⇒ Put (action.Body body.Number) ∷ body_sym body_word.Postfix ∷ [])
    ∷ (class.Word key.True ⇒ Put (action.Body (body.Truth true)) ∷ body_sym body_word.Postfix ∷ [])
    ∷ (class.Word key.False ⇒ Put (action.Body (body.Truth false)) ∷ body_sym body_word.Postfix ∷ [])
    ∷ (class.Word key.Error ⇒ Put (action.Body body.Error) ∷ body_sym body_word.Postfix ∷ [])
    ∷ (class.Name ⇒ Put (action.Body body.Name) ∷ body_sym body_word.Postfix ∷ [])
    ∷ (class.Mark mark.ParenOpen ⇒ body_sym body_word.AfterParen ∷ [])
    ∷ (class.Mark mark.Bang ⇒ body_sym body_word.Operand ∷ Put (action.Body (body.Unary unary.Not)) ∷ [])
    ∷ (class.Mark mark.Tilde ⇒ body_sym body_word.Operand ∷ Put (action.Body (body.Unary unary.Complement)) ∷ [])
    ∷ (class.Mark mark.Minus ⇒ body_sym body_word.Operand ∷ Put (action.Body (body.Unary unary.Negate)) ∷ [])
    ∷ []
body_rows body_word.PlainOperand =
    (class.Number ⇒ Put (action.Body body.Number) ∷ body_sym body_word.Postfix ∷ [])
    ∷ (class.Word key.True ⇒ Put (action.Body (body.Truth true)) ∷ body_sym body_word.Postfix ∷ [])
    ∷ (class.Word key.False ⇒ Put (action.Body (body.Truth false)) ∷ body_sym body_word.Postfix ∷ [])
    ∷ (class.Word key.Error ⇒ Put (action.Body body.Error) ∷ body_sym body_word.Postfix ∷ [])
    ∷ (class.Name ⇒ Put (action.Body body.Name) ∷ body_sym body_word.Postfix ∷ [])
    ∷ (class.Mark mark.Bang ⇒ body_sym body_word.Operand ∷ Put (action.Body (body.Unary unary.Not)) ∷ [])
    ∷ (class.Mark mark.Tilde ⇒ body_sym body_word.Operand ∷ Put (action.Body (body.Unary unary.Complement)) ∷ [])
    ∷ (class.Mark mark.Minus ⇒ body_sym body_word.Operand ∷ Put (action.Body (body.Unary unary.Negate)) ∷ [])
    ∷ []
body_rows body_word.AfterParen =
    (class.Word key.Bit ⇒ less ∷ a_number ∷ greater ∷ paren_close ∷ body_sym body_word.Operand ∷ Put (action.Body body.CastBit) ∷ [])
    ∷ (class.Word key.Bool ⇒ paren_close ∷ body_sym body_word.Operand ∷ Put (action.Body body.CastBool) ∷ [])
    ∷ Like (word.Body body_word.Operand) (body_sym (body_word.Operators 0 11) ∷ paren_close ∷ body_sym body_word.Postfix ∷ [])
    ∷ []
body_rows body_word.SomePostfix =
    (class.Mark mark.Dot ⇒ body_sym body_word.AfterDot ∷ body_sym body_word.Postfix ∷ [])
    ∷ (class.Mark mark.BracketOpen ⇒ a_number ∷ body_sym body_word.AfterNumber ∷ body_sym body_word.Postfix ∷ [])
    ∷ (class.Mark mark.ParenOpen ⇒ Put (action.Body body.NoArguments) ∷ body_sym body_word.Args ∷ paren_close ∷ Put (action.Body body.Call) ∷ body_sym body_word.Postfix ∷ [])
    ∷ []
body_rows body_word.Postfix = Like (word.Body body_word.SomePostfix) [] ∷ []
body_rows body_word.AfterDot =
    (class.Known known.Lookahead ⇒ body_sym body_word.AfterLookahead ∷ [])
    ∷ (class.AnyWord ⇒ Put (action.Body body.Member) ∷ [])
    ∷ []
body_rows body_word.AfterLookahead = (class.Opens ⇒ part_sym part_word.TypeOf ∷ greater ∷ paren_open ∷ Put (action.Body body.NoArguments) ∷ body_sym body_word.Args ∷ paren_close ∷ Put (action.Body body.Lookahead) ∷ []) ∷ []
body_rows body_word.AfterNumber =
    (class.Mark mark.BracketClose ⇒ Put (action.Body body.Index) ∷ [])
    ∷ (class.Mark mark.Colon ⇒ a_number ∷ bracket_close ∷ Put (action.Body body.Slice) ∷ [])
    ∷ []
body_rows body_word.Args =
    (class.Mark mark.BraceOpen ⇒ Put (action.Body body.NoArguments) ∷ body_sym body_word.Items ∷ brace_close ∷ Put (action.Body body.Listed) ∷ Put (action.Body body.AddArgument) ∷ body_sym body_word.MoreArgs ∷ [])
    ∷ Like (word.Body body_word.Operand) (body_sym (body_word.Operators 0 11) ∷ Put (action.Body body.AddArgument) ∷ body_sym body_word.MoreArgs ∷ [])
    ∷ []
body_rows body_word.Arg =
    (class.Mark mark.BraceOpen ⇒ Put (action.Body body.NoArguments) ∷ body_sym body_word.Items ∷ brace_close ∷ Put (action.Body body.Listed) ∷ Put (action.Body body.AddArgument) ∷ [])
    ∷ Like (word.Body body_word.Operand) (body_sym (body_word.Operators 0 11) ∷ Put (action.Body body.AddArgument) ∷ [])
    ∷ []
body_rows body_word.MoreArgs = (class.Mark mark.Comma ⇒ body_sym body_word.Arg ∷ body_sym body_word.MoreArgs ∷ []) ∷ []
body_rows body_word.Items = Like (word.Body body_word.Operand) (body_sym (body_word.Operators 0 11) ∷ Put (action.Body body.AddArgument) ∷ body_sym body_word.MoreItems ∷ []) ∷ []
body_rows body_word.MoreItems = (class.Mark mark.Comma ⇒ body_sym body_word.Exp ∷ Put (action.Body body.AddArgument) ∷ body_sym body_word.MoreItems ∷ []) ∷ []
body_rows (body_word.Operators least most) = operator_rows least most
body_rows body_word.SomeOperators = operator_rows 0 11
body_rows body_word.PlainStmt =
    (class.Mark mark.BraceOpen ⇒ Put (action.Body body.NoStatements) ∷ body_sym body_word.Stmts ∷ brace_close ∷ Put (action.Body body.Block) ∷ [])
    ∷ (class.Mark mark.Semicolon ⇒ Put (action.Body body.Empty) ∷ [])
    ∷ (class.Word key.Bit ⇒ less ∷ a_number ∷ greater ∷ Put (action.Part part.TypeBit) ∷ a_name ∷ body_sym body_word.VarEnd ∷ [])
    ∷ (class.Word key.Bool ⇒ Put (action.Part part.TypeBool) ∷ a_name ∷ body_sym body_word.VarEnd ∷ [])
    ∷ (class.Name ⇒ Put (action.Body body.Name) ∷ body_sym body_word.Postfix ∷ body_sym (body_word.Operators 0 11) ∷ body_sym body_word.NamedEnd ∷ [])
    ∷ (class.Word key.If ⇒ paren_open ∷ body_sym body_word.Exp ∷ paren_close ∷ body_sym body_word.Stmt ∷ body_sym body_word.ElseOption ∷ [])
    ∷ (class.Word key.Switch ⇒ paren_open ∷ a_name ∷ dot ∷ quoted key.Apply ∷ paren_open ∷ paren_close ∷ dot ∷ quoted key.ActionRun ∷ paren_close ∷ brace_open ∷ Put (action.Body body.NoCases) ∷ body_sym body_word.Cases ∷ brace_close ∷ Put (action.Body body.Switch) ∷ [])
    ∷ []
body_rows body_word.Stmt =
    Like (word.Body body_word.PlainStmt) []
    ∷ Like (word.Body body_word.Operand) (body_sym (body_word.Operators 0 11) ∷ body_sym body_word.StmtEnd ∷ [])
    ∷ []
body_rows body_word.Stmts =
    Like (word.Body body_word.PlainStmt) (Put (action.Body body.Then) ∷ body_sym body_word.Stmts ∷ [])
    ∷ Like (word.Body body_word.Operand) (body_sym (body_word.Operators 0 11) ∷ body_sym body_word.StmtEnd ∷ Put (action.Body body.Then) ∷ body_sym body_word.Stmts ∷ [])
    ∷ []
body_rows body_word.StmtEnd =
    (class.Mark mark.Assign ⇒ body_sym body_word.Exp ∷ semicolon ∷ Put (action.Body body.Assign) ∷ [])
    ∷ (class.CallEnd ⇒ Put (action.Body body.Expression) ∷ [])
    ∷ []
body_rows body_word.NamedEnd =
    (class.VarName ⇒ Put (action.Body body.TypeOfExp) ∷ body_sym body_word.VarEnd ∷ [])
    ∷ (class.Mark mark.Assign ⇒ body_sym body_word.Exp ∷ semicolon ∷ Put (action.Body body.Assign) ∷ [])
    ∷ (class.CallEnd ⇒ Put (action.Body body.Expression) ∷ [])
    ∷ []
body_rows body_word.VarEnd =
    (class.Mark mark.Assign ⇒ body_sym body_word.Exp ∷ semicolon ∷ Put (action.Body body.VarIs) ∷ [])
    ∷ (class.Mark mark.Semicolon ⇒ Put (action.Body body.Var) ∷ [])
    ∷ []
body_rows body_word.ElseOption = (class.Else ⇒ body_sym body_word.Stmt ∷ Put (action.Body body.IfElse) ∷ []) ∷ []
body_rows body_word.Cases =
    (class.Name ⇒ colon ∷ brace_open ∷ Put (action.Body body.NoStatements) ∷ body_sym body_word.Stmts ∷ brace_close ∷ Put (action.Body body.CaseAction) ∷ body_sym body_word.Cases ∷ [])
    ∷ (class.Word key.Default ⇒ colon ∷ brace_open ∷ Put (action.Body body.NoStatements) ∷ body_sym body_word.Stmts ∷ brace_close ∷ Put (action.Body body.CaseDefault) ∷ body_sym body_word.Cases ∷ [])
    ∷ []

abbrev pub body_otherwise : BodyWord → Otherwise Action
body_otherwise body_word.Exp = Refuse
body_otherwise body_word.Operand = Refuse
body_otherwise body_word.PlainOperand = Refuse
body_otherwise body_word.AfterParen = Refuse
body_otherwise body_word.SomePostfix = Refuse
body_otherwise body_word.Postfix = Pass
body_otherwise body_word.AfterDot = Refuse
body_otherwise body_word.AfterLookahead = Build (action.Body body.MemberLookahead)
body_otherwise body_word.AfterNumber = Refuse
body_otherwise body_word.Args = Pass
body_otherwise body_word.Arg = Refuse
body_otherwise body_word.MoreArgs = Pass
body_otherwise body_word.Items = Pass
body_otherwise body_word.MoreItems = Pass
body_otherwise (body_word.Operators least most) = Pass
body_otherwise body_word.SomeOperators = Refuse
body_otherwise body_word.PlainStmt = Refuse
body_otherwise body_word.Stmt = Refuse
body_otherwise body_word.Stmts = Pass
body_otherwise body_word.StmtEnd = Refuse
body_otherwise body_word.NamedEnd = Refuse
body_otherwise body_word.VarEnd = Refuse
body_otherwise body_word.ElseOption = Build (action.Body body.If)
body_otherwise body_word.Cases = Pass

-- parsers and their states

abbrev pub state_rows : StateWord → Rows
state_rows state_word.Target =
    (class.Name ⇒ Put (action.State state.TargetState) ∷ [])
    ∷ (class.Word key.Accept ⇒ Put (action.State state.TargetAccept) ∷ [])
    ∷ (class.Word key.Reject ⇒ Put (action.State state.TargetReject) ∷ [])
    ∷ []
state_rows state_word.Simple =
    (class.Word key.Default ⇒ Put (action.State state.SimpleDefault) ∷ [])
    ∷ (class.Word key.Underscore ⇒ Put (action.State state.SimpleAny) ∷ [])
    ∷ Like (word.Body body_word.Operand) (body_sym (body_word.Operators 0 11) ∷ state_sym state_word.SimpleEnd ∷ [])
    ∷ []
state_rows state_word.SimpleEnd =
    (class.Mark mark.Mask ⇒ Put (action.State state.TakeExp) ∷ body_sym body_word.Exp ∷ Put (action.State state.SimpleMask) ∷ [])
    ∷ (class.Mark mark.DotDot ⇒ Put (action.State state.TakeExp) ∷ body_sym body_word.Exp ∷ Put (action.State state.SimpleRange) ∷ [])
    ∷ []
state_rows state_word.MoreSimples = (class.Mark mark.Comma ⇒ state_sym state_word.Simple ∷ Put (action.State state.AddSimple) ∷ state_sym state_word.MoreSimples ∷ []) ∷ []
state_rows state_word.SelectCases =
    (class.Word key.Default ⇒ Put (action.State state.SimpleDefault) ∷ Put (action.State state.KeysetOne) ∷ colon ∷ state_sym state_word.Target ∷ semicolon ∷ Put (action.State state.AddCase) ∷ state_sym state_word.SelectCases ∷ [])
    ∷ (class.Word key.Underscore ⇒ Put (action.State state.SimpleAny) ∷ Put (action.State state.KeysetOne) ∷ colon ∷ state_sym state_word.Target ∷ semicolon ∷ Put (action.State state.AddCase) ∷ state_sym state_word.SelectCases ∷ [])
    ∷ (class.Mark mark.ParenOpen ⇒ state_sym state_word.KeysetParen ∷ colon ∷ state_sym state_word.Target ∷ semicolon ∷ Put (action.State state.AddCase) ∷ state_sym state_word.SelectCases ∷ [])
    ∷ Like (word.Body body_word.PlainOperand) (body_sym (body_word.Operators 0 11) ∷ state_sym state_word.SimpleEnd ∷ Put (action.State state.KeysetOne) ∷ colon ∷ state_sym state_word.Target ∷ semicolon ∷ Put (action.State state.AddCase) ∷ state_sym state_word.SelectCases ∷ [])
    ∷ []
state_rows state_word.KeysetParen =
    (class.Word key.Default ⇒ Put (action.State state.SimpleDefault) ∷ Put (action.State state.OneSimple) ∷ state_sym state_word.MoreSimples ∷ paren_close ∷ Put (action.State state.KeysetTuple) ∷ [])
    ∷ (class.Word key.Underscore ⇒ Put (action.State state.SimpleAny) ∷ Put (action.State state.OneSimple) ∷ state_sym state_word.MoreSimples ∷ paren_close ∷ Put (action.State state.KeysetTuple) ∷ [])
    ∷ (class.Word key.Bit ⇒ less ∷ a_number ∷ greater ∷ paren_close ∷ body_sym body_word.Operand ∷ Put (action.Body body.CastBit) ∷ body_sym (body_word.Operators 0 11) ∷ state_sym state_word.SimpleEnd ∷ Put (action.State state.KeysetOne) ∷ [])
    ∷ (class.Word key.Bool ⇒ paren_close ∷ body_sym body_word.Operand ∷ Put (action.Body body.CastBool) ∷ body_sym (body_word.Operators 0 11) ∷ state_sym state_word.SimpleEnd ∷ Put (action.State state.KeysetOne) ∷ [])
    ∷ Like (word.Body body_word.Operand) (body_sym (body_word.Operators 0 11) ∷ state_sym state_word.KeysetParenEnd ∷ [])
    ∷ []
state_rows state_word.KeysetParenEnd =
    (class.Mark mark.Mask ⇒ Put (action.State state.TakeExp) ∷ body_sym body_word.Exp ∷ Put (action.State state.SimpleMask) ∷ Put (action.State state.OneSimple) ∷ state_sym state_word.MoreSimples ∷ paren_close ∷ Put (action.State state.KeysetTuple) ∷ [])
    ∷ (class.Mark mark.DotDot ⇒ Put (action.State state.TakeExp) ∷ body_sym body_word.Exp ∷ Put (action.State state.SimpleRange) ∷ Put (action.State state.OneSimple) ∷ state_sym state_word.MoreSimples ∷ paren_close ∷ Put (action.State state.KeysetTuple) ∷ [])
    ∷ (class.Mark mark.Comma ⇒ Put (action.State state.SimpleValue) ∷ Put (action.State state.OneSimple) ∷ state_sym state_word.Simple ∷ Put (action.State state.AddSimple) ∷ state_sym state_word.MoreSimples ∷ paren_close ∷ Put (action.State state.KeysetTuple) ∷ [])
    ∷ (class.Mark mark.ParenClose ⇒ state_sym state_word.AfterKeysetParen ∷ [])
    ∷ []
state_rows state_word.AfterKeysetParen =
    (class.Mark mark.Mask ⇒ Put (action.State state.TakeExp) ∷ body_sym body_word.Exp ∷ Put (action.State state.SimpleMask) ∷ Put (action.State state.KeysetOne) ∷ [])
    ∷ (class.Mark mark.DotDot ⇒ Put (action.State state.TakeExp) ∷ body_sym body_word.Exp ∷ Put (action.State state.SimpleRange) ∷ Put (action.State state.KeysetOne) ∷ [])
    ∷ Like (word.Body body_word.SomePostfix) (body_sym (body_word.Operators 0 11) ∷ state_sym state_word.SimpleEnd ∷ Put (action.State state.KeysetOne) ∷ [])
    ∷ Like (word.Body body_word.SomeOperators) (state_sym state_word.SimpleEnd ∷ Put (action.State state.KeysetOne) ∷ [])
    ∷ []
state_rows state_word.Transition = (class.Word key.Transition ⇒ state_sym state_word.AfterTransition ∷ []) ∷ []
state_rows state_word.AfterTransition =
    (class.Word key.Select ⇒ paren_open ∷ Put (action.State state.NoExps) ∷ body_sym body_word.Exp ∷ Put (action.State state.AddExp) ∷ state_sym state_word.MoreExps ∷ paren_close ∷ brace_open ∷ Put (action.State state.NoCases) ∷ state_sym state_word.SelectCases ∷ brace_close ∷ Put (action.State state.Select) ∷ [])
    ∷ Like (word.State state_word.Target) (semicolon ∷ Put (action.State state.Go) ∷ [])
    ∷ []
state_rows state_word.MoreExps = (class.Mark mark.Comma ⇒ body_sym body_word.Exp ∷ Put (action.State state.AddExp) ∷ state_sym state_word.MoreExps ∷ []) ∷ []
state_rows state_word.Vars = Like (word.Part part_word.TypeOf) (a_name ∷ state_sym state_word.InitialOption ∷ semicolon ∷ Put (action.State state.AddVar) ∷ state_sym state_word.Vars ∷ []) ∷ []
state_rows state_word.InitialOption = (class.Mark mark.Assign ⇒ body_sym body_word.Exp ∷ Put (action.State state.SomeExp) ∷ []) ∷ []
state_rows state_word.States = (class.Word key.State ⇒ a_name ∷ brace_open ∷ Put (action.Body body.NoStatements) ∷ body_sym body_word.Stmts ∷ Put (action.State state.TakeBlock) ∷ state_sym state_word.Transition ∷ brace_close ∷ Put (action.State state.AddState) ∷ state_sym state_word.States ∷ []) ∷ []

abbrev pub state_otherwise : StateWord → Otherwise Action
state_otherwise state_word.Target = Refuse
state_otherwise state_word.Simple = Refuse
state_otherwise state_word.SimpleEnd = Build (action.State state.SimpleValue)
state_otherwise state_word.MoreSimples = Pass
state_otherwise state_word.SelectCases = Pass
state_otherwise state_word.KeysetParen = Refuse
state_otherwise state_word.KeysetParenEnd = Refuse
state_otherwise state_word.AfterKeysetParen = Build (action.State state.TupleOfOne)
state_otherwise state_word.Transition = Refuse
state_otherwise state_word.AfterTransition = Refuse
state_otherwise state_word.MoreExps = Pass
state_otherwise state_word.Vars = Pass
state_otherwise state_word.InitialOption = Build (action.State state.NoExp)
state_otherwise state_word.States = Pass

-- controls

abbrev pub control_rows : ControlWord → Rows
control_rows control_word.Instance =
    (class.Word key.Counter ⇒ paren_open ∷ body_sym body_word.Exp ∷ Put (action.State state.TakeExp) ∷ comma ∷ part_sym part_word.Member ∷ paren_close ∷ a_name ∷ Put (action.Control control.Counter) ∷ [])
    ∷ (class.Word key.DirectCounter ⇒ paren_open ∷ part_sym part_word.Member ∷ paren_close ∷ a_name ∷ Put (action.Control control.DirectCounter) ∷ [])
    ∷ (class.Word key.Register ⇒ less ∷ quoted key.Bit ∷ less ∷ a_number ∷ greater ∷ greater ∷ paren_open ∷ body_sym body_word.Exp ∷ Put (action.State state.TakeExp) ∷ paren_close ∷ a_name ∷ Put (action.Control control.Register) ∷ [])
    ∷ (class.Word key.Meter ⇒ paren_open ∷ body_sym body_word.Exp ∷ Put (action.State state.TakeExp) ∷ comma ∷ part_sym part_word.Member ∷ paren_close ∷ a_name ∷ Put (action.Control control.Meter) ∷ [])
    ∷ []
control_rows control_word.ActionDecl = (class.Word key.Action ⇒ a_name ∷ paren_open ∷ Put (action.Part part.NoParams) ∷ part_sym part_word.Params ∷ paren_close ∷ brace_open ∷ Put (action.Body body.NoStatements) ∷ body_sym body_word.Stmts ∷ brace_close ∷ Put (action.State state.TakeBlock) ∷ []) ∷ []
control_rows control_word.TableDecl = (class.Word key.Table ⇒ a_name ∷ brace_open ∷ Put (action.Control control.NoProperties) ∷ control_sym control_word.Properties ∷ brace_close ∷ []) ∷ []
control_rows control_word.Property =
    (class.NewProperty key.Key ⇒ assign ∷ brace_open ∷ Put (action.Control control.NoKeys) ∷ control_sym control_word.Keys ∷ brace_close ∷ Put (action.Control control.AddKeys) ∷ [])
    ∷ (class.NewProperty key.Size ⇒ assign ∷ a_number ∷ semicolon ∷ Put (action.Control control.AddSize) ∷ [])
    ∷ (class.NewProperty key.Counters ⇒ assign ∷ a_name ∷ semicolon ∷ Put (action.Control control.AddCounters) ∷ [])
    ∷ (class.NewProperty key.DefaultAction ⇒ assign ∷ control_sym control_word.ActionRef ∷ paren_open ∷ Put (action.Body body.NoArguments) ∷ body_sym body_word.Items ∷ paren_close ∷ semicolon ∷ Put (action.Control control.AddDefault) ∷ [])
    ∷ []
control_rows control_word.Properties =
    (class.Word key.Actions ⇒ assign ∷ brace_open ∷ Put (action.Control control.NoNames) ∷ control_sym control_word.ActionRef ∷ semicolon ∷ Put (action.Control control.AddName) ∷ control_sym control_word.ActionLines ∷ brace_close ∷ Put (action.Control control.AddActions) ∷ control_sym control_word.MoreProperties ∷ [])
    ∷ Like (word.Control control_word.Property) (control_sym control_word.Properties ∷ [])
    ∷ []
control_rows control_word.MoreProperties =
    (class.NewProperty key.Actions ⇒ assign ∷ brace_open ∷ Put (action.Control control.NoNames) ∷ control_sym control_word.ActionRef ∷ semicolon ∷ Put (action.Control control.AddName) ∷ control_sym control_word.ActionLines ∷ brace_close ∷ Put (action.Control control.AddActions) ∷ control_sym control_word.MoreProperties ∷ [])
    ∷ Like (word.Control control_word.Property) (control_sym control_word.MoreProperties ∷ [])
    ∷ []
control_rows control_word.ActionRef =
    (class.Name ⇒ Put (action.Control control.Declared) ∷ [])
    ∷ (class.Word key.NoAction ⇒ Put (action.Control control.NoAction) ∷ [])
    ∷ []
control_rows control_word.ActionLines = Like (word.Control control_word.ActionRef) (semicolon ∷ Put (action.Control control.AddName) ∷ control_sym control_word.ActionLines ∷ []) ∷ []
control_rows control_word.Keys = Like (word.Body body_word.Operand) (body_sym (body_word.Operators 0 11) ∷ Put (action.State state.TakeExp) ∷ colon ∷ a_name ∷ Put (action.Part part.NoNotes) ∷ part_sym part_word.Notes ∷ semicolon ∷ Put (action.Control control.AddKey) ∷ control_sym control_word.Keys ∷ []) ∷ []
control_rows control_word.Noted =
    Like (word.Control control_word.Instance) (semicolon ∷ Put (action.Control control.AddObject) ∷ [])
    ∷ Like (word.Control control_word.ActionDecl) (Put (action.Control control.AddAction) ∷ [])
    ∷ Like (word.Control control_word.TableDecl) (Put (action.Control control.AddTable) ∷ [])
    ∷ []
control_rows control_word.Locals =
    Like (word.Part part_word.TypeOf) (a_name ∷ state_sym state_word.InitialOption ∷ semicolon ∷ Put (action.Control control.AddVar) ∷ control_sym control_word.Locals ∷ [])
    ∷ Like (word.Control control_word.Instance) (semicolon ∷ Put (action.Part part.NoNotes) ∷ Put (action.Control control.AddObject) ∷ control_sym control_word.Locals ∷ [])
    ∷ Like (word.Control control_word.ActionDecl) (Put (action.Part part.NoNotes) ∷ Put (action.Control control.AddAction) ∷ control_sym control_word.Locals ∷ [])
    ∷ Like (word.Control control_word.TableDecl) (Put (action.Part part.NoNotes) ∷ Put (action.Control control.AddTable) ∷ control_sym control_word.Locals ∷ [])
    ∷ Like (word.Part part_word.FirstNote) (part_sym part_word.Notes ∷ control_sym control_word.Noted ∷ control_sym control_word.Locals ∷ [])
    ∷ []

abbrev pub control_otherwise : ControlWord → Otherwise Action
control_otherwise control_word.Instance = Refuse
control_otherwise control_word.ActionDecl = Refuse
control_otherwise control_word.TableDecl = Refuse
control_otherwise control_word.Property = Refuse
control_otherwise control_word.Properties = Refuse
control_otherwise control_word.MoreProperties = Pass
control_otherwise control_word.ActionRef = Refuse
control_otherwise control_word.ActionLines = Pass
control_otherwise control_word.Keys = Pass
control_otherwise control_word.Noted = Refuse
control_otherwise control_word.Locals = Pass

-- declarations

abbrev pub decl_rows : DeclWord → Rows
decl_rows decl_word.Program = (class.Include include.Core ⇒ Token (class.Include include.V1Model) ∷ decl_sym decl_word.Decls ∷ []) ∷ []
decl_rows decl_word.Decls =
    (class.Word key.Header ⇒ a_name ∷ brace_open ∷ Put (action.Decl declare.NoBitFields) ∷ decl_sym decl_word.BitFields ∷ brace_close ∷ Put (action.Decl declare.Header) ∷ decl_sym decl_word.Decls ∷ [])
    ∷ (class.Word key.Struct ⇒ a_name ∷ brace_open ∷ Put (action.Decl declare.NoFields) ∷ decl_sym decl_word.Fields ∷ brace_close ∷ Put (action.Decl declare.Struct) ∷ decl_sym decl_word.Decls ∷ [])
    ∷ (class.Word key.Parser ⇒ a_name ∷ paren_open ∷ Put (action.Part part.NoParams) ∷ part_sym part_word.Param ∷ part_sym part_word.MoreParams ∷ paren_close ∷ brace_open ∷ Put (action.State state.NoVars) ∷ state_sym state_word.Vars ∷ Put (action.State state.NoStates) ∷ state_sym state_word.States ∷ brace_close ∷ Put (action.Decl declare.Parser) ∷ decl_sym decl_word.Decls ∷ [])
    ∷ (class.Word key.Control ⇒ a_name ∷ paren_open ∷ Put (action.Part part.NoParams) ∷ part_sym part_word.Param ∷ part_sym part_word.MoreParams ∷ paren_close ∷ brace_open ∷ Put (action.Control control.NoLocals) ∷ control_sym control_word.Locals ∷ quoted key.Apply ∷ brace_open ∷ Put (action.Body body.NoStatements) ∷ body_sym body_word.Stmts ∷ brace_close ∷ Put (action.State state.TakeBlock) ∷ brace_close ∷ Put (action.Decl declare.Control) ∷ decl_sym decl_word.Decls ∷ [])
    ∷ (class.Word key.V1Switch ⇒ paren_open ∷ a_name ∷ paren_open ∷ paren_close ∷ Put (action.Decl declare.AddBlock) ∷ decl_sym decl_word.MoreBlocks ∷ paren_close ∷ quoted key.Main ∷ semicolon ∷ [])
    ∷ Like (word.Control control_word.Instance) (semicolon ∷ Put (action.Part part.NoNotes) ∷ Put (action.Decl declare.Object) ∷ decl_sym decl_word.Decls ∷ [])
    ∷ Like (word.Part part_word.FirstNote) (part_sym part_word.Notes ∷ control_sym control_word.Instance ∷ semicolon ∷ Put (action.Decl declare.Object) ∷ decl_sym decl_word.Decls ∷ [])
    ∷ []
decl_rows decl_word.BitFields = (class.Word key.Bit ⇒ less ∷ a_number ∷ greater ∷ a_name ∷ semicolon ∷ Put (action.Decl declare.AddBitField) ∷ decl_sym decl_word.BitFields ∷ []) ∷ []
decl_rows decl_word.Fields =
    Like (word.Part part_word.TypeOf) (a_name ∷ semicolon ∷ Put (action.Part part.NoNotes) ∷ Put (action.Decl declare.AddField) ∷ decl_sym decl_word.Fields ∷ [])
    ∷ Like (word.Part part_word.FirstNote) (part_sym part_word.Notes ∷ part_sym part_word.TypeOf ∷ a_name ∷ semicolon ∷ Put (action.Decl declare.AddField) ∷ decl_sym decl_word.Fields ∷ [])
    ∷ []
decl_rows decl_word.MoreBlocks = (class.Mark mark.Comma ⇒ a_name ∷ paren_open ∷ paren_close ∷ Put (action.Decl declare.AddBlock) ∷ decl_sym decl_word.MoreBlocks ∷ []) ∷ []

abbrev pub decl_otherwise : DeclWord → Otherwise Action
decl_otherwise decl_word.Program = Refuse
decl_otherwise decl_word.Decls = Refuse
decl_otherwise decl_word.BitFields = Pass
decl_otherwise decl_word.Fields = Pass
decl_otherwise decl_word.MoreBlocks = Pass

abbrev pub rows : Word → Rows
rows (word.Part w) = part_rows w
rows (word.Body w) = body_rows w
rows (word.State w) = state_rows w
rows (word.Control w) = control_rows w
rows (word.Decl w) = decl_rows w

abbrev pub otherwise : Word → Otherwise Action
otherwise (word.Part w) = part_otherwise w
otherwise (word.Body w) = body_otherwise w
otherwise (word.State w) = state_otherwise w
otherwise (word.Control w) = control_otherwise w
otherwise (word.Decl w) = decl_otherwise w

abbrev pub grammar16 : Grammar Class Action Word Seen16 Built
grammar16 = record { accepts = accepts; shift = shift; put = put; rows = rows; otherwise = otherwise }
