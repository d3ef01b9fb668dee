-- The grammar of P4_14 as rows: what each word may begin with, and what follows. A word of the grammar that several lines
-- begin with alike is read to the point where they part, so each row is known by one token (P4_14 1.0.5, "Summary of P4
-- BNF").
use Rattle.std.specs.Prelude.{ℕ, suc, true, false, List, [], ◌∷◌, ◌++◌, Option, Some, None}
use Rattle.predictive_parser.specs.declared.symbol.Symbol.{Symbol}
use Rattle.predictive_parser.specs.declared.symbol.Symbol.TheVariants.{Token, Put}
use Rattle.predictive_parser.specs.declared.symbol.Symbol.TheVariants as symbol
use Rattle.predictive_parser.specs.declared.symbol.Otherwise.{Otherwise}
use Rattle.predictive_parser.specs.declared.symbol.Otherwise.TheVariants.{Refuse, Pass, Build}
use Rattle.predictive_parser.specs.Grammar.{Row, Plain, Like, ◌⇒◌, Grammar}
use Rattle.p414_syntax.specs.declared.lexeme.Lexeme.{Lexeme}
use Rattle.p414_syntax.specs.declared.mark.Mark.TheVariants.{BraceOpen, BraceClose, ParenOpen, ParenClose, BracketOpen, BracketClose, Semicolon, Colon, Comma, Dot, Equal, Plus, Minus, Star}
use Rattle.p414_syntax.specs.declared.parts.Sign.TheVariants as sign
use Rattle.p414_syntax.specs.declared.calculations.CalcUse.TheVariants as calc_use
use Rattle.p414_syntax.specs.declared.objects.CounterType.TheVariants as counter_type
use Rattle.p414_syntax.specs.declared.node.UnaryOperator.{UnaryOperator}
use Rattle.p414_syntax.specs.declared.node.BinaryOperator.{BinaryOperator}
use Rattle.p414_syntax.specs.declared.syntax.LeftOutKind.{LeftOutKind}
use Rattle.p414_syntax.specs.declared.syntax.LeftOutKind.TheVariants as left_out
use Rattle.p414_syntax.specs.Operators.{unary_power, binary_power}
use Rattle.predictive_parser.specs.Operators.{behind_prefix, behind_infix}
use Rattle.p414_syntax.specs.declared.keyword.Keyword.{Keyword}
use Rattle.p414_syntax.specs.declared.keyword.Keyword.TheVariants as key
use Rattle.p414_reader.specs.declared.symbols.Class.{Class}
use Rattle.p414_reader.specs.declared.symbols.Class.TheVariants.{Name, Number, ExpressionName, NewTail, NewTableAttr, NewStateAttr, NewLabel, Infix, Prefix, GroupToken, GroupOpen, GroupClose}
use Rattle.p414_reader.specs.declared.symbols.Class.TheVariants as class
use Rattle.p414_reader.specs.declared.symbols.Action.{Action}
use Rattle.p414_reader.specs.declared.symbols.Action.TheVariants as action
use Rattle.p414_reader.specs.declared.symbols.PartAction.TheVariants as part
use Rattle.p414_reader.specs.declared.symbols.HeaderAction.TheVariants as header
use Rattle.p414_reader.specs.declared.symbols.CalculationAction.TheVariants as calculation
use Rattle.p414_reader.specs.declared.symbols.StateAction.TheVariants as state
use Rattle.p414_reader.specs.declared.symbols.CallAction.TheVariants as called
use Rattle.p414_reader.specs.declared.symbols.TableAction.TheVariants as table
use Rattle.p414_reader.specs.declared.symbols.ObjectAction.TheVariants as object
use Rattle.p414_reader.specs.declared.symbols.BodyAction.TheVariants as body
use Rattle.p414_reader.specs.declared.symbols.DeclKind.{DeclKind}
use Rattle.p414_reader.specs.declared.symbols.DeclKind.TheVariants as kind
use Rattle.p414_reader.specs.declared.symbols.Word.{Word}
use Rattle.p414_reader.specs.declared.symbols.Word.TheVariants as word
use Rattle.p414_reader.specs.declared.symbols.PartWord.{PartWord}
use Rattle.p414_reader.specs.declared.symbols.PartWord.TheVariants.{MoreNames, NameLines, IndexOption, IndexIn, Inst, FieldOption, Ref, Arguments, NumberList, MoreNumbers, MaskOption}
use Rattle.p414_reader.specs.declared.symbols.PartWord.TheVariants as part_word
use Rattle.p414_reader.specs.declared.symbols.HeaderWord.{HeaderWord}
use Rattle.p414_reader.specs.declared.symbols.HeaderWord.TheVariants as header_word
use Rattle.p414_reader.specs.declared.symbols.CalculationWord.{CalculationWord}
use Rattle.p414_reader.specs.declared.symbols.CalculationWord.TheVariants as calculation_word
use Rattle.p414_reader.specs.declared.symbols.StateWord.{StateWord}
use Rattle.p414_reader.specs.declared.symbols.StateWord.TheVariants as state_word
use Rattle.p414_reader.specs.declared.symbols.CallWord.{CallWord}
use Rattle.p414_reader.specs.declared.symbols.CallWord.TheVariants as call_word
use Rattle.p414_reader.specs.declared.symbols.TableWord.{TableWord}
use Rattle.p414_reader.specs.declared.symbols.TableWord.TheVariants as table_word
use Rattle.p414_reader.specs.declared.symbols.ObjectWord.{ObjectWord}
use Rattle.p414_reader.specs.declared.symbols.ObjectWord.TheVariants as object_word
use Rattle.p414_reader.specs.declared.symbols.BodyWord.{BodyWord}
use Rattle.p414_reader.specs.declared.symbols.BodyWord.TheVariants.{Expr, Operators, ExprInst, AfterApply, ApplyEnd, AfterIf, ElseOption, AfterElse, Branches}
use Rattle.p414_reader.specs.declared.symbols.BodyWord.TheVariants as body_word
use Rattle.p414_reader.specs.declared.built.Built.{Built}
use Rattle.p414_reader.specs.internal.Classes.{accepts, shift, prefix_of, infix_of}
use Rattle.p414_reader.specs.internal.Actions.{put}

abbrev pub Sym : Type 0
Sym = Symbol Class Action Word

abbrev pub Rows : Type 0
Rows = List (Row Class Action Word Lexeme)

-- short forms of symbols

abbrev pub brace_open : Sym
brace_open = Token (class.Mark BraceOpen)

abbrev pub brace_close : Sym
brace_close = Token (class.Mark BraceClose)

abbrev pub paren_open : Sym
paren_open = Token (class.Mark ParenOpen)

abbrev pub paren_close : Sym
paren_close = Token (class.Mark ParenClose)

abbrev pub bracket_close : Sym
bracket_close = Token (class.Mark BracketClose)

abbrev pub semicolon : Sym
semicolon = Token (class.Mark Semicolon)

abbrev pub colon : Sym
colon = Token (class.Mark Colon)

abbrev pub comma : Sym
comma = Token (class.Mark Comma)

abbrev pub dot : Sym
dot = Token (class.Mark Dot)

abbrev pub equal : Sym
equal = Token (class.Mark Equal)

abbrev pub a_name : Sym
a_name = Token Name

abbrev pub a_number : Sym
a_number = Token Number

abbrev pub quoted : Keyword → Sym
quoted k = Token (class.Word k)

-- names, numbers, instances and fields

abbrev pub part_sym : PartWord → Sym
part_sym w = symbol.Word (word.Part w)

abbrev pub part_rows : PartWord → Rows
part_rows MoreNames = (class.Mark Comma ⇒ a_name ∷ Put (action.Part part.AddName) ∷ part_sym MoreNames ∷ []) ∷ []
part_rows NameLines = (Name ⇒ semicolon ∷ Put (action.Part part.AddName) ∷ part_sym NameLines ∷ []) ∷ []
part_rows IndexOption = (class.Mark BracketOpen ⇒ part_sym IndexIn ∷ bracket_close ∷ []) ∷ []
part_rows IndexIn =
    (Number ⇒ Put (action.Part part.IndexAt) ∷ [])
    ∷ (class.Word key.Next ⇒ Put (action.Part part.IndexNext) ∷ [])
    ∷ (class.Word key.Last ⇒ Put (action.Part part.IndexLast) ∷ [])
    ∷ []
part_rows Inst = (Name ⇒ part_sym IndexOption ∷ Put (action.Part part.Inst) ∷ []) ∷ []
part_rows FieldOption = (class.Mark Dot ⇒ a_name ∷ Put (action.Part part.SomeField) ∷ []) ∷ []
part_rows Ref = (Name ⇒ part_sym IndexOption ∷ Put (action.Part part.Inst) ∷ dot ∷ a_name ∷ Put (action.Part part.Ref) ∷ []) ∷ []
part_rows part_word.Number =
    (class.Mark Plus ⇒ a_number ∷ Put (action.Part (part.Number (Some sign.Plus))) ∷ [])
    ∷ (class.Mark Minus ⇒ a_number ∷ Put (action.Part (part.Number (Some sign.Minus))) ∷ [])
    ∷ (Number ⇒ Put (action.Part (part.Number None)) ∷ [])
    ∷ []
part_rows Arguments = (class.Mark ParenOpen ⇒ Put (action.Part part.EmptyArguments) ∷ part_sym NumberList ∷ paren_close ∷ []) ∷ []
part_rows NumberList = Like (word.Part part_word.Number) (Put (action.Part part.AddNumber) ∷ part_sym MoreNumbers ∷ []) ∷ []
part_rows MoreNumbers = (class.Mark Comma ⇒ part_sym part_word.Number ∷ Put (action.Part part.AddNumber) ∷ part_sym MoreNumbers ∷ []) ∷ []
part_rows MaskOption = (class.Word key.Mask ⇒ a_number ∷ Put (action.Part part.SomeLiteral) ∷ []) ∷ []

abbrev pub part_otherwise : PartWord → Otherwise Action
part_otherwise MoreNames = Pass
part_otherwise NameLines = Pass
part_otherwise IndexOption = Build (action.Part part.NoIndex)
part_otherwise IndexIn = Refuse
part_otherwise Inst = Refuse
part_otherwise FieldOption = Build (action.Part part.NoField)
part_otherwise Ref = Refuse
part_otherwise part_word.Number = Refuse
part_otherwise Arguments = Build (action.Part part.NoArguments)
part_otherwise NumberList = Pass
part_otherwise MoreNumbers = Pass
part_otherwise MaskOption = Build (action.Part part.NoLiteral)

-- an instance whose name is taken, or a field of it, where that may stand
abbrev pub place_rest : List Sym → List Sym
place_rest more = part_sym IndexOption ∷ Put (action.Part part.Inst) ∷ part_sym FieldOption ∷ more

-- header types, header instances and metadata

abbrev pub header_sym : HeaderWord → Sym
header_sym w = symbol.Word (word.Header w)

abbrev pub header_rows : HeaderWord → Rows
header_rows header_word.Fields =
    (Name ⇒ colon ∷ header_sym header_word.Width ∷ header_sym header_word.Attributes ∷ semicolon ∷ Put (action.Header header.AddField) ∷ header_sym header_word.Fields ∷ []) ∷ []
header_rows header_word.Width =
    (Number ⇒ Put (action.Header header.WidthBits) ∷ [])
    ∷ (class.Mark Star ⇒ Put (action.Header header.WidthRest) ∷ [])
    ∷ []
header_rows header_word.Attributes =
    (class.Mark ParenOpen ⇒ Put (action.Part part.NoNames) ∷ a_name ∷ Put (action.Part part.AddName) ∷ part_sym MoreNames ∷ paren_close ∷ []) ∷ []
header_rows header_word.Tails =
    (NewTail key.Length ⇒ colon ∷ symbol.Word (word.Body (Expr 0)) ∷ semicolon ∷ Put (action.Body body.AddLength) ∷ header_sym header_word.Tails ∷ [])
    ∷ (NewTail key.MaxLength ⇒ colon ∷ symbol.Word (word.Body (Expr 0)) ∷ semicolon ∷ Put (action.Body body.AddMaxLength) ∷ header_sym header_word.Tails ∷ [])
    ∷ []
header_rows header_word.Size = (class.Mark BracketOpen ⇒ a_number ∷ bracket_close ∷ Put (action.Part part.SomeLiteral) ∷ []) ∷ []
header_rows header_word.MetadataEnd =
    (class.Mark Semicolon ⇒ Put (action.Header header.NoInitials) ∷ [])
    ∷ (class.Mark BraceOpen ⇒ Put (action.Header header.EmptyInitials) ∷ header_sym header_word.Initials ∷ brace_close ∷ header_sym header_word.Semicolon ∷ [])
    ∷ []
header_rows header_word.Initials =
    (Name ⇒ colon ∷ part_sym part_word.Number ∷ semicolon ∷ Put (action.Header header.AddInitial) ∷ header_sym header_word.Initials ∷ []) ∷ []
header_rows header_word.Semicolon = (class.Mark Semicolon ⇒ Put (action.Header (header.SomeInitials true)) ∷ []) ∷ []

abbrev pub header_otherwise : HeaderWord → Otherwise Action
header_otherwise header_word.Fields = Pass
header_otherwise header_word.Width = Refuse
header_otherwise header_word.Attributes = Build (action.Part part.NoNames)
header_otherwise header_word.Tails = Pass
header_otherwise header_word.Size = Build (action.Part part.NoLiteral)
header_otherwise header_word.MetadataEnd = Refuse
header_otherwise header_word.Initials = Pass
header_otherwise header_word.Semicolon = Build (action.Header (header.SomeInitials false))

-- field lists, calculations and calculated fields

abbrev pub calculation_sym : CalculationWord → Sym
calculation_sym w = symbol.Word (word.Calculation w)

-- what stands behind a field in a condition
abbrev pub equal_rest : List Sym
equal_rest = equal ∷ a_number ∷ Put (action.Calculation calculation.CondEqual) ∷ []

abbrev pub calc_rest : Action → List Sym
calc_rest add = a_name ∷ calculation_sym calculation_word.CalcIf ∷ semicolon ∷ Put add ∷ []

abbrev pub calculation_rows : CalculationWord → Rows
calculation_rows calculation_word.Items =
    (Number ⇒ semicolon ∷ Put (action.Calculation calculation.AddItemNumber) ∷ calculation_sym calculation_word.Items ∷ [])
    ∷ (Name ⇒ place_rest (semicolon ∷ Put (action.Calculation calculation.AddItem) ∷ calculation_sym calculation_word.Items ∷ []))
    ∷ []
calculation_rows calculation_word.Calc =
    (class.Word key.Update ⇒ calc_rest (action.Calculation (calculation.AddCalc calc_use.Update)))
    ∷ (class.Word key.Verify ⇒ calc_rest (action.Calculation (calculation.AddCalc calc_use.Verify)))
    ∷ []
calculation_rows calculation_word.Calcs = Like (word.Calculation calculation_word.Calc) (calculation_sym calculation_word.Calcs ∷ []) ∷ []
calculation_rows calculation_word.CalcIf = (class.Word key.If ⇒ paren_open ∷ calculation_sym calculation_word.CalcCond ∷ paren_close ∷ []) ∷ []
calculation_rows calculation_word.CalcCond =
    (class.Word key.Valid ⇒ calculation_sym calculation_word.AfterValid ∷ [])
    ∷ (Name ⇒ part_sym IndexOption ∷ Put (action.Part part.Inst) ∷ dot ∷ a_name ∷ Put (action.Part part.Ref) ∷ equal_rest)
    ∷ []
calculation_rows calculation_word.AfterValid =
    (class.Mark ParenOpen ⇒ part_sym Inst ∷ paren_close ∷ Put (action.Calculation calculation.CondValid) ∷ [])
    ∷ (class.Mark Dot ⇒ a_name ∷ Put (action.Part (part.RefOf key.Valid)) ∷ equal_rest)
    ∷ (class.Mark BracketOpen ⇒ part_sym IndexIn ∷ bracket_close ∷ Put (action.Part (part.InstOf key.Valid)) ∷ dot ∷ a_name ∷ Put (action.Part part.Ref) ∷ equal_rest)
    ∷ []

abbrev pub calculation_otherwise : CalculationWord → Otherwise Action
calculation_otherwise calculation_word.Items = Pass
calculation_otherwise calculation_word.Calc = Refuse
calculation_otherwise calculation_word.Calcs = Pass
calculation_otherwise calculation_word.CalcIf = Build (action.Calculation calculation.NoCond)
calculation_otherwise calculation_word.CalcCond = Refuse
calculation_otherwise calculation_word.AfterValid = Refuse

-- parser states

abbrev pub state_sym : StateWord → Sym
state_sym w = symbol.Word (word.State w)

abbrev pub to_value : Sym
to_value = Put (action.State state.ValueField)

-- a field of the instance of this name, whose index is open
abbrev pub indexed_rest : Keyword → List Sym
indexed_rest k = part_sym IndexIn ∷ bracket_close ∷ Put (action.Part (part.InstOf k)) ∷ dot ∷ a_name ∷ Put (action.Part part.Ref) ∷ to_value ∷ []

abbrev pub case_rest : List Sym
case_rest = colon ∷ state_sym state_word.Target ∷ semicolon ∷ Put (action.State state.AddCase) ∷ []

abbrev pub masked_rest : List Sym
masked_rest = part_sym MaskOption ∷ Put (action.State state.AddMasked) ∷ state_sym state_word.MoreMasked ∷ []

abbrev pub state_rows : StateWord → Rows
state_rows state_word.Statements =
    (class.Word key.Extract ⇒ paren_open ∷ part_sym Inst ∷ paren_close ∷ semicolon ∷ Put (action.State state.AddExtract) ∷ state_sym state_word.Statements ∷ [])
    ∷ (class.Word key.SetMetadata ⇒ paren_open ∷ part_sym Ref ∷ comma ∷ state_sym state_word.Value ∷ paren_close ∷ semicolon ∷ Put (action.State state.AddSetMetadata) ∷ state_sym state_word.Statements ∷ [])
    ∷ []
state_rows state_word.Value =
    Like (word.Part part_word.Number) (Put (action.State state.ValueNumber) ∷ [])
    ∷ Like (word.State state_word.SelectValue) []
    ∷ []
state_rows state_word.SelectValue =
    (class.Word key.Current ⇒ state_sym state_word.AfterCurrent ∷ [])
    ∷ (class.Word key.Latest ⇒ state_sym state_word.AfterLatest ∷ [])
    ∷ (Name ⇒ part_sym IndexOption ∷ Put (action.Part part.Inst) ∷ dot ∷ a_name ∷ Put (action.Part part.Ref) ∷ to_value ∷ [])
    ∷ []
state_rows state_word.AfterCurrent =
    (class.Mark ParenOpen ⇒ a_number ∷ comma ∷ a_number ∷ paren_close ∷ Put (action.State state.ValueCurrent) ∷ [])
    ∷ (class.Mark Dot ⇒ a_name ∷ Put (action.Part (part.RefOf key.Current)) ∷ to_value ∷ [])
    ∷ (class.Mark BracketOpen ⇒ indexed_rest key.Current)
    ∷ []
state_rows state_word.AfterLatest =
    (class.Mark Dot ⇒ a_name ∷ Put (action.State state.ValueLatest) ∷ [])
    ∷ (class.Mark BracketOpen ⇒ indexed_rest key.Latest)
    ∷ []
state_rows state_word.MoreValues =
    (class.Mark Comma ⇒ state_sym state_word.SelectValue ∷ Put (action.State state.AddValue) ∷ state_sym state_word.MoreValues ∷ []) ∷ []
state_rows state_word.Return =
    (class.Word key.Return ⇒ state_sym state_word.AfterReturn ∷ [])
    ∷ (class.Word key.ParseError ⇒ a_name ∷ semicolon ∷ Put (action.State state.ReturnError) ∷ [])
    ∷ []
state_rows state_word.AfterReturn =
    (class.Word key.Select ⇒ state_sym state_word.AfterSelect ∷ [])
    ∷ (Name ⇒ semicolon ∷ Put (action.State state.ReturnState) ∷ [])
    ∷ []
state_rows state_word.AfterSelect =
    (class.Mark Semicolon ⇒ Put (action.State (state.ReturnStateOf key.Select)) ∷ [])
    ∷ (class.Mark ParenOpen ⇒
    Put (action.State state.NoValues) ∷ state_sym state_word.SelectValue ∷ Put (action.State state.AddValue) ∷ state_sym state_word.MoreValues ∷ paren_close
    ∷ brace_open ∷ Put (action.State state.NoCases) ∷ state_sym state_word.Case ∷ state_sym state_word.Cases ∷ brace_close ∷ Put (action.State state.ReturnSelect) ∷ [])
    ∷ []
state_rows state_word.Case =
    (class.Word key.Default ⇒ Put (action.State state.CaseDefault) ∷ case_rest)
    ∷ (Number ⇒ Put (action.State state.NoMasked) ∷ (masked_rest ++ Put (action.State state.CaseMasked) ∷ case_rest))
    ∷ []
state_rows state_word.Cases = Like (word.State state_word.Case) (state_sym state_word.Cases ∷ []) ∷ []
state_rows state_word.MoreMasked = (class.Mark Comma ⇒ a_number ∷ masked_rest) ∷ []
state_rows state_word.Target =
    (class.Word key.ParseError ⇒ state_sym state_word.AfterError ∷ [])
    ∷ (Name ⇒ Put (action.State state.TargetState) ∷ [])
    ∷ []
state_rows state_word.AfterError = (Name ⇒ Put (action.State state.TargetError) ∷ []) ∷ []

abbrev pub state_otherwise : StateWord → Otherwise Action
state_otherwise state_word.Statements = Pass
state_otherwise state_word.Value = Refuse
state_otherwise state_word.SelectValue = Refuse
state_otherwise state_word.AfterCurrent = Refuse
state_otherwise state_word.AfterLatest = Refuse
state_otherwise state_word.MoreValues = Pass
state_otherwise state_word.Return = Refuse
state_otherwise state_word.AfterReturn = Refuse
state_otherwise state_word.AfterSelect = Refuse
state_otherwise state_word.Case = Refuse
state_otherwise state_word.Cases = Pass
state_otherwise state_word.MoreMasked = Pass
state_otherwise state_word.Target = Refuse
state_otherwise state_word.AfterError = Build (action.State (state.TargetStateOf key.ParseError))

-- actions

abbrev pub call_sym : CallWord → Sym
call_sym w = symbol.Word (word.Call w)

abbrev pub call_rows : CallWord → Rows
call_rows call_word.Params = (Name ⇒ Put (action.Part part.AddName) ∷ part_sym MoreNames ∷ []) ∷ []
call_rows call_word.Calls =
    (Name ⇒ paren_open ∷ Put (action.Call called.NoArgs) ∷ call_sym call_word.Args ∷ paren_close ∷ semicolon ∷ Put (action.Call called.AddCall) ∷ call_sym call_word.Calls ∷ []) ∷ []
call_rows call_word.Arg =
    (class.Mark Plus ⇒ a_number ∷ Put (action.Part (part.Number (Some sign.Plus))) ∷ Put (action.Call called.AddArgNumber) ∷ [])
    ∷ (class.Mark Minus ⇒ a_number ∷ Put (action.Part (part.Number (Some sign.Minus))) ∷ Put (action.Call called.AddArgNumber) ∷ [])
    ∷ (Number ⇒ Put (action.Part (part.Number None)) ∷ Put (action.Call called.AddArgNumber) ∷ [])
    ∷ (Name ⇒ place_rest (Put (action.Call called.AddArg) ∷ []))
    ∷ []
call_rows call_word.Args = Like (word.Call call_word.Arg) (call_sym call_word.MoreArgs ∷ []) ∷ []
call_rows call_word.MoreArgs = (class.Mark Comma ⇒ call_sym call_word.Arg ∷ call_sym call_word.MoreArgs ∷ []) ∷ []

abbrev pub call_otherwise : CallWord → Otherwise Action
call_otherwise call_word.Params = Pass
call_otherwise call_word.Calls = Pass
call_otherwise call_word.Arg = Refuse
call_otherwise call_word.Args = Pass
call_otherwise call_word.MoreArgs = Pass

-- tables

abbrev pub table_sym : TableWord → Sym
table_sym w = symbol.Word (word.Table w)

abbrev pub actions_rest : List Sym
actions_rest =
    brace_open ∷ Put (action.Part part.NoNames) ∷ a_name ∷ semicolon ∷ Put (action.Part part.AddName) ∷ part_sym NameLines ∷ brace_close ∷ Put (action.Table table.AddActions) ∷ []

abbrev pub profile_rest : List Sym
profile_rest = colon ∷ a_name ∷ semicolon ∷ Put (action.Table table.AddProfile) ∷ []

abbrev pub number_rest : Action → List Sym
number_rest add = colon ∷ a_number ∷ semicolon ∷ Put add ∷ []

-- `actions` and `action_profile` have rows of their own wherever they may stand, so that `Attr` is never one of them
abbrev pub table_rows : TableWord → Rows
table_rows table_word.Attr =
    (NewTableAttr key.Reads ⇒ brace_open ∷ Put (action.Table table.NoReads) ∷ table_sym table_word.Reads ∷ brace_close ∷ Put (action.Table table.AddReads) ∷ [])
    ∷ (NewTableAttr key.MinSize ⇒ number_rest (action.Table table.AddMinSize))
    ∷ (NewTableAttr key.MaxSize ⇒ number_rest (action.Table table.AddMaxSize))
    ∷ (NewTableAttr key.Size ⇒ number_rest (action.Table table.AddSize))
    ∷ (NewTableAttr key.SupportTimeout ⇒ colon ∷ table_sym table_word.Timeout ∷ [])
    ∷ (NewTableAttr key.DefaultAction ⇒ colon ∷ a_name ∷ part_sym Arguments ∷ semicolon ∷ Put (action.Table table.AddDefaultAction) ∷ [])
    ∷ []
table_rows table_word.Attrs =
    (class.Word key.Actions ⇒ actions_rest ++ table_sym table_word.MoreAttrs ∷ [])
    ∷ (class.Word key.ActionProfile ⇒ profile_rest ++ table_sym table_word.MoreAttrs ∷ [])
    ∷ Like (word.Table table_word.Attr) (table_sym table_word.Attrs ∷ [])
    ∷ []
table_rows table_word.MoreAttrs =
    (NewTableAttr key.Actions ⇒ actions_rest ++ table_sym table_word.MoreAttrs ∷ [])
    ∷ (NewTableAttr key.ActionProfile ⇒ profile_rest ++ table_sym table_word.MoreAttrs ∷ [])
    ∷ Like (word.Table table_word.Attr) (table_sym table_word.MoreAttrs ∷ [])
    ∷ []
table_rows table_word.Timeout =
    (class.Word key.True ⇒ semicolon ∷ Put (action.Table (table.AddTimeout true)) ∷ [])
    ∷ (class.Word key.False ⇒ semicolon ∷ Put (action.Table (table.AddTimeout false)) ∷ [])
    ∷ []
table_rows table_word.Reads =
    (Name ⇒ place_rest (part_sym MaskOption ∷ colon ∷ a_name ∷ semicolon ∷ Put (action.Table table.AddRead) ∷ table_sym table_word.Reads ∷ [])) ∷ []

abbrev pub table_otherwise : TableWord → Otherwise Action
table_otherwise table_word.Attr = Refuse
table_otherwise table_word.Attrs = Refuse
table_otherwise table_word.MoreAttrs = Pass
table_otherwise table_word.Timeout = Refuse
table_otherwise table_word.Reads = Pass

-- counters, meters and registers

abbrev pub object_sym : ObjectWord → Sym
object_sym w = symbol.Word (word.Object w)

abbrev pub name_rest : Action → List Sym
name_rest add = colon ∷ a_name ∷ semicolon ∷ Put add ∷ []

abbrev pub type_rest : List Sym
type_rest = colon ∷ object_sym object_word.CounterType ∷ []

abbrev pub width_rest : List Sym
width_rest = number_rest (action.Object object.AddWidth)

abbrev pub layout_rest : List Sym
layout_rest = name_rest (action.Object object.AddLayout)

-- `type`, `width` and `layout` have rows of their own wherever they may stand, so that `Attr` is never one of them
abbrev pub object_rows : ObjectWord → Rows
object_rows object_word.Attr =
    (NewStateAttr key.Direct ⇒ name_rest (action.Object object.AddDirect))
    ∷ (NewStateAttr key.Static ⇒ name_rest (action.Object object.AddStatic))
    ∷ (NewStateAttr key.Result ⇒ colon ∷ part_sym Ref ∷ semicolon ∷ Put (action.Object object.AddResult) ∷ [])
    ∷ (NewStateAttr key.InstanceCount ⇒ number_rest (action.Object object.AddInstanceCount))
    ∷ (NewStateAttr key.MinWidth ⇒ number_rest (action.Object object.AddMinWidth))
    ∷ (NewStateAttr key.Saturating ⇒ semicolon ∷ Put (action.Object object.AddSaturating) ∷ [])
    ∷ (NewStateAttr key.Signed ⇒ semicolon ∷ Put (action.Object object.AddSigned) ∷ [])
    ∷ []
object_rows object_word.CounterAttrs =
    (class.Word key.Counts ⇒ type_rest ++ object_sym object_word.MoreAttrs ∷ [])
    ∷ (NewStateAttr key.Width ⇒ width_rest ++ object_sym object_word.CounterAttrs ∷ [])
    ∷ (NewStateAttr key.Layout ⇒ layout_rest ++ object_sym object_word.CounterAttrs ∷ [])
    ∷ Like (word.Object object_word.Attr) (object_sym object_word.CounterAttrs ∷ [])
    ∷ []
object_rows object_word.RegisterAttrs =
    (class.Word key.Width ⇒ width_rest ++ object_sym object_word.MoreAttrs ∷ [])
    ∷ (class.Word key.Layout ⇒ layout_rest ++ object_sym object_word.MoreAttrs ∷ [])
    ∷ (NewStateAttr key.Counts ⇒ type_rest ++ object_sym object_word.RegisterAttrs ∷ [])
    ∷ Like (word.Object object_word.Attr) (object_sym object_word.RegisterAttrs ∷ [])
    ∷ []
object_rows object_word.MoreAttrs =
    (NewStateAttr key.Counts ⇒ type_rest ++ object_sym object_word.MoreAttrs ∷ [])
    ∷ (NewStateAttr key.Width ⇒ width_rest ++ object_sym object_word.MoreAttrs ∷ [])
    ∷ (NewStateAttr key.Layout ⇒ layout_rest ++ object_sym object_word.MoreAttrs ∷ [])
    ∷ Like (word.Object object_word.Attr) (object_sym object_word.MoreAttrs ∷ [])
    ∷ []
object_rows object_word.CounterType =
    (class.Word key.Packets ⇒ semicolon ∷ Put (action.Object (object.AddCounts counter_type.Packets)) ∷ [])
    ∷ (class.Word key.Bytes ⇒ semicolon ∷ Put (action.Object (object.AddCounts counter_type.Bytes)) ∷ [])
    ∷ (class.Word key.PacketsAndBytes ⇒ semicolon ∷ Put (action.Object (object.AddCounts counter_type.PacketsAndBytes)) ∷ [])
    ∷ []

abbrev pub object_otherwise : ObjectWord → Otherwise Action
object_otherwise object_word.Attr = Refuse
object_otherwise object_word.CounterAttrs = Refuse
object_otherwise object_word.RegisterAttrs = Refuse
object_otherwise object_word.MoreAttrs = Pass
object_otherwise object_word.CounterType = Refuse

-- expressions and controls

abbrev pub body_sym : BodyWord → Sym
body_sym w = symbol.Word (word.Body w)

-- behind an operand
abbrev pub operand_rest : ℕ → List Sym
operand_rest least = body_sym (Operators least 12) ∷ []

abbrev pub prefix_rest : ℕ → Option UnaryOperator → List Sym
prefix_rest least None = []
prefix_rest least (Some operator) =
    behind_prefix (λ power. word.Body (Expr power)) (λ least most. word.Body (Operators least most)) least (unary_power operator) (action.Body (body.Unary operator))

abbrev pub infix_rest : ℕ → Option BinaryOperator → List Sym
infix_rest least None = []
infix_rest least (Some operator) =
    behind_infix (λ power. word.Body (Expr power)) (λ least most. word.Body (Operators least most)) least (binary_power operator) (action.Body (body.Binary operator))

-- a block of statements, whose brace is to open
abbrev pub block_sym : List Sym → List Sym
block_sym more = brace_open ∷ Put (action.Body body.NoStatements) ∷ body_sym body_word.Statements ∷ brace_close ∷ more

abbrev pub body_rows : BodyWord → Rows
body_rows (Expr least) =
    (Number ⇒ Put (action.Body body.Number) ∷ operand_rest least)
    ∷ (class.Word key.True ⇒ Put (action.Body (body.Truth true)) ∷ operand_rest least)
    ∷ (class.Word key.False ⇒ Put (action.Body (body.Truth false)) ∷ operand_rest least)
    ∷ (class.Word key.Valid ⇒ paren_open ∷ body_sym ExprInst ∷ paren_close ∷ Put (action.Body body.Valid) ∷ operand_rest least)
    ∷ (class.Mark ParenOpen ⇒ body_sym (Expr 0) ∷ paren_close ∷ Put (action.Body body.Parenthesized) ∷ operand_rest least)
    ∷ Plain (Prefix least) (λ token. prefix_rest least (prefix_of token))
    ∷ (ExpressionName ⇒ part_sym IndexOption ∷ Put (action.Part part.Inst) ∷ dot ∷ Token ExpressionName ∷ Put (action.Part part.Ref) ∷ Put (action.Body body.Field) ∷ operand_rest least)
    ∷ []
body_rows (Operators least most) = Plain (Infix least most) (λ token. infix_rest least (infix_of token)) ∷ []
body_rows ExprInst = (ExpressionName ⇒ part_sym IndexOption ∷ Put (action.Part part.Inst) ∷ []) ∷ []
body_rows body_word.Statements =
    (class.Word key.Apply ⇒ paren_open ∷ body_sym AfterApply ∷ body_sym body_word.Statements ∷ [])
    ∷ (class.Word key.If ⇒ paren_open ∷ body_sym AfterIf ∷ body_sym body_word.Statements ∷ [])
    ∷ (Name ⇒ paren_open ∷ paren_close ∷ semicolon ∷ Put (action.Body body.AddCall) ∷ body_sym body_word.Statements ∷ [])
    ∷ []
body_rows AfterApply =
    (class.Mark ParenClose ⇒ semicolon ∷ Put (action.Body (body.AddCallOf key.Apply)) ∷ [])
    ∷ (Name ⇒ paren_close ∷ body_sym ApplyEnd ∷ [])
    ∷ []
body_rows ApplyEnd =
    (class.Mark Semicolon ⇒ Put (action.Body body.AddApply) ∷ [])
    ∷ (class.Mark BraceOpen ⇒ Put (action.Body body.NoBranches) ∷ body_sym Branches ∷ brace_close ∷ Put (action.Body body.AddApplyBranches) ∷ [])
    ∷ []
body_rows AfterIf =
    (class.Mark ParenClose ⇒ semicolon ∷ Put (action.Body (body.AddCallOf key.If)) ∷ [])
    ∷ Like (word.Body (Expr 0)) (paren_close ∷ block_sym (body_sym ElseOption ∷ Put (action.Body body.AddIf) ∷ []))
    ∷ []
body_rows ElseOption = (class.Word key.Else ⇒ body_sym AfterElse ∷ []) ∷ []
body_rows AfterElse =
    (class.Mark BraceOpen ⇒ Put (action.Body body.NoStatements) ∷ body_sym body_word.Statements ∷ brace_close ∷ Put (action.Body body.ElseBlock) ∷ [])
    ∷ (class.Word key.If ⇒ paren_open ∷ body_sym (Expr 0) ∷ paren_close ∷ block_sym (body_sym ElseOption ∷ Put (action.Body body.ElseIf) ∷ []))
    ∷ (class.Mark ParenOpen ⇒ paren_close ∷ semicolon ∷ Put (action.Body body.NoElseThenCall) ∷ [])
    ∷ []
body_rows Branches = (NewLabel ⇒ block_sym (Put (action.Body body.AddBranch) ∷ body_sym Branches ∷ [])) ∷ []

abbrev pub body_otherwise : BodyWord → Otherwise Action
body_otherwise (Expr least) = Refuse
body_otherwise (Operators least most) = Pass
body_otherwise ExprInst = Refuse
body_otherwise body_word.Statements = Pass
body_otherwise AfterApply = Refuse
body_otherwise ApplyEnd = Refuse
body_otherwise AfterIf = Refuse
body_otherwise ElseOption = Build (action.Body body.NoElse)
body_otherwise AfterElse = Refuse
body_otherwise Branches = Pass

-- declarations

abbrev pub decl_rest : DeclKind → List Sym
decl_rest k = Put (action.AddDecl k) ∷ symbol.Word word.Decls ∷ []

abbrev pub left_out_rest : LeftOutKind → List Sym
left_out_rest k = a_name ∷ symbol.Word word.LeftOutEnd ∷ decl_rest (kind.LeftOut k)

-- attributes in braces behind a name
abbrev pub object_rest : ObjectWord → DeclKind → List Sym
object_rest w k = a_name ∷ brace_open ∷ Put (action.Object object.NoAttrs) ∷ object_sym w ∷ brace_close ∷ decl_rest k

abbrev pub decl_rows : Rows
decl_rows =
    (class.Word key.HeaderType ⇒
    a_name ∷ brace_open ∷ quoted key.Fields ∷ brace_open ∷ Put (action.Header header.NoFields) ∷ header_sym header_word.Fields ∷ brace_close
    ∷ Put (action.Body body.NoTails) ∷ header_sym header_word.Tails ∷ brace_close ∷ decl_rest kind.HeaderType)
    ∷ (class.Word key.Header ⇒ a_name ∷ a_name ∷ header_sym header_word.Size ∷ semicolon ∷ decl_rest kind.Header)
    ∷ (class.Word key.Metadata ⇒ a_name ∷ a_name ∷ header_sym header_word.MetadataEnd ∷ decl_rest kind.Metadata)
    ∷ (class.Word key.FieldList ⇒ a_name ∷ brace_open ∷ Put (action.Calculation calculation.NoItems) ∷ calculation_sym calculation_word.Items ∷ brace_close ∷ decl_rest kind.FieldList)
    ∷ (class.Word key.FieldListCalculation ⇒
    a_name ∷ brace_open ∷ quoted key.Input ∷ brace_open ∷ Put (action.Part part.NoNames) ∷ a_name ∷ semicolon ∷ Put (action.Part part.AddName) ∷ part_sym NameLines ∷ brace_close
    ∷ quoted key.Algorithm ∷ colon ∷ a_name ∷ semicolon ∷ quoted key.OutputWidth ∷ colon ∷ a_number ∷ semicolon ∷ brace_close ∷ decl_rest kind.FieldListCalculation)
    ∷ (class.Word key.CalculatedField ⇒
    part_sym Ref ∷ brace_open ∷ Put (action.Calculation calculation.NoCalcs) ∷ calculation_sym calculation_word.Calc ∷ calculation_sym calculation_word.Calcs ∷ brace_close ∷ decl_rest kind.CalculatedField)
    ∷ (class.Word key.Parser ⇒
    a_name ∷ brace_open ∷ Put (action.State state.NoStatements) ∷ state_sym state_word.Statements ∷ state_sym state_word.Return ∷ brace_close ∷ decl_rest kind.Parser)
    ∷ (class.Word key.Action ⇒
    a_name ∷ paren_open ∷ Put (action.Part part.NoNames) ∷ call_sym call_word.Params ∷ paren_close
    ∷ brace_open ∷ Put (action.Call called.NoCalls) ∷ call_sym call_word.Calls ∷ brace_close ∷ decl_rest kind.Action)
    ∷ (class.Word key.Table ⇒ a_name ∷ brace_open ∷ Put (action.Table table.NoAttrs) ∷ table_sym table_word.Attrs ∷ brace_close ∷ decl_rest kind.Table)
    ∷ (class.Word key.Counter ⇒ object_rest object_word.CounterAttrs kind.Counter)
    ∷ (class.Word key.Meter ⇒ object_rest object_word.CounterAttrs kind.Meter)
    ∷ (class.Word key.Register ⇒ object_rest object_word.RegisterAttrs kind.Register)
    ∷ (class.Word key.Control ⇒ a_name ∷ block_sym (decl_rest kind.Control))
    ∷ (class.Word key.ParserValueSet ⇒ left_out_rest left_out.ParserValueSet)
    ∷ (class.Word key.ParserException ⇒ left_out_rest left_out.ParserException)
    ∷ (class.Word key.ActionProfile ⇒ left_out_rest left_out.ActionProfile)
    ∷ (class.Word key.ActionSelector ⇒ left_out_rest left_out.ActionSelector)
    ∷ []

abbrev pub group_rows : Rows
group_rows =
    (GroupToken ⇒ symbol.Word word.Group ∷ [])
    ∷ (GroupOpen ⇒ symbol.Word word.Group ∷ Token GroupClose ∷ symbol.Word word.Group ∷ [])
    ∷ []

abbrev pub rows : Word → Rows
rows (word.Part w) = part_rows w
rows (word.Header w) = header_rows w
rows (word.Calculation w) = calculation_rows w
rows (word.State w) = state_rows w
rows (word.Call w) = call_rows w
rows (word.Table w) = table_rows w
rows (word.Object w) = object_rows w
rows (word.Body w) = body_rows w
rows word.LeftOutEnd =
    (class.Mark Semicolon ⇒ Put action.NoGroup ∷ [])
    ∷ (class.Mark BraceOpen ⇒ Put action.EmptyGroup ∷ symbol.Word word.Group ∷ brace_close ∷ [])
    ∷ []
rows word.Group = group_rows
rows word.Decls = decl_rows

abbrev pub otherwise : Word → Otherwise Action
otherwise (word.Part w) = part_otherwise w
otherwise (word.Header w) = header_otherwise w
otherwise (word.Calculation w) = calculation_otherwise w
otherwise (word.State w) = state_otherwise w
otherwise (word.Call w) = call_otherwise w
otherwise (word.Table w) = table_otherwise w
otherwise (word.Object w) = object_otherwise w
otherwise (word.Body w) = body_otherwise w
otherwise word.LeftOutEnd = Refuse
otherwise word.Group = Pass
otherwise word.Decls = Build action.EndDecls

abbrev pub grammar14 : Grammar Class Action Word Lexeme Built
grammar14 = record { accepts = accepts; shift = shift; put = put; rows = rows; otherwise = otherwise }
