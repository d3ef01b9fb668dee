-- The tokens that a syntax is written with: each part of the grammar with its words, its marks and its parts in order
-- (P4_14 1.0.5, "Summary of P4 BNF").
use Rattle.std.specs.Prelude.{ℕ, Bool, true, false, cond, List, [], ◌∷◌, ◌++◌, Option, Some, None}
use Rattle.std.specs.List.{flat_map}
use Rattle.p414_syntax.specs.declared.keyword.Keyword.TheVariants as key
use Rattle.p414_syntax.specs.Keywords.{keyword_text}
use Rattle.p414_syntax.specs.declared.lexeme.Literal.{Literal}
use Rattle.p414_syntax.specs.declared.lexeme.Lexeme.{Lexeme}
use Rattle.p414_syntax.specs.declared.lexeme.Lexeme.TheVariants as lexeme
use Rattle.p414_syntax.specs.declared.parts.Sign.{Sign}
use Rattle.p414_syntax.specs.declared.parts.Sign.TheVariants as sign
use Rattle.p414_syntax.specs.declared.parts.Number.{Number}
use Rattle.p414_syntax.specs.declared.parts.Index.{Index}
use Rattle.p414_syntax.specs.declared.parts.Index.TheVariants as index
use Rattle.p414_syntax.specs.declared.parts.Inst.{Inst}
use Rattle.p414_syntax.specs.declared.parts.Ref.{Ref}
use Rattle.p414_syntax.specs.declared.headers.FieldWidth.{FieldWidth}
use Rattle.p414_syntax.specs.declared.headers.FieldWidth.TheVariants as width
use Rattle.p414_syntax.specs.declared.headers.Field.{Field}
use Rattle.p414_syntax.specs.declared.headers.Header.{Header}
use Rattle.p414_syntax.specs.declared.headers.Initial.{Initial}
use Rattle.p414_syntax.specs.declared.headers.Initials.{Initials}
use Rattle.p414_syntax.specs.declared.headers.Metadata.{Metadata}
use Rattle.p414_syntax.specs.declared.calculations.Item.{Item}
use Rattle.p414_syntax.specs.declared.calculations.Item.TheVariants as item
use Rattle.p414_syntax.specs.declared.calculations.FieldList.{FieldList}
use Rattle.p414_syntax.specs.declared.calculations.FieldListCalculation.{FieldListCalculation}
use Rattle.p414_syntax.specs.declared.calculations.CalcUse.{CalcUse}
use Rattle.p414_syntax.specs.declared.calculations.CalcUse.TheVariants as calc_use
use Rattle.p414_syntax.specs.declared.calculations.CalcCond.{CalcCond}
use Rattle.p414_syntax.specs.declared.calculations.CalcCond.TheVariants as calc_cond
use Rattle.p414_syntax.specs.declared.calculations.Calc.{Calc}
use Rattle.p414_syntax.specs.declared.calculations.CalculatedField.{CalculatedField}
use Rattle.p414_syntax.specs.declared.parsers.PValue.{PValue}
use Rattle.p414_syntax.specs.declared.parsers.PValue.TheVariants as pvalue
use Rattle.p414_syntax.specs.declared.parsers.PStmt.{PStmt}
use Rattle.p414_syntax.specs.declared.parsers.PStmt.TheVariants as pstmt
use Rattle.p414_syntax.specs.declared.parsers.Masked.{Masked}
use Rattle.p414_syntax.specs.declared.parsers.CaseValues.{CaseValues}
use Rattle.p414_syntax.specs.declared.parsers.CaseValues.TheVariants as case_values
use Rattle.p414_syntax.specs.declared.parsers.CaseTarget.{CaseTarget}
use Rattle.p414_syntax.specs.declared.parsers.CaseTarget.TheVariants as target
use Rattle.p414_syntax.specs.declared.parsers.Case.{Case}
use Rattle.p414_syntax.specs.declared.parsers.Return.{Return}
use Rattle.p414_syntax.specs.declared.parsers.Return.TheVariants as end_of
use Rattle.p414_syntax.specs.declared.parsers.Parser.{Parser}
use Rattle.p414_syntax.specs.declared.actions.Arg.{Arg}
use Rattle.p414_syntax.specs.declared.actions.Arg.TheVariants as arg
use Rattle.p414_syntax.specs.declared.actions.Call.{Call}
use Rattle.p414_syntax.specs.declared.actions.Action.{Action}
use Rattle.p414_syntax.specs.declared.tables.ReadKey.{ReadKey}
use Rattle.p414_syntax.specs.declared.tables.ReadKey.TheVariants as read_key
use Rattle.p414_syntax.specs.declared.tables.Read.{Read}
use Rattle.p414_syntax.specs.declared.tables.TableAttr.{TableAttr}
use Rattle.p414_syntax.specs.declared.tables.TableAttr.TheVariants as table_attr
use Rattle.p414_syntax.specs.declared.tables.Table.{Table}
use Rattle.p414_syntax.specs.declared.objects.CounterType.{CounterType}
use Rattle.p414_syntax.specs.declared.objects.CounterType.TheVariants as counter_type
use Rattle.p414_syntax.specs.declared.objects.StateAttr.{StateAttr}
use Rattle.p414_syntax.specs.declared.objects.StateAttr.TheVariants as state_attr
use Rattle.p414_syntax.specs.declared.objects.Stateful.{Stateful}
use Rattle.p414_syntax.specs.declared.node.Label.{Label}
use Rattle.p414_syntax.specs.declared.node.Label.TheVariants as label
use Rattle.p414_syntax.specs.declared.syntax.LeftOutKind.{LeftOutKind}
use Rattle.p414_syntax.specs.declared.syntax.LeftOutKind.TheVariants as left_out
use Rattle.p414_syntax.specs.declared.syntax.LeftOut.{LeftOut}
use Rattle.p414_syntax.specs.declared.syntax.Decl.{Decl}
use Rattle.p414_syntax.specs.declared.syntax.Decl.TheVariants as decl
use Rattle.p414_syntax.specs.declared.syntax.Syntax14.{Syntax14}
use Rattle.p414_syntax.specs.Tree.{Expr, valid, truth, field, number, parenthesized, unary, binary, Stmt, no_statements, then, apply, apply_branches, if_then, call, no_else, else_block, else_if, no_branches, branch}
use Rattle.p414_syntax.specs.Views.{TailTree, length_is, max_length_is, HeaderTypeTree, ControlTree}
use Rattle.p414_syntax.specs.Words.{name, keyword, brace_open, brace_close, paren_open, paren_close, bracket_open, bracket_close, semicolon, colon, comma, dot, plus, minus, star, equal}
use Rattle.p414_syntax.specs.Operators.{unary_token, binary_token}

-- parts that several lines of the grammar share

-- what may be written or left out
abbrev pub written_option : {A : Type 0} → (A → List Lexeme) → Option A → List Lexeme
written_option written None = []
written_option written (Some x) = written x

-- each with a comma in front of it
abbrev pub after_commas : {A : Type 0} → (A → List Lexeme) → List A → List Lexeme
after_commas written xs = flat_map (λ x. comma ∷ written x) xs

-- one after another with commas between them
abbrev pub by_commas : {A : Type 0} → (A → List Lexeme) → List A → List Lexeme
by_commas written [] = []
by_commas written (x ∷ xs) = written x ++ after_commas written xs

abbrev pub in_parens : List Lexeme → List Lexeme
in_parens inner = paren_open ∷ (inner ++ paren_close ∷ [])

abbrev pub in_braces : List Lexeme → List Lexeme
in_braces inner = brace_open ∷ (inner ++ brace_close ∷ [])

-- `: VALUE ;`
abbrev pub attribute_value : List Lexeme → List Lexeme
attribute_value value = colon ∷ (value ++ semicolon ∷ [])

-- `WORD : VALUE ;`
abbrev pub attribute : List ℕ → List Lexeme → List Lexeme
attribute word value = name word ∷ attribute_value value

abbrev pub written_name : List ℕ → List Lexeme
written_name text = name text ∷ []

-- `NAME ;`
abbrev pub name_line : List ℕ → List Lexeme
name_line text = name text ∷ semicolon ∷ []

abbrev pub written_literal : Literal → List Lexeme
written_literal n = lexeme.Number n ∷ []

abbrev pub written_sign : Sign → List Lexeme
written_sign sign.Plus = plus ∷ []
written_sign sign.Minus = minus ∷ []

abbrev pub written_number : Number → List Lexeme
written_number n = written_option written_sign n.sign ++ written_literal n.literal

-- the token between the brackets of an index
abbrev pub index_token : Index → Lexeme
index_token (index.At n) = lexeme.Number n
index_token index.Next = keyword key.Next
index_token index.Last = keyword key.Last

abbrev pub written_index : Index → List Lexeme
written_index i = bracket_open ∷ index_token i ∷ bracket_close ∷ []

abbrev pub written_inst : Inst → List Lexeme
written_inst i = name i.name ∷ written_option written_index i.index

abbrev pub written_ref : Ref → List Lexeme
written_ref r = written_inst r.instance ++ dot ∷ name r.field ∷ []

-- expressions

abbrev pub written_truth : Bool → List Lexeme
written_truth true = keyword key.True ∷ []
written_truth false = keyword key.False ∷ []

abbrev pub written_valid : Inst → List Lexeme
written_valid i = keyword key.Valid ∷ in_parens (written_inst i)

abbrev pub written_expr : Expr → List Lexeme
written_expr (valid i) = written_valid i
written_expr (truth value) = written_truth value
written_expr (field r) = written_ref r
written_expr (number n) = written_literal n
written_expr (parenthesized e) = in_parens (written_expr e)
written_expr (unary operator e) = unary_token operator ∷ written_expr e
written_expr (binary operator a b) = written_expr a ++ binary_token operator ∷ written_expr b

-- header types, header instances and metadata

abbrev pub written_width : FieldWidth → List Lexeme
written_width (width.Bits n) = written_literal n
written_width width.Rest = star ∷ []

-- the attributes of a field, in parentheses where there are any
abbrev pub written_field_attributes : List (List ℕ) → List Lexeme
written_field_attributes [] = []
written_field_attributes (a ∷ more) = in_parens (by_commas written_name (a ∷ more))

abbrev pub written_field : Field → List Lexeme
written_field f =
    name f.name ∷ colon ∷ (written_width f.width ++ (written_field_attributes f.attributes ++ semicolon ∷ []))

abbrev pub tail_word : TailTree → List ℕ
tail_word (length_is e) = keyword_text key.Length
tail_word (max_length_is e) = keyword_text key.MaxLength

abbrev pub tail_expr : TailTree → Expr
tail_expr (length_is e) = e
tail_expr (max_length_is e) = e

abbrev pub written_tail : TailTree → List Lexeme
written_tail t = attribute (tail_word t) (written_expr (tail_expr t))

abbrev pub written_header_type : HeaderTypeTree → List Lexeme
written_header_type h =
    keyword key.HeaderType ∷ name h.name
    ∷ in_braces (keyword key.Fields ∷ (in_braces (flat_map written_field h.fields) ++ flat_map written_tail h.tails))

abbrev pub written_size : Literal → List Lexeme
written_size n = bracket_open ∷ lexeme.Number n ∷ bracket_close ∷ []

abbrev pub written_header : Header → List Lexeme
written_header h =
    keyword key.Header ∷ name h.header_type ∷ name h.name ∷ (written_option written_size h.size ++ semicolon ∷ [])

abbrev pub written_initial : Initial → List Lexeme
written_initial i = attribute i.field (written_number i.value)

abbrev pub written_initials : Option Initials → List Lexeme
written_initials None = semicolon ∷ []
written_initials (Some i) = in_braces (flat_map written_initial i.values) ++ cond i.semicolon (semicolon ∷ []) []

abbrev pub written_metadata : Metadata → List Lexeme
written_metadata m = keyword key.Metadata ∷ name m.header_type ∷ name m.name ∷ written_initials m.initials

-- field lists, calculations and calculated fields

abbrev pub written_item : Item → List Lexeme
written_item item.Payload = keyword key.Payload ∷ semicolon ∷ []
written_item (item.Number n) = lexeme.Number n ∷ semicolon ∷ []
written_item (item.Field r) = written_ref r ++ semicolon ∷ []
written_item (item.Instance i) = written_inst i ++ semicolon ∷ []

abbrev pub written_field_list : FieldList → List Lexeme
written_field_list l = keyword key.FieldList ∷ name l.name ∷ in_braces (flat_map written_item l.items)

abbrev pub written_calculation : FieldListCalculation → List Lexeme
written_calculation c =
    keyword key.FieldListCalculation ∷ name c.name ∷ in_braces (
    keyword key.Input ∷ (in_braces (flat_map name_line c.input)
    ++ (attribute (keyword_text key.Algorithm) (written_name c.algorithm)
    ++ attribute (keyword_text key.OutputWidth) (written_literal c.output_width))))

abbrev pub written_use : CalcUse → Lexeme
written_use calc_use.Update = keyword key.Update
written_use calc_use.Verify = keyword key.Verify

abbrev pub written_cond : CalcCond → List Lexeme
written_cond (calc_cond.Valid i) = written_valid i
written_cond (calc_cond.Equal r n) = written_ref r ++ equal ∷ lexeme.Number n ∷ []

abbrev pub written_if : CalcCond → List Lexeme
written_if c = keyword key.If ∷ in_parens (written_cond c)

abbrev pub written_calc : Calc → List Lexeme
written_calc c = written_use c.used_to ∷ name c.calculation ∷ (written_option written_if c.condition ++ semicolon ∷ [])

abbrev pub written_calculated : CalculatedField → List Lexeme
written_calculated c =
    keyword key.CalculatedField ∷ (written_ref c.field ++ in_braces (flat_map written_calc c.entries))

-- parser states

abbrev pub written_pvalue : PValue → List Lexeme
written_pvalue (pvalue.Current offset bits) =
    keyword key.Current ∷ in_parens (lexeme.Number offset ∷ comma ∷ lexeme.Number bits ∷ [])
written_pvalue (pvalue.Latest f) = keyword key.Latest ∷ dot ∷ name f ∷ []
written_pvalue (pvalue.Field r) = written_ref r
written_pvalue (pvalue.Number n) = written_number n

abbrev pub written_pstmt : PStmt → List Lexeme
written_pstmt (pstmt.Extract i) = keyword key.Extract ∷ (in_parens (written_inst i) ++ semicolon ∷ [])
written_pstmt (pstmt.SetMetadata r v) =
    keyword key.SetMetadata ∷ (in_parens (written_ref r ++ comma ∷ written_pvalue v) ++ semicolon ∷ [])

abbrev pub written_mask : Literal → List Lexeme
written_mask n = keyword key.Mask ∷ lexeme.Number n ∷ []

abbrev pub written_masked : Masked → List Lexeme
written_masked m = lexeme.Number m.value ∷ written_option written_mask m.mask

abbrev pub written_case_values : CaseValues → List Lexeme
written_case_values case_values.Default = keyword key.Default ∷ []
written_case_values (case_values.Values ms) = by_commas written_masked ms

abbrev pub written_target : CaseTarget → List Lexeme
written_target (target.ParseError e) = keyword key.ParseError ∷ name e ∷ []
written_target (target.State s) = name s ∷ []

abbrev pub written_case : Case → List Lexeme
written_case c = written_case_values c.values ++ colon ∷ (written_target c.target ++ semicolon ∷ [])

abbrev pub written_return : Return → List Lexeme
written_return (end_of.Select vs cs) =
    keyword key.Return ∷ keyword key.Select
    ∷ (in_parens (by_commas written_pvalue vs) ++ in_braces (flat_map written_case cs))
written_return (end_of.State s) = keyword key.Return ∷ name s ∷ semicolon ∷ []
written_return (end_of.ParseError e) = keyword key.ParseError ∷ name e ∷ semicolon ∷ []

abbrev pub written_parser : Parser → List Lexeme
written_parser p =
    keyword key.Parser ∷ name p.name ∷ in_braces (flat_map written_pstmt p.statements ++ written_return p.end)

-- actions

abbrev pub written_arg : Arg → List Lexeme
written_arg (arg.Number n) = written_number n
written_arg (arg.Field r) = written_ref r
written_arg (arg.Instance i) = written_inst i

abbrev pub written_call : Call → List Lexeme
written_call c = name c.name ∷ (in_parens (by_commas written_arg c.arguments) ++ semicolon ∷ [])

abbrev pub written_action : Action → List Lexeme
written_action a =
    keyword key.Action ∷ name a.name
    ∷ (in_parens (by_commas written_name a.parameters) ++ in_braces (flat_map written_call a.calls))

-- tables

abbrev pub written_key : ReadKey → List Lexeme
written_key (read_key.Field r) = written_ref r
written_key (read_key.Instance i) = written_inst i

abbrev pub written_read : Read → List Lexeme
written_read r = written_key r.key ++ (written_option written_mask r.mask ++ colon ∷ name r.kind ∷ semicolon ∷ [])

abbrev pub written_arguments : List Number → List Lexeme
written_arguments ns = in_parens (by_commas written_number ns)

-- the word that an attribute begins with
abbrev pub table_word : TableAttr → List ℕ
table_word (table_attr.Reads rs) = keyword_text key.Reads
table_word (table_attr.Actions names) = keyword_text key.Actions
table_word (table_attr.MinSize n) = keyword_text key.MinSize
table_word (table_attr.MaxSize n) = keyword_text key.MaxSize
table_word (table_attr.Size n) = keyword_text key.Size
table_word (table_attr.SupportTimeout on) = keyword_text key.SupportTimeout
table_word (table_attr.DefaultAction a arguments) = keyword_text key.DefaultAction
table_word (table_attr.ActionProfile p) = keyword_text key.ActionProfile

-- what stands behind that word
abbrev pub written_table_value : TableAttr → List Lexeme
written_table_value (table_attr.Reads rs) = in_braces (flat_map written_read rs)
written_table_value (table_attr.Actions names) = in_braces (flat_map name_line names)
written_table_value (table_attr.MinSize n) = attribute_value (written_literal n)
written_table_value (table_attr.MaxSize n) = attribute_value (written_literal n)
written_table_value (table_attr.Size n) = attribute_value (written_literal n)
written_table_value (table_attr.SupportTimeout on) = attribute_value (written_truth on)
written_table_value (table_attr.DefaultAction a arguments) =
    attribute_value (name a ∷ written_option written_arguments arguments)
written_table_value (table_attr.ActionProfile p) = attribute_value (written_name p)

abbrev pub written_table_attr : TableAttr → List Lexeme
written_table_attr a = name (table_word a) ∷ written_table_value a

abbrev pub written_table : Table → List Lexeme
written_table t = keyword key.Table ∷ name t.name ∷ in_braces (flat_map written_table_attr t.attributes)

-- counters, meters and registers

abbrev pub written_counter_type : CounterType → List Lexeme
written_counter_type counter_type.Packets = keyword key.Packets ∷ []
written_counter_type counter_type.Bytes = keyword key.Bytes ∷ []
written_counter_type counter_type.PacketsAndBytes = keyword key.PacketsAndBytes ∷ []

-- the word that an attribute begins with
abbrev pub state_word : StateAttr → List ℕ
state_word (state_attr.Counts t) = keyword_text key.Counts
state_word (state_attr.Direct t) = keyword_text key.Direct
state_word (state_attr.Static t) = keyword_text key.Static
state_word (state_attr.Layout t) = keyword_text key.Layout
state_word (state_attr.Result r) = keyword_text key.Result
state_word (state_attr.InstanceCount n) = keyword_text key.InstanceCount
state_word (state_attr.Width n) = keyword_text key.Width
state_word (state_attr.MinWidth n) = keyword_text key.MinWidth
state_word state_attr.Saturating = keyword_text key.Saturating
state_word state_attr.Signed = keyword_text key.Signed

-- what stands behind that word
abbrev pub written_state_value : StateAttr → List Lexeme
written_state_value (state_attr.Counts t) = attribute_value (written_counter_type t)
written_state_value (state_attr.Direct t) = attribute_value (written_name t)
written_state_value (state_attr.Static t) = attribute_value (written_name t)
written_state_value (state_attr.Layout t) = attribute_value (written_name t)
written_state_value (state_attr.Result r) = attribute_value (written_ref r)
written_state_value (state_attr.InstanceCount n) = attribute_value (written_literal n)
written_state_value (state_attr.Width n) = attribute_value (written_literal n)
written_state_value (state_attr.MinWidth n) = attribute_value (written_literal n)
written_state_value state_attr.Saturating = semicolon ∷ []
written_state_value state_attr.Signed = semicolon ∷ []

abbrev pub written_state_attr : StateAttr → List Lexeme
written_state_attr a = name (state_word a) ∷ written_state_value a

abbrev pub written_stateful : List ℕ → Stateful → List Lexeme
written_stateful word s = name word ∷ name s.name ∷ in_braces (flat_map written_state_attr s.attributes)

-- controls

-- the text of a label
abbrev pub label_text : Label → List ℕ
label_text label.Hit = keyword_text key.Hit
label_text label.Miss = keyword_text key.Miss
label_text label.Default = keyword_text key.Default
label_text (label.Action a) = a

abbrev pub written_stmt : Stmt → List Lexeme
written_stmt no_statements = []
written_stmt (then before last) = written_stmt before ++ written_stmt last
written_stmt (apply table) = keyword key.Apply ∷ (in_parens (written_name table) ++ semicolon ∷ [])
written_stmt (apply_branches table bs) =
    keyword key.Apply ∷ (in_parens (written_name table) ++ in_braces (written_stmt bs))
written_stmt (if_then condition body other) =
    keyword key.If ∷ (in_parens (written_expr condition) ++ (in_braces (written_stmt body) ++ written_stmt other))
written_stmt (call control) = name control ∷ paren_open ∷ paren_close ∷ semicolon ∷ []
written_stmt no_else = []
written_stmt (else_block body) = keyword key.Else ∷ in_braces (written_stmt body)
written_stmt (else_if statement) = keyword key.Else ∷ written_stmt statement
written_stmt no_branches = []
written_stmt (branch before l body) = written_stmt before ++ name (label_text l) ∷ in_braces (written_stmt body)

abbrev pub written_control : ControlTree → List Lexeme
written_control c = keyword key.Control ∷ name c.name ∷ in_braces (written_stmt c.body)

-- declarations

abbrev pub written_kind : LeftOutKind → Lexeme
written_kind left_out.ParserValueSet = keyword key.ParserValueSet
written_kind left_out.ParserException = keyword key.ParserException
written_kind left_out.ActionProfile = keyword key.ActionProfile
written_kind left_out.ActionSelector = keyword key.ActionSelector

abbrev pub written_group : Option (List Lexeme) → List Lexeme
written_group None = semicolon ∷ []
written_group (Some tokens) = in_braces tokens

abbrev pub written_left_out : LeftOut → List Lexeme
written_left_out l = written_kind l.kind ∷ name l.name ∷ written_group l.group

abbrev pub written_decl : Decl → List Lexeme
written_decl (decl.HeaderType h) = written_header_type h
written_decl (decl.Header h) = written_header h
written_decl (decl.Metadata m) = written_metadata m
written_decl (decl.FieldList l) = written_field_list l
written_decl (decl.FieldListCalculation c) = written_calculation c
written_decl (decl.CalculatedField c) = written_calculated c
written_decl (decl.Parser p) = written_parser p
written_decl (decl.Action a) = written_action a
written_decl (decl.Table t) = written_table t
written_decl (decl.Counter s) = written_stateful (keyword_text key.Counter) s
written_decl (decl.Meter s) = written_stateful (keyword_text key.Meter) s
written_decl (decl.Register s) = written_stateful (keyword_text key.Register) s
written_decl (decl.Control c) = written_control c
written_decl (decl.LeftOut l) = written_left_out l

abbrev pub written : Syntax14 → List Lexeme
written s = flat_map written_decl s.decls
