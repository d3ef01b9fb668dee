-- What each word of the grammar stands for: a part of the syntax, the tokens that it is spelled with, and what is built
-- behind it.
use Rattle.std.specs.Prelude.{◌≡◌, ℕ, Bool, true, false, ◌&&◌, nat_le, cond, List, [], ◌∷◌, ◌++◌, codes, map, Option, Some, None}
use Rattle.std.specs.List.{flat_map, list_all}
use Rattle.std.specs.Option.{unwrap_or}
use Rattle.predictive_parser.proofs.Meanings.{Meaning}
use Rattle.p414_syntax.specs.declared.keyword.Keyword.TheVariants as key
use Rattle.p414_syntax.specs.declared.lexeme.Literal.{Literal}
use Rattle.p414_syntax.specs.declared.lexeme.Lexeme.{Lexeme}
use Rattle.p414_syntax.specs.declared.parts.Number.{Number}
use Rattle.p414_syntax.specs.declared.parts.Index.{Index}
use Rattle.p414_syntax.specs.declared.parts.Inst.{Inst}
use Rattle.p414_syntax.specs.declared.parts.Ref.{Ref}
use Rattle.p414_syntax.specs.declared.headers.FieldWidth.{FieldWidth}
use Rattle.p414_syntax.specs.declared.headers.Field.{Field}
use Rattle.p414_syntax.specs.declared.headers.Initial.{Initial}
use Rattle.p414_syntax.specs.declared.headers.Initials.{Initials}
use Rattle.p414_syntax.specs.declared.calculations.Item.{Item}
use Rattle.p414_syntax.specs.declared.calculations.CalcCond.{CalcCond}
use Rattle.p414_syntax.specs.declared.calculations.Calc.{Calc}
use Rattle.p414_syntax.specs.declared.parsers.PValue.{PValue}
use Rattle.p414_syntax.specs.declared.parsers.PStmt.{PStmt}
use Rattle.p414_syntax.specs.declared.parsers.Masked.{Masked}
use Rattle.p414_syntax.specs.declared.parsers.CaseTarget.{CaseTarget}
use Rattle.p414_syntax.specs.declared.parsers.Case.{Case}
use Rattle.p414_syntax.specs.declared.parsers.Return.{Return}
use Rattle.p414_syntax.specs.declared.actions.Arg.{Arg}
use Rattle.p414_syntax.specs.declared.actions.Call.{Call}
use Rattle.p414_syntax.specs.declared.tables.Read.{Read}
use Rattle.p414_syntax.specs.declared.tables.TableAttr.{TableAttr}
use Rattle.p414_syntax.specs.declared.tables.TableAttr.TheVariants as table_attr
use Rattle.p414_syntax.specs.declared.objects.StateAttr.{StateAttr}
use Rattle.p414_syntax.specs.declared.objects.StateAttr.TheVariants as state_attr
use Rattle.p414_syntax.specs.declared.objects.CounterType.{CounterType}
use Rattle.p414_syntax.specs.declared.node.Label.{Label}
use Rattle.p414_syntax.specs.declared.syntax.Decl.{Decl}
use Rattle.p414_syntax.specs.Tree.{Expr, Stmt, no_statements, branch}
use Rattle.p414_syntax.specs.Views.{TailTree}
use Rattle.p414_syntax.specs.Words.{name, keyword, paren_open, paren_close, semicolon, dot}
use Rattle.p414_syntax.specs.Written.{written_option, after_commas, by_commas, in_braces, written_name, name_line, written_number, index_token, written_index, written_inst, written_ref, written_truth, written_expr, written_width, written_field_attributes, written_field, tail_word, written_tail, written_size, written_initial, written_initials, written_item, written_if, written_cond, written_calc, written_pvalue, written_pstmt, written_mask, written_masked, written_target, written_case, written_return, written_arg, written_call, written_read, written_arguments, table_word, written_table_attr, written_counter_type, state_word, written_state_attr, label_text, written_stmt, written_group, written_decl}
use Rattle.p414_syntax.specs.Conditions.{is_among, all_different, is_expression_name, is_expr, is_tail, is_item, is_pvalue, is_select_value, is_pstmt, is_case, is_return, is_table_attr, has_word, table_needs, counter_needs, register_needs, is_label, are_labels, statement, behind_if, block, is_stmt, is_balanced, is_group, is_decl}
use Rattle.p414_reader.specs.declared.symbols.Word.{Word}
use Rattle.p414_reader.specs.declared.symbols.Word.TheVariants as word
use Rattle.p414_reader.specs.declared.symbols.PartWord.{PartWord}
use Rattle.p414_reader.specs.declared.symbols.PartWord.TheVariants as part
use Rattle.p414_reader.specs.declared.symbols.HeaderWord.{HeaderWord}
use Rattle.p414_reader.specs.declared.symbols.HeaderWord.TheVariants as header
use Rattle.p414_reader.specs.declared.symbols.CalculationWord.{CalculationWord}
use Rattle.p414_reader.specs.declared.symbols.CalculationWord.TheVariants as calculation
use Rattle.p414_reader.specs.declared.symbols.StateWord.{StateWord}
use Rattle.p414_reader.specs.declared.symbols.StateWord.TheVariants as state
use Rattle.p414_reader.specs.declared.symbols.CallWord.{CallWord}
use Rattle.p414_reader.specs.declared.symbols.CallWord.TheVariants as called
use Rattle.p414_reader.specs.declared.symbols.TableWord.{TableWord}
use Rattle.p414_reader.specs.declared.symbols.TableWord.TheVariants as table
use Rattle.p414_reader.specs.declared.symbols.ObjectWord.{ObjectWord}
use Rattle.p414_reader.specs.declared.symbols.ObjectWord.TheVariants as object
use Rattle.p414_reader.specs.declared.symbols.BodyWord.{BodyWord}
use Rattle.p414_reader.specs.declared.symbols.BodyWord.TheVariants as body
use Rattle.predictive_parser.specs.Values.{newest, older, extended, extended_option}
use Rattle.p414_reader.specs.declared.built.Built.{Built}
use Rattle.p414_reader.specs.internal.Built.{no_bodies}
use Rattle.p414_reader.specs.declared.parts.Parts.{Parts}
use Rattle.p414_reader.specs.internal.Actions.{no_expr, without_name, with_value, with_table_attr, with_state_attr, with_stmt, on_stmts}

-- the newest list, with these put behind it one by one
abbrev pub extended_by : {A : Type 0} → List A → List (List A) → List (List A)
extended_by [] lists = lists
extended_by (x ∷ xs) lists = extended_by xs (extended (x ∷ []) lists)

-- names, numbers, instances and fields

abbrev pub PartValue : PartWord → Type 0
PartValue part.MoreNames = List (List ℕ)
PartValue part.NameLines = List (List ℕ)
PartValue part.IndexOption = Option Index
PartValue part.IndexIn = Index
PartValue part.Inst = Inst
PartValue part.FieldOption = Option (List ℕ)
PartValue part.Ref = Ref
PartValue part.Number = Number
PartValue part.Arguments = Option (List Number)
PartValue part.NumberList = List Number
PartValue part.MoreNumbers = List Number
PartValue part.MaskOption = Option Literal

abbrev pub written_dot : List ℕ → List Lexeme
written_dot text = dot ∷ name text ∷ []

abbrev pub PartSpells : (w : PartWord) → PartValue w → List Lexeme → Type 0
PartSpells part.MoreNames names us = us ≡ after_commas written_name names
PartSpells part.NameLines names us = us ≡ flat_map name_line names
PartSpells part.IndexOption index us = us ≡ written_option written_index index
PartSpells part.IndexIn index us = us ≡ index_token index ∷ []
PartSpells part.Inst instance us = us ≡ written_inst instance
PartSpells part.FieldOption field us = us ≡ written_option written_dot field
PartSpells part.Ref field us = us ≡ written_ref field
PartSpells part.Number number us = us ≡ written_number number
PartSpells part.Arguments numbers us = us ≡ written_option written_arguments numbers
PartSpells part.NumberList numbers us = us ≡ by_commas written_number numbers
PartSpells part.MoreNumbers numbers us = us ≡ after_commas written_number numbers
PartSpells part.MaskOption mask us = us ≡ written_option written_mask mask

abbrev pub with_arguments : List Number → List (Option (List Number)) → List (Option (List Number))
with_arguments [] lists = lists
with_arguments (n ∷ ns) lists = with_arguments ns (extended_option n lists)

abbrev pub after_part : (w : PartWord) → PartValue w → Parts → Parts
after_part part.MoreNames names p = record p { name_lists = extended_by names p.name_lists }
after_part part.NameLines names p = record p { name_lists = extended_by names p.name_lists }
after_part part.IndexOption index p = record p { indexes = index ∷ p.indexes }
after_part part.IndexIn index p = record p { indexes = Some index ∷ p.indexes }
after_part part.Inst instance p = record p { instances = instance ∷ p.instances }
after_part part.FieldOption field p = record p { field_options = field ∷ p.field_options }
after_part part.Ref field p = record p { fields = field ∷ p.fields }
after_part part.Number number p = record p { numbers = number ∷ p.numbers }
after_part part.Arguments numbers p = record p { arguments = numbers ∷ p.arguments }
after_part part.NumberList numbers p = record p { arguments = with_arguments numbers p.arguments }
after_part part.MoreNumbers numbers p = record p { arguments = with_arguments numbers p.arguments }
after_part part.MaskOption mask p = record p { literal_options = mask ∷ p.literal_options }

-- header types, header instances and metadata

abbrev pub HeaderValue : HeaderWord → Type 0
HeaderValue header.Fields = List Field
HeaderValue header.Width = FieldWidth
HeaderValue header.Attributes = List (List ℕ)
HeaderValue header.Tails = List TailTree
HeaderValue header.Size = Option Literal
HeaderValue header.MetadataEnd = Option Initials
HeaderValue header.Initials = List Initial
HeaderValue header.Semicolon = Bool

-- where no two of these words were the same, no two of these and those are
abbrev pub StayDifferent : List (List ℕ) → List (List ℕ) → Type 0
StayDifferent before words = all_different before ≡ true → all_different (before ++ words) ≡ true

abbrev pub HeaderSpells : (w : HeaderWord) → HeaderValue w → Built → List Lexeme → Type 0
HeaderSpells header.Fields fields b us = us ≡ flat_map written_field fields
HeaderSpells header.Width width b us = us ≡ written_width width
HeaderSpells header.Attributes names b us = us ≡ written_field_attributes names
HeaderSpells header.Tails tails b us =
    (us ≡ flat_map written_tail tails) × (list_all is_tail tails ≡ true) × StayDifferent (map tail_word (newest [] b.bodies.tails)) (map tail_word tails)
HeaderSpells header.Size size b us = us ≡ written_option written_size size
HeaderSpells header.MetadataEnd initials b us = us ≡ written_initials initials
HeaderSpells header.Initials initials b us = us ≡ flat_map written_initial initials
HeaderSpells header.Semicolon stands b us = us ≡ cond stands (semicolon ∷ []) []

abbrev pub after_header : (w : HeaderWord) → HeaderValue w → Built → Built
after_header header.Fields fields b = record b { headers = record b.headers { fields = extended_by fields b.headers.fields } }
after_header header.Width width b = record b { headers = record b.headers { widths = width ∷ b.headers.widths } }
after_header header.Attributes names b = record b { parts = record b.parts { name_lists = names ∷ b.parts.name_lists } }
after_header header.Tails tails b = record b { bodies = record b.bodies { tails = extended_by tails b.bodies.tails } }
after_header header.Size size b = record b { parts = record b.parts { literal_options = size ∷ b.parts.literal_options } }
after_header header.MetadataEnd initials b = record b { headers = record b.headers { initials_options = initials ∷ b.headers.initials_options } }
after_header header.Initials initials b = record b { headers = record b.headers { initials = extended_by initials b.headers.initials } }
after_header header.Semicolon stands b =
    record b {
      headers = record b.headers {
        initials = older b.headers.initials;
        initials_options = Some (record { values = newest [] b.headers.initials; semicolon = stands }) ∷ b.headers.initials_options;
      };
    }

-- field lists, calculations and calculated fields

abbrev pub CalculationValue : CalculationWord → Type 0
CalculationValue calculation.Items = List Item
CalculationValue calculation.Calc = Calc
CalculationValue calculation.Calcs = List Calc
CalculationValue calculation.CalcIf = Option CalcCond
CalculationValue calculation.CalcCond = CalcCond
CalculationValue calculation.AfterValid = CalcCond

abbrev pub CalculationSpells : (w : CalculationWord) → CalculationValue w → List Lexeme → Type 0
CalculationSpells calculation.Items items us = (us ≡ flat_map written_item items) × (list_all is_item items ≡ true)
CalculationSpells calculation.Calc entry us = us ≡ written_calc entry
CalculationSpells calculation.Calcs entries us = us ≡ flat_map written_calc entries
CalculationSpells calculation.CalcIf condition us = us ≡ written_option written_if condition
CalculationSpells calculation.CalcCond condition us = us ≡ written_cond condition
CalculationSpells calculation.AfterValid condition us = keyword key.Valid ∷ us ≡ written_cond condition

abbrev pub after_calculation : (w : CalculationWord) → CalculationValue w → Built → Built
after_calculation calculation.Items items b = record b { calculations = record b.calculations { items = extended_by items b.calculations.items } }
after_calculation calculation.Calc entry b = record b { calculations = record b.calculations { entries = extended (entry ∷ []) b.calculations.entries } }
after_calculation calculation.Calcs entries b = record b { calculations = record b.calculations { entries = extended_by entries b.calculations.entries } }
after_calculation calculation.CalcIf condition b = record b { calculations = record b.calculations { conditions = condition ∷ b.calculations.conditions } }
after_calculation calculation.CalcCond condition b = record b { calculations = record b.calculations { conditions = Some condition ∷ b.calculations.conditions } }
after_calculation calculation.AfterValid condition b = record b { calculations = record b.calculations { conditions = Some condition ∷ b.calculations.conditions } }

-- parser states

abbrev pub StateValue : StateWord → Type 0
StateValue state.Statements = List PStmt
StateValue state.Value = PValue
StateValue state.SelectValue = PValue
StateValue state.AfterCurrent = PValue
StateValue state.AfterLatest = PValue
StateValue state.MoreValues = List PValue
StateValue state.Return = Return
StateValue state.AfterReturn = Return
StateValue state.AfterSelect = Return
StateValue state.Case = Case
StateValue state.Cases = List Case
StateValue state.MoreMasked = List Masked
StateValue state.Target = CaseTarget
StateValue state.AfterError = CaseTarget

abbrev pub StateSpells : (w : StateWord) → StateValue w → List Lexeme → Type 0
StateSpells state.Statements statements us = (us ≡ flat_map written_pstmt statements) × (list_all is_pstmt statements ≡ true)
StateSpells state.Value value us = (us ≡ written_pvalue value) × (is_pvalue value ≡ true)
StateSpells state.SelectValue value us = (us ≡ written_pvalue value) × (is_select_value value ≡ true)
StateSpells state.AfterCurrent value us = (keyword key.Current ∷ us ≡ written_pvalue value) × (is_select_value value ≡ true)
StateSpells state.AfterLatest value us = (keyword key.Latest ∷ us ≡ written_pvalue value) × (is_select_value value ≡ true)
StateSpells state.MoreValues values us = (us ≡ after_commas written_pvalue values) × (list_all is_select_value values ≡ true)
StateSpells state.Return end us = (us ≡ written_return end) × (is_return end ≡ true)
StateSpells state.AfterReturn end us = (keyword key.Return ∷ us ≡ written_return end) × (is_return end ≡ true)
StateSpells state.AfterSelect end us = (keyword key.Return ∷ keyword key.Select ∷ us ≡ written_return end) × (is_return end ≡ true)
StateSpells state.Case case us = (us ≡ written_case case) × (is_case case ≡ true)
StateSpells state.Cases cases us = (us ≡ flat_map written_case cases) × (list_all is_case cases ≡ true)
StateSpells state.MoreMasked values us = us ≡ after_commas written_masked values
StateSpells state.Target target us = us ≡ written_target target
StateSpells state.AfterError target us = keyword key.ParseError ∷ us ≡ written_target target

abbrev pub after_state : (w : StateWord) → StateValue w → Built → Built
after_state state.Statements statements b = record b { states = record b.states { statements = extended_by statements b.states.statements } }
after_state state.Value value b = with_value value b
after_state state.SelectValue value b = with_value value b
after_state state.AfterCurrent value b = with_value value b
after_state state.AfterLatest value b = with_value value b
after_state state.MoreValues values b = record b { states = record b.states { value_lists = extended_by values b.states.value_lists } }
after_state state.Return end b = record b { states = record b.states { ends = end ∷ b.states.ends } }
after_state state.AfterReturn end b = record b { states = record b.states { ends = end ∷ b.states.ends } }
after_state state.AfterSelect end b = record b { states = record b.states { ends = end ∷ b.states.ends } }
after_state state.Case case b = record b { states = record b.states { cases = extended (case ∷ []) b.states.cases } }
after_state state.Cases cases b = record b { states = record b.states { cases = extended_by cases b.states.cases } }
after_state state.MoreMasked values b = record b { states = record b.states { masked = extended_by values b.states.masked } }
after_state state.Target target b = record b { states = record b.states { targets = target ∷ b.states.targets } }
after_state state.AfterError target b = record b { states = record b.states { targets = target ∷ b.states.targets } }

-- actions

abbrev pub CallValue : CallWord → Type 0
CallValue called.Params = List (List ℕ)
CallValue called.Calls = List Call
CallValue called.Arg = Arg
CallValue called.Args = List Arg
CallValue called.MoreArgs = List Arg

abbrev pub CallSpells : (w : CallWord) → CallValue w → List Lexeme → Type 0
CallSpells called.Params names us = us ≡ by_commas written_name names
CallSpells called.Calls calls us = us ≡ flat_map written_call calls
CallSpells called.Arg argument us = us ≡ written_arg argument
CallSpells called.Args arguments us = us ≡ by_commas written_arg arguments
CallSpells called.MoreArgs arguments us = us ≡ after_commas written_arg arguments

abbrev pub after_call : (w : CallWord) → CallValue w → Built → Built
after_call called.Params names b = record b { parts = record b.parts { name_lists = extended_by names b.parts.name_lists } }
after_call called.Calls calls b = record b { calls = record b.calls { calls = extended_by calls b.calls.calls } }
after_call called.Arg argument b = record b { calls = record b.calls { arguments = extended (argument ∷ []) b.calls.arguments } }
after_call called.Args arguments b = record b { calls = record b.calls { arguments = extended_by arguments b.calls.arguments } }
after_call called.MoreArgs arguments b = record b { calls = record b.calls { arguments = extended_by arguments b.calls.arguments } }

-- tables

abbrev pub TableValue : TableWord → Type 0
TableValue table.Attr = TableAttr
TableValue table.Attrs = List TableAttr
TableValue table.MoreAttrs = List TableAttr
TableValue table.Timeout = Bool
TableValue table.Reads = List Read

-- the words of the attributes that the table has so far
abbrev pub table_words : Built → List (List ℕ)
table_words b = map table_word (newest [] b.tables.attributes)

abbrev pub TableSpells : (w : TableWord) → TableValue w → Built → List Lexeme → Type 0
TableSpells table.Attr attr b us =
    (us ≡ written_table_attr attr) × (is_table_attr attr ≡ true) × (is_among (table_word attr) table_needs ≡ false)
    × (is_among (table_word attr) (table_words b) ≡ false)
TableSpells table.Attrs attrs b us =
    (us ≡ flat_map written_table_attr attrs) × (list_all is_table_attr attrs ≡ true) × (has_word table_needs (map table_word attrs) ≡ true)
    × (has_word table_needs (table_words b) ≡ false → StayDifferent (table_words b) (map table_word attrs))
TableSpells table.MoreAttrs attrs b us =
    (us ≡ flat_map written_table_attr attrs) × (list_all is_table_attr attrs ≡ true) × StayDifferent (table_words b) (map table_word attrs)
TableSpells table.Timeout on b us = us ≡ written_truth on ++ semicolon ∷ []
TableSpells table.Reads reads b us = us ≡ flat_map written_read reads

abbrev pub after_table : (w : TableWord) → TableValue w → Built → Built
after_table table.Attr attr b = with_table_attr attr b
after_table table.Attrs attrs b = record b { tables = record b.tables { attributes = extended_by attrs b.tables.attributes } }
after_table table.MoreAttrs attrs b = record b { tables = record b.tables { attributes = extended_by attrs b.tables.attributes } }
after_table table.Timeout on b = with_table_attr (table_attr.SupportTimeout on) b
after_table table.Reads reads b = record b { tables = record b.tables { reads = extended_by reads b.tables.reads } }

-- counters, meters and registers

abbrev pub ObjectValue : ObjectWord → Type 0
ObjectValue object.Attr = StateAttr
ObjectValue object.CounterAttrs = List StateAttr
ObjectValue object.RegisterAttrs = List StateAttr
ObjectValue object.MoreAttrs = List StateAttr
ObjectValue object.CounterType = CounterType

-- the words of the attributes that the object has so far
abbrev pub object_words : Built → List (List ℕ)
object_words b = map state_word (newest [] b.objects)

-- the words of the attributes that counters, meters or registers need
abbrev pub object_needs : List (List ℕ)
object_needs = codes "type" ∷ codes "width" ∷ codes "layout" ∷ []

-- attributes, among which one of the words is that are needed, where none was before
abbrev pub NeededSpells : List (List ℕ) → List StateAttr → Built → List Lexeme → Type 0
NeededSpells needed attrs b us =
    (us ≡ flat_map written_state_attr attrs) × (has_word needed (map state_word attrs) ≡ true)
    × (has_word needed (object_words b) ≡ false → StayDifferent (object_words b) (map state_word attrs))

abbrev pub ObjectSpells : (w : ObjectWord) → ObjectValue w → Built → List Lexeme → Type 0
ObjectSpells object.Attr attr b us =
    (us ≡ written_state_attr attr) × (is_among (state_word attr) object_needs ≡ false) × (is_among (state_word attr) (object_words b) ≡ false)
ObjectSpells object.CounterAttrs attrs b us = NeededSpells counter_needs attrs b us
ObjectSpells object.RegisterAttrs attrs b us = NeededSpells register_needs attrs b us
ObjectSpells object.MoreAttrs attrs b us = (us ≡ flat_map written_state_attr attrs) × StayDifferent (object_words b) (map state_word attrs)
ObjectSpells object.CounterType type_ b us = us ≡ written_counter_type type_ ++ semicolon ∷ []

abbrev pub after_object : (w : ObjectWord) → ObjectValue w → Built → Built
after_object object.Attr attr b = with_state_attr attr b
after_object object.CounterAttrs attrs b = record b { objects = extended_by attrs b.objects }
after_object object.RegisterAttrs attrs b = record b { objects = extended_by attrs b.objects }
after_object object.MoreAttrs attrs b = record b { objects = extended_by attrs b.objects }
after_object object.CounterType type_ b = with_state_attr (state_attr.Counts type_) b

-- expressions and controls

-- what stands behind an `if` block, and whether a call of the control `else` follows
pub record ElsePart : Type 0 where
  pub other : Stmt
  pub calls : Bool

pub record BranchPart : Type 0 where
  pub label : Label
  pub inside : Stmt

abbrev pub BodyValue : BodyWord → Type 0
BodyValue (body.Expr least) = Expr
BodyValue (body.Operators least most) = Option Expr
BodyValue body.ExprInst = Inst
BodyValue body.Statements = List Stmt
BodyValue body.AfterApply = Stmt
BodyValue body.ApplyEnd = Stmt
BodyValue body.AfterIf = List Stmt
BodyValue body.ElseOption = ElsePart
BodyValue body.AfterElse = ElsePart
BodyValue body.Branches = List BranchPart

abbrev pub else_call : List Lexeme
else_call = keyword key.Else ∷ paren_open ∷ paren_close ∷ semicolon ∷ []

abbrev pub written_else : ElsePart → List Lexeme
written_else e = written_stmt e.other ++ cond e.calls else_call []

abbrev pub written_branch : BranchPart → List Lexeme
written_branch b = name (label_text b.label) ∷ in_braces (written_stmt b.inside)

abbrev pub is_branch : BranchPart → Bool
is_branch b = is_label b.label && is_stmt block b.inside

abbrev pub branch_text : BranchPart → List ℕ
branch_text b = label_text b.label

abbrev pub last_expr : Built → Expr
last_expr b = newest no_expr b.bodies.exprs

abbrev pub last_labels : Built → List (List ℕ)
last_labels b = newest [] b.bodies.labels

abbrev pub BodySpells : (w : BodyWord) → BodyValue w → Built → List Lexeme → Type 0
BodySpells (body.Expr least) e b us = (us ≡ written_expr e) × (nat_le least 12 ≡ true → is_expr least e ≡ true)
BodySpells (body.Operators least most) e b us =
    (written_expr (last_expr b) ++ us ≡ written_expr (unwrap_or e (last_expr b)))
    × (nat_le least most ≡ true → is_expr most (last_expr b) ≡ true → is_expr least (unwrap_or e (last_expr b)) ≡ true)
BodySpells body.ExprInst instance b us = (us ≡ written_inst instance) × (is_expression_name instance.name ≡ true)
BodySpells body.Statements ss b us = (us ≡ flat_map written_stmt ss) × (list_all (is_stmt statement) ss ≡ true)
BodySpells body.AfterApply s b us = (keyword key.Apply ∷ paren_open ∷ us ≡ written_stmt s) × (is_stmt statement s ≡ true)
BodySpells body.ApplyEnd s b us =
    (keyword key.Apply ∷ paren_open ∷ name (newest [] b.parts.names) ∷ paren_close ∷ us ≡ written_stmt s) × (is_stmt statement s ≡ true)
BodySpells body.AfterIf ss b us = (keyword key.If ∷ paren_open ∷ us ≡ flat_map written_stmt ss) × (list_all (is_stmt statement) ss ≡ true)
BodySpells body.ElseOption e b us = (us ≡ written_else e) × (is_stmt behind_if e.other ≡ true)
BodySpells body.AfterElse e b us = (keyword key.Else ∷ us ≡ written_else e) × (is_stmt behind_if e.other ≡ true)
BodySpells body.Branches bs b us =
    (us ≡ flat_map written_branch bs) × (list_all is_branch bs ≡ true) × (are_labels (last_labels b) ≡ true → are_labels (last_labels b ++ map branch_text bs) ≡ true)

-- the newest expression becomes the left operand of operators, where some follow
abbrev pub with_operators : Option Expr → List Expr → List Expr
with_operators None es = es
with_operators (Some e) es = e ∷ older es

abbrev pub with_stmts : List Stmt → List Stmt → List Stmt
with_stmts [] stack = stack
with_stmts (s ∷ ss) stack = with_stmts ss (with_stmt s stack)

abbrev pub with_branches : List BranchPart → List Stmt → List Stmt
with_branches [] stack = stack
with_branches (b ∷ bs) stack = with_branches bs (branch (newest no_statements stack) b.label b.inside ∷ older stack)

abbrev pub after_body : (w : BodyWord) → BodyValue w → Built → Built
after_body (body.Expr least) e b = record b { bodies = record b.bodies { exprs = e ∷ b.bodies.exprs } }
after_body (body.Operators least most) e b = record b { bodies = record b.bodies { exprs = with_operators e b.bodies.exprs } }
after_body body.ExprInst instance b = record b { parts = record b.parts { instances = instance ∷ b.parts.instances } }
after_body body.Statements ss b = on_stmts (with_stmts ss) b
after_body body.AfterApply s b = on_stmts (with_stmt s) b
after_body body.ApplyEnd s b = on_stmts (with_stmt s) (without_name b)
after_body body.AfterIf ss b = on_stmts (with_stmts ss) b
after_body body.ElseOption e b =
    record b { bodies = record b.bodies { stmts = e.other ∷ b.bodies.stmts; else_calls = e.calls ∷ b.bodies.else_calls } }
after_body body.AfterElse e b =
    record b { bodies = record b.bodies { stmts = e.other ∷ b.bodies.stmts; else_calls = e.calls ∷ b.bodies.else_calls } }
after_body body.Branches bs b =
    record b { bodies = record b.bodies { stmts = with_branches bs b.bodies.stmts; labels = extended_by (map branch_text bs) b.bodies.labels } }

-- the grammar

abbrev pub Value : Word → Type 0
Value (word.Part w) = PartValue w
Value (word.Header w) = HeaderValue w
Value (word.Calculation w) = CalculationValue w
Value (word.State w) = StateValue w
Value (word.Call w) = CallValue w
Value (word.Table w) = TableValue w
Value (word.Object w) = ObjectValue w
Value (word.Body w) = BodyValue w
Value word.LeftOutEnd = Option (List Lexeme)
Value word.Group = List Lexeme
Value word.Decls = List Decl

-- tokens between which braces are balanced change the depth of nothing behind them
abbrev pub IsBalanced : List Lexeme → Type 0
IsBalanced tokens = (depth : ℕ) (more : List Lexeme) → is_balanced depth (tokens ++ more) ≡ is_balanced depth more

abbrev pub SpellsWord : (w : Word) → Value w → Built → List Lexeme → Type 0
SpellsWord (word.Part w) value b us = PartSpells w value us
SpellsWord (word.Header w) value b us = HeaderSpells w value b us
SpellsWord (word.Calculation w) value b us = CalculationSpells w value us
SpellsWord (word.State w) value b us = StateSpells w value us
SpellsWord (word.Call w) value b us = CallSpells w value us
SpellsWord (word.Table w) value b us = TableSpells w value b us
SpellsWord (word.Object w) value b us = ObjectSpells w value b us
SpellsWord (word.Body w) value b us = BodySpells w value b us
SpellsWord word.LeftOutEnd group b us = (us ≡ written_group group) × (is_group group ≡ true)
SpellsWord word.Group tokens b us = (us ≡ tokens) × IsBalanced tokens
SpellsWord word.Decls decls b us = (us ≡ flat_map written_decl decls) × (list_all is_decl decls ≡ true)

abbrev pub with_tokens : List Lexeme → List (Option (List Lexeme)) → List (Option (List Lexeme))
with_tokens [] groups = groups
with_tokens (token ∷ tokens) groups = with_tokens tokens (extended_option token groups)

abbrev pub after_word : (w : Word) → Value w → Built → Built
after_word (word.Part w) value b = record b { parts = after_part w value b.parts }
after_word (word.Header w) value b = after_header w value b
after_word (word.Calculation w) value b = after_calculation w value b
after_word (word.State w) value b = after_state w value b
after_word (word.Call w) value b = after_call w value b
after_word (word.Table w) value b = after_table w value b
after_word (word.Object w) value b = after_object w value b
after_word (word.Body w) value b = after_body w value b
after_word word.LeftOutEnd group b = record b { groups = group ∷ b.groups }
after_word word.Group tokens b = record b { groups = with_tokens tokens b.groups }
after_word word.Decls decls b = record b { bodies = no_bodies; decls = b.decls ++ decls }

abbrev pub meaning14 : Meaning Word Lexeme Built
meaning14 = record { Value = Value; Spells = SpellsWord; after = after_word }
