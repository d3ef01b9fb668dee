-- What each action of the grammar builds: it takes the newest parts of some sorts and puts one in their place.
use Rattle.std.specs.Prelude.{ℕ, Bool, true, false, if◌then◌else◌, List, [], ◌∷◌, ◌++◌, Option, Some, None}
use Rattle.std.specs.Str.{bytes_eq}
use Rattle.p414_syntax.specs.declared.lexeme.Literal.{Literal}
use Rattle.p414_syntax.specs.declared.parts.Number.{Number}
use Rattle.p414_syntax.specs.declared.parts.Index.TheVariants as index
use Rattle.p414_syntax.specs.declared.parts.Inst.{Inst}
use Rattle.p414_syntax.specs.declared.parts.Ref.{Ref}
use Rattle.p414_syntax.specs.declared.headers.FieldWidth.TheVariants as width
use Rattle.p414_syntax.specs.declared.calculations.Item.{Item}
use Rattle.p414_syntax.specs.declared.calculations.Item.TheVariants as item
use Rattle.p414_syntax.specs.declared.calculations.CalcCond.TheVariants as condition
use Rattle.p414_syntax.specs.declared.parsers.PValue.{PValue}
use Rattle.p414_syntax.specs.declared.parsers.PValue.TheVariants as value
use Rattle.p414_syntax.specs.declared.parsers.PStmt.TheVariants as pstmt
use Rattle.p414_syntax.specs.declared.parsers.CaseValues.TheVariants as case_values
use Rattle.p414_syntax.specs.declared.parsers.CaseTarget.{CaseTarget}
use Rattle.p414_syntax.specs.declared.parsers.CaseTarget.TheVariants as target
use Rattle.p414_syntax.specs.declared.parsers.Return.{Return}
use Rattle.p414_syntax.specs.declared.parsers.Return.TheVariants as end_of
use Rattle.p414_syntax.specs.declared.actions.Arg.{Arg}
use Rattle.p414_syntax.specs.declared.actions.Arg.TheVariants as arg
use Rattle.p414_syntax.specs.declared.tables.ReadKey.{ReadKey}
use Rattle.p414_syntax.specs.declared.tables.ReadKey.TheVariants as read_key
use Rattle.p414_syntax.specs.declared.tables.TableAttr.{TableAttr}
use Rattle.p414_syntax.specs.declared.tables.TableAttr.TheVariants as table_attr
use Rattle.p414_syntax.specs.declared.objects.StateAttr.{StateAttr}
use Rattle.p414_syntax.specs.declared.objects.StateAttr.TheVariants as state_attr
use Rattle.p414_syntax.specs.declared.objects.Stateful.{Stateful}
use Rattle.p414_syntax.specs.declared.node.Label.{Label}
use Rattle.p414_syntax.specs.declared.node.Label.TheVariants as label
use Rattle.p414_syntax.specs.declared.syntax.Decl.{Decl}
use Rattle.p414_syntax.specs.declared.syntax.Decl.TheVariants as decl
use Rattle.p414_syntax.specs.Tree as tree
use Rattle.p414_syntax.specs.Tree.{Expr, valid, truth, field, number, parenthesized, unary, binary, Stmt, no_statements, apply, apply_branches, if_then, call, no_else, else_block, else_if, no_branches, branch}
use Rattle.p414_syntax.specs.Views.{TailTree, length_is, max_length_is}
use Rattle.p414_syntax.specs.Conditions.{is_bare}
use Rattle.p414_reader.specs.declared.symbols.PartAction.{PartAction}
use Rattle.p414_reader.specs.declared.symbols.PartAction.TheVariants as part
use Rattle.p414_reader.specs.declared.symbols.HeaderAction.{HeaderAction}
use Rattle.p414_reader.specs.declared.symbols.HeaderAction.TheVariants as header
use Rattle.p414_reader.specs.declared.symbols.CalculationAction.{CalculationAction}
use Rattle.p414_reader.specs.declared.symbols.CalculationAction.TheVariants as calculation
use Rattle.p414_reader.specs.declared.symbols.StateAction.{StateAction}
use Rattle.p414_reader.specs.declared.symbols.StateAction.TheVariants as state
use Rattle.p414_reader.specs.declared.symbols.CallAction.{CallAction}
use Rattle.p414_reader.specs.declared.symbols.CallAction.TheVariants as called
use Rattle.p414_reader.specs.declared.symbols.TableAction.{TableAction}
use Rattle.p414_reader.specs.declared.symbols.TableAction.TheVariants as table
use Rattle.p414_reader.specs.declared.symbols.ObjectAction.{ObjectAction}
use Rattle.p414_reader.specs.declared.symbols.ObjectAction.TheVariants as object
use Rattle.p414_reader.specs.declared.symbols.BodyAction.{BodyAction}
use Rattle.p414_reader.specs.declared.symbols.BodyAction.TheVariants as body
use Rattle.p414_reader.specs.declared.symbols.DeclKind.{DeclKind}
use Rattle.p414_reader.specs.declared.symbols.DeclKind.TheVariants as kind
use Rattle.p414_reader.specs.declared.symbols.Action.{Action}
use Rattle.p414_reader.specs.declared.symbols.Action.TheVariants as action
use Rattle.predictive_parser.specs.Values.{newest, older, extended, extended_option}
use Rattle.p414_reader.specs.declared.built.Built.{Built}
use Rattle.p414_reader.specs.internal.Bodies.{Bodies}
use Rattle.p414_reader.specs.internal.Built.{no_bodies}
use Rattle.p414_reader.specs.declared.parts.Parts.{Parts}
use Rattle.p414_reader.specs.declared.headers.Headers.{Headers}
use Rattle.p414_reader.specs.declared.calculations.Calculations.{Calculations}
use Rattle.p414_reader.specs.declared.states.States.{States}
use Rattle.p414_reader.specs.declared.calls.Calls.{Calls}
use Rattle.p414_reader.specs.declared.tables.Tables.{Tables}
use Rattle.p414_syntax.specs.declared.keyword.Keyword.TheVariants as key
use Rattle.p414_syntax.specs.Keywords.{keyword_text}

-- what stands in an empty place

abbrev pub no_literal : Literal
no_literal = record { width = None; value = 0 }

abbrev pub no_number : Number
no_number = record { sign = None; literal = no_literal }

abbrev pub no_instance : Inst
no_instance = record { name = []; index = None }

abbrev pub no_field : Ref
no_field = record { instance = no_instance; field = [] }

abbrev pub no_expr : Expr
no_expr = truth false

-- names, numbers, instances and fields

abbrev pub last_name : Parts → List ℕ
last_name p = newest [] p.names

abbrev pub last_literal : Parts → Literal
last_literal p = newest no_literal p.literals

abbrev pub last_instance : Parts → Inst
last_instance p = newest no_instance p.instances

abbrev pub last_field : Parts → Ref
last_field p = newest no_field p.fields

abbrev pub put_part : PartAction → Parts → Parts
put_part part.NoNames p = record p { name_lists = [] ∷ p.name_lists }
put_part part.AddName p = record p { names = older p.names; name_lists = extended (last_name p ∷ []) p.name_lists }
put_part part.NoLiteral p = record p { literal_options = None ∷ p.literal_options }
put_part part.SomeLiteral p = record p { literals = older p.literals; literal_options = Some (last_literal p) ∷ p.literal_options }
put_part (part.Number sign) p =
    record p { literals = older p.literals; numbers = record { sign = sign; literal = last_literal p } ∷ p.numbers }
put_part part.NoArguments p = record p { arguments = None ∷ p.arguments }
put_part part.EmptyArguments p = record p { arguments = Some [] ∷ p.arguments }
put_part part.AddNumber p = record p { numbers = older p.numbers; arguments = extended_option (newest no_number p.numbers) p.arguments }
put_part part.NoIndex p = record p { indexes = None ∷ p.indexes }
put_part part.IndexAt p = record p { literals = older p.literals; indexes = Some (index.At (last_literal p)) ∷ p.indexes }
put_part part.IndexNext p = record p { indexes = Some index.Next ∷ p.indexes }
put_part part.IndexLast p = record p { indexes = Some index.Last ∷ p.indexes }
put_part part.Inst p =
    record p { names = older p.names; indexes = older p.indexes; instances = record { name = last_name p; index = newest None p.indexes } ∷ p.instances }
put_part (part.InstOf k) p =
    record p { indexes = older p.indexes; instances = record { name = keyword_text k; index = newest None p.indexes } ∷ p.instances }
put_part part.Ref p =
    record p { names = older p.names; instances = older p.instances; fields = record { instance = last_instance p; field = last_name p } ∷ p.fields }
put_part (part.RefOf k) p =
    record p { names = older p.names; fields = record { instance = record { name = keyword_text k; index = None }; field = last_name p } ∷ p.fields }
put_part part.NoField p = record p { field_options = None ∷ p.field_options }
put_part part.SomeField p = record p { names = older p.names; field_options = Some (last_name p) ∷ p.field_options }

-- with these names, numbers, instances and fields, and these parts of one kind of declarations

abbrev pub with_headers : Parts → Headers → Built → Built
with_headers p h b = record b { parts = p; headers = h }

abbrev pub with_calculations : Parts → Calculations → Built → Built
with_calculations p c b = record b { parts = p; calculations = c }

abbrev pub with_states : Parts → States → Built → Built
with_states p s b = record b { parts = p; states = s }

abbrev pub with_calls : Parts → Calls → Built → Built
with_calls p c b = record b { parts = p; calls = c }

abbrev pub with_tables : Parts → Tables → Built → Built
with_tables p t b = record b { parts = p; tables = t }

abbrev pub with_objects : Parts → List (List StateAttr) → Built → Built
with_objects p o b = record b { parts = p; objects = o }

abbrev pub with_bodies : Parts → Bodies → Built → Built
with_bodies p bs b = record b { parts = p; bodies = bs }

abbrev pub without_name : Built → Built
without_name b = record b { parts = record b.parts { names = older b.parts.names } }

abbrev pub without_literal : Built → Built
without_literal b = record b { parts = record b.parts { literals = older b.parts.literals } }

abbrev pub without_number : Built → Built
without_number b = record b { parts = record b.parts { numbers = older b.parts.numbers } }

abbrev pub without_instance : Built → Built
without_instance b = record b { parts = record b.parts { instances = older b.parts.instances } }

abbrev pub without_field : Built → Built
without_field b = record b { parts = record b.parts { fields = older b.parts.fields } }

-- the newest instance and what stands behind it
abbrev pub without_place : Built → Built
without_place b = record b { parts = record b.parts { instances = older b.parts.instances; field_options = older b.parts.field_options } }

abbrev pub last_number : Built → Number
last_number b = newest no_number b.parts.numbers

-- header types and metadata

abbrev pub put_header : HeaderAction → Built → Built
put_header header.WidthBits b =
    record (without_literal b) { headers = record b.headers { widths = width.Bits (last_literal b.parts) ∷ b.headers.widths } }
put_header header.WidthRest b = record b { headers = record b.headers { widths = width.Rest ∷ b.headers.widths } }
put_header header.NoFields b = record b { headers = record b.headers { fields = [] ∷ b.headers.fields } }
put_header header.AddField b =
    record b {
      parts = record b.parts { names = older b.parts.names; name_lists = older b.parts.name_lists };
      headers = record b.headers {
        widths = older b.headers.widths;
        fields = extended (record { name = last_name b.parts; width = newest width.Rest b.headers.widths; attributes = newest [] b.parts.name_lists } ∷ []) b.headers.fields;
      };
    }
put_header header.NoInitials b = record b { headers = record b.headers { initials_options = None ∷ b.headers.initials_options } }
put_header header.EmptyInitials b = record b { headers = record b.headers { initials = [] ∷ b.headers.initials } }
put_header header.AddInitial b =
    record b {
      parts = record b.parts { names = older b.parts.names; numbers = older b.parts.numbers };
      headers = record b.headers { initials = extended (record { field = last_name b.parts; value = last_number b } ∷ []) b.headers.initials };
    }
put_header (header.SomeInitials semicolon) b =
    record b {
      headers = record b.headers {
        initials = older b.headers.initials;
        initials_options = Some (record { values = newest [] b.headers.initials; semicolon = semicolon }) ∷ b.headers.initials_options;
      };
    }

-- field lists and calculated fields

-- the instance, or its field, or the payload
abbrev pub item_of : Inst → Option (List ℕ) → Item
item_of i None = if is_bare (keyword_text key.Payload) i then item.Payload else item.Instance i
item_of i (Some f) = item.Field (record { instance = i; field = f })

abbrev pub with_item : Item → Built → Built
with_item i b = record b { calculations = record b.calculations { items = extended (i ∷ []) b.calculations.items } }

abbrev pub put_calculation : CalculationAction → Built → Built
put_calculation calculation.NoItems b = record b { calculations = record b.calculations { items = [] ∷ b.calculations.items } }
put_calculation calculation.AddItemNumber b = with_item (item.Number (last_literal b.parts)) (without_literal b)
put_calculation calculation.AddItem b = with_item (item_of (last_instance b.parts) (newest None b.parts.field_options)) (without_place b)
put_calculation calculation.NoCond b = record b { calculations = record b.calculations { conditions = None ∷ b.calculations.conditions } }
put_calculation calculation.CondValid b =
    record (without_instance b) { calculations = record b.calculations { conditions = Some (condition.Valid (last_instance b.parts)) ∷ b.calculations.conditions } }
put_calculation calculation.CondEqual b =
    record b {
      parts = record b.parts { fields = older b.parts.fields; literals = older b.parts.literals };
      calculations = record b.calculations { conditions = Some (condition.Equal (last_field b.parts) (last_literal b.parts)) ∷ b.calculations.conditions };
    }
put_calculation calculation.NoCalcs b = record b { calculations = record b.calculations { entries = [] ∷ b.calculations.entries } }
put_calculation (calculation.AddCalc use_) b =
    record (without_name b) {
      calculations = record b.calculations {
        conditions = older b.calculations.conditions;
        entries = extended (record { used_to = use_; calculation = last_name b.parts; condition = newest None b.calculations.conditions } ∷ []) b.calculations.entries;
      };
    }

-- parser states

abbrev pub no_value : PValue
no_value = value.Latest []

-- a field; without an index, a field of `latest` is one of the instance that was extracted last
abbrev pub value_of : Ref → PValue
value_of r = if is_bare (keyword_text key.Latest) r.instance then value.Latest r.field else value.Field r

abbrev pub with_value : PValue → Built → Built
with_value v b = record b { states = record b.states { values = v ∷ b.states.values } }

abbrev pub with_target : CaseTarget → Built → Built
with_target t b = record b { states = record b.states { targets = t ∷ b.states.targets } }

abbrev pub with_end : Return → Built → Built
with_end e b = record b { states = record b.states { ends = e ∷ b.states.ends } }

abbrev pub put_state : StateAction → Built → Built
put_state state.ValueCurrent b =
    with_value (value.Current (newest no_literal (older b.parts.literals)) (last_literal b.parts)) (without_literal (without_literal b))
put_state state.ValueLatest b = with_value (value.Latest (last_name b.parts)) (without_name b)
put_state state.ValueField b = with_value (value_of (last_field b.parts)) (without_field b)
put_state state.ValueNumber b = with_value (value.Number (last_number b)) (without_number b)
put_state state.NoValues b = record b { states = record b.states { value_lists = [] ∷ b.states.value_lists } }
put_state state.AddValue b =
    record b { states = record b.states { values = older b.states.values; value_lists = extended (newest no_value b.states.values ∷ []) b.states.value_lists } }
put_state state.NoStatements b = record b { states = record b.states { statements = [] ∷ b.states.statements } }
put_state state.AddExtract b =
    record (without_instance b) { states = record b.states { statements = extended (pstmt.Extract (last_instance b.parts) ∷ []) b.states.statements } }
put_state state.AddSetMetadata b =
    record (without_field b) {
      states = record b.states {
        values = older b.states.values;
        statements = extended (pstmt.SetMetadata (last_field b.parts) (newest no_value b.states.values) ∷ []) b.states.statements;
      };
    }
put_state state.NoMasked b = record b { states = record b.states { masked = [] ∷ b.states.masked } }
put_state state.AddMasked b =
    record b {
      parts = record b.parts { literals = older b.parts.literals; literal_options = older b.parts.literal_options };
      states = record b.states { masked = extended (record { value = last_literal b.parts; mask = newest None b.parts.literal_options } ∷ []) b.states.masked };
    }
put_state state.CaseMasked b =
    record b { states = record b.states { masked = older b.states.masked; case_values = case_values.Values (newest [] b.states.masked) ∷ b.states.case_values } }
put_state state.CaseDefault b = record b { states = record b.states { case_values = case_values.Default ∷ b.states.case_values } }
put_state state.TargetError b = with_target (target.ParseError (last_name b.parts)) (without_name b)
put_state state.TargetState b = with_target (target.State (last_name b.parts)) (without_name b)
put_state (state.TargetStateOf k) b = with_target (target.State (keyword_text k)) b
put_state state.NoCases b = record b { states = record b.states { cases = [] ∷ b.states.cases } }
put_state state.AddCase b =
    record b {
      states = record b.states {
        case_values = older b.states.case_values;
        targets = older b.states.targets;
        cases = extended (record { values = newest case_values.Default b.states.case_values; target = newest (target.State []) b.states.targets } ∷ []) b.states.cases;
      };
    }
put_state state.ReturnSelect b =
    record b {
      states = record b.states {
        value_lists = older b.states.value_lists;
        cases = older b.states.cases;
        ends = end_of.Select (newest [] b.states.value_lists) (newest [] b.states.cases) ∷ b.states.ends;
      };
    }
put_state state.ReturnState b = with_end (end_of.State (last_name b.parts)) (without_name b)
put_state (state.ReturnStateOf k) b = with_end (end_of.State (keyword_text k)) b
put_state state.ReturnError b = with_end (end_of.ParseError (last_name b.parts)) (without_name b)

-- actions

abbrev pub arg_of : Inst → Option (List ℕ) → Arg
arg_of i None = arg.Instance i
arg_of i (Some f) = arg.Field (record { instance = i; field = f })

abbrev pub with_arg : Arg → Built → Built
with_arg a b = record b { calls = record b.calls { arguments = extended (a ∷ []) b.calls.arguments } }

abbrev pub put_call : CallAction → Built → Built
put_call called.NoArgs b = record b { calls = record b.calls { arguments = [] ∷ b.calls.arguments } }
put_call called.AddArgNumber b = with_arg (arg.Number (last_number b)) (without_number b)
put_call called.AddArg b = with_arg (arg_of (last_instance b.parts) (newest None b.parts.field_options)) (without_place b)
put_call called.NoCalls b = record b { calls = record b.calls { calls = [] ∷ b.calls.calls } }
put_call called.AddCall b =
    record (without_name b) {
      calls = record b.calls {
        arguments = older b.calls.arguments;
        calls = extended (record { name = last_name b.parts; arguments = newest [] b.calls.arguments } ∷ []) b.calls.calls;
      };
    }

-- tables

abbrev pub key_of : Inst → Option (List ℕ) → ReadKey
key_of i None = read_key.Instance i
key_of i (Some f) = read_key.Field (record { instance = i; field = f })

abbrev pub with_table_attr : TableAttr → Built → Built
with_table_attr a b = record b { tables = record b.tables { attributes = extended (a ∷ []) b.tables.attributes } }

abbrev pub without_names : Built → Built
without_names b = record b { parts = record b.parts { name_lists = older b.parts.name_lists } }

abbrev pub put_table : TableAction → Built → Built
put_table table.NoReads b = record b { tables = record b.tables { reads = [] ∷ b.tables.reads } }
put_table table.AddRead b =
    record b {
      parts = record b.parts {
        names = older b.parts.names;
        instances = older b.parts.instances;
        field_options = older b.parts.field_options;
        literal_options = older b.parts.literal_options;
      };
      tables = record b.tables {
        reads = extended (record {
          key = key_of (last_instance b.parts) (newest None b.parts.field_options);
          mask = newest None b.parts.literal_options;
          kind = last_name b.parts;
        } ∷ []) b.tables.reads;
      };
    }
put_table table.NoAttrs b = record b { tables = record b.tables { attributes = [] ∷ b.tables.attributes } }
put_table table.AddReads b =
    record b {
      tables = record b.tables {
        reads = older b.tables.reads;
        attributes = extended (table_attr.Reads (newest [] b.tables.reads) ∷ []) b.tables.attributes;
      };
    }
put_table table.AddActions b = with_table_attr (table_attr.Actions (newest [] b.parts.name_lists)) (without_names b)
put_table table.AddMinSize b = with_table_attr (table_attr.MinSize (last_literal b.parts)) (without_literal b)
put_table table.AddMaxSize b = with_table_attr (table_attr.MaxSize (last_literal b.parts)) (without_literal b)
put_table table.AddSize b = with_table_attr (table_attr.Size (last_literal b.parts)) (without_literal b)
put_table (table.AddTimeout on) b = with_table_attr (table_attr.SupportTimeout on) b
put_table table.AddDefaultAction b =
    with_table_attr (table_attr.DefaultAction (last_name b.parts) (newest None b.parts.arguments))
    (record b { parts = record b.parts { names = older b.parts.names; arguments = older b.parts.arguments } })
put_table table.AddProfile b = with_table_attr (table_attr.ActionProfile (last_name b.parts)) (without_name b)

-- counters, meters and registers

abbrev pub with_state_attr : StateAttr → Built → Built
with_state_attr a b = record b { objects = extended (a ∷ []) b.objects }

abbrev pub put_object : ObjectAction → Built → Built
put_object object.NoAttrs b = record b { objects = [] ∷ b.objects }
put_object (object.AddCounts t) b = with_state_attr (state_attr.Counts t) b
put_object object.AddDirect b = with_state_attr (state_attr.Direct (last_name b.parts)) (without_name b)
put_object object.AddStatic b = with_state_attr (state_attr.Static (last_name b.parts)) (without_name b)
put_object object.AddLayout b = with_state_attr (state_attr.Layout (last_name b.parts)) (without_name b)
put_object object.AddResult b = with_state_attr (state_attr.Result (last_field b.parts)) (without_field b)
put_object object.AddInstanceCount b = with_state_attr (state_attr.InstanceCount (last_literal b.parts)) (without_literal b)
put_object object.AddWidth b = with_state_attr (state_attr.Width (last_literal b.parts)) (without_literal b)
put_object object.AddMinWidth b = with_state_attr (state_attr.MinWidth (last_literal b.parts)) (without_literal b)
put_object object.AddSaturating b = with_state_attr state_attr.Saturating b
put_object object.AddSigned b = with_state_attr state_attr.Signed b

-- expressions and controls

abbrev pub with_expr : Expr → Built → Built
with_expr e b = record b { bodies = record b.bodies { exprs = e ∷ b.bodies.exprs } }

-- the newest expression, or the two newest, are put under another
abbrev pub on_expr : (Expr → Expr) → List Expr → List Expr
on_expr f es = f (newest no_expr es) ∷ older es

abbrev pub on_exprs : (Expr → Expr → Expr) → List Expr → List Expr
on_exprs f es = f (newest no_expr (older es)) (newest no_expr es) ∷ older (older es)

abbrev pub on_body : (List Expr → List Expr) → Built → Built
on_body f b = record b { bodies = record b.bodies { exprs = f b.bodies.exprs } }

abbrev pub with_tail : (Expr → TailTree) → Bodies → Bodies
with_tail f bs = record bs { exprs = older bs.exprs; tails = extended (f (newest no_expr bs.exprs) ∷ []) bs.tails }

-- one more statement in the newest list of statements
abbrev pub with_stmt : Stmt → List Stmt → List Stmt
with_stmt s ss = tree.then (newest no_statements ss) s ∷ older ss

abbrev pub on_stmts : (List Stmt → List Stmt) → Built → Built
on_stmts f b = record b { bodies = record b.bodies { stmts = f b.bodies.stmts } }

abbrev pub last_stmt : Bodies → Stmt
last_stmt bs = newest no_statements bs.stmts

-- an action's name, or a word of its own
abbrev pub label_of : List ℕ → Label
label_of text =
    if bytes_eq (keyword_text key.Hit) text then label.Hit
    else (if bytes_eq (keyword_text key.Miss) text then label.Miss
    else (if bytes_eq (keyword_text key.Default) text then label.Default
    else label.Action text))

-- the `if` statement of the newest condition, block and what stands behind it
abbrev pub last_if : Bodies → Stmt
last_if bs = if_then (newest no_expr bs.exprs) (newest no_statements (older bs.stmts)) (last_stmt bs)

-- the statements with a call of the control `else` behind them, where one stands
abbrev pub with_else_call : Bool → List Stmt → List Stmt
with_else_call true ss = with_stmt (call (keyword_text key.Else)) ss
with_else_call false ss = ss

-- nothing stands behind the block, and then a control `else` is called or not
abbrev pub with_no_else : Bool → Built → Built
with_no_else is_called b = record b { bodies = record b.bodies { stmts = no_else ∷ b.bodies.stmts; else_calls = is_called ∷ b.bodies.else_calls } }

abbrev pub put_body : BodyAction → Built → Built
put_body body.Number b = with_expr (number (last_literal b.parts)) (without_literal b)
put_body (body.Truth value) b = with_expr (truth value) b
put_body body.Valid b = with_expr (valid (last_instance b.parts)) (without_instance b)
put_body body.Field b = with_expr (field (last_field b.parts)) (without_field b)
put_body body.Parenthesized b = on_body (on_expr parenthesized) b
put_body (body.Unary operator) b = on_body (on_expr (unary operator)) b
put_body (body.Binary operator) b = on_body (on_exprs (binary operator)) b
put_body body.NoTails b = record b { bodies = record b.bodies { tails = [] ∷ b.bodies.tails } }
put_body body.AddLength b = record b { bodies = with_tail length_is b.bodies }
put_body body.AddMaxLength b = record b { bodies = with_tail max_length_is b.bodies }
put_body body.NoStatements b = on_stmts (λ ss. no_statements ∷ ss) b
put_body body.AddCall b = on_stmts (with_stmt (call (last_name b.parts))) (without_name b)
put_body (body.AddCallOf k) b = on_stmts (with_stmt (call (keyword_text k))) b
put_body body.AddApply b = on_stmts (with_stmt (apply (last_name b.parts))) (without_name b)
put_body body.NoBranches b = record b { bodies = record b.bodies { stmts = no_branches ∷ b.bodies.stmts; labels = [] ∷ b.bodies.labels } }
put_body body.AddBranch b =
    on_stmts (λ ss. branch (newest no_statements (older ss)) (label_of (last_name b.parts)) (newest no_statements ss) ∷ older (older ss)) (without_name b)
put_body body.AddApplyBranches b =
    record (without_name b) {
      bodies = record b.bodies {
        stmts = with_stmt (apply_branches (last_name b.parts) (last_stmt b.bodies)) (older b.bodies.stmts);
        labels = older b.bodies.labels;
      };
    }
put_body body.NoElse b = with_no_else false b
put_body body.NoElseThenCall b = with_no_else true b
put_body body.ElseBlock b =
    record b { bodies = record b.bodies { stmts = else_block (last_stmt b.bodies) ∷ older b.bodies.stmts; else_calls = false ∷ b.bodies.else_calls } }
put_body body.ElseIf b =
    record b { bodies = record b.bodies { exprs = older b.bodies.exprs; stmts = else_if (last_if b.bodies) ∷ older (older b.bodies.stmts) } }
put_body body.AddIf b =
    record b {
      bodies = record b.bodies {
        exprs = older b.bodies.exprs;
        stmts = with_else_call (newest false b.bodies.else_calls) (with_stmt (last_if b.bodies) (older (older b.bodies.stmts)));
        else_calls = older b.bodies.else_calls;
      };
    }

-- declarations

abbrev pub with_decl : Decl → Built → Built
with_decl d b = record b { bodies = no_bodies; decls = b.decls ++ d ∷ [] }

abbrev pub stateful_of : Built → Stateful
stateful_of b = record { name = last_name b.parts; attributes = newest [] b.objects }

abbrev pub without_object : Built → Built
without_object b = record (without_name b) { objects = older b.objects }

abbrev pub put_decl : DeclKind → Built → Built
put_decl kind.HeaderType b =
    with_decl (decl.HeaderType (record { name = last_name b.parts; fields = newest [] b.headers.fields; tails = newest [] b.bodies.tails }))
    (record (without_name b) { headers = record b.headers { fields = older b.headers.fields } })
put_decl kind.Header b =
    with_decl (decl.Header (record { header_type = newest [] (older b.parts.names); name = last_name b.parts; size = newest None b.parts.literal_options }))
    (record b { parts = record b.parts { names = older (older b.parts.names); literal_options = older b.parts.literal_options } })
put_decl kind.Metadata b =
    with_decl (decl.Metadata (record { header_type = newest [] (older b.parts.names); name = last_name b.parts; initials = newest None b.headers.initials_options }))
    (record b {
      parts = record b.parts { names = older (older b.parts.names) };
      headers = record b.headers { initials_options = older b.headers.initials_options };
    })
put_decl kind.FieldList b =
    with_decl (decl.FieldList (record { name = last_name b.parts; items = newest [] b.calculations.items }))
    (record (without_name b) { calculations = record b.calculations { items = older b.calculations.items } })
put_decl kind.FieldListCalculation b =
    with_decl (decl.FieldListCalculation (record {
      name = newest [] (older b.parts.names);
      input = newest [] b.parts.name_lists;
      algorithm = last_name b.parts;
      output_width = last_literal b.parts;
    }))
    (record b {
      parts = record b.parts { names = older (older b.parts.names); name_lists = older b.parts.name_lists; literals = older b.parts.literals };
    })
put_decl kind.CalculatedField b =
    with_decl (decl.CalculatedField (record { field = last_field b.parts; entries = newest [] b.calculations.entries }))
    (record (without_field b) { calculations = record b.calculations { entries = older b.calculations.entries } })
put_decl kind.Parser b =
    with_decl (decl.Parser (record { name = last_name b.parts; statements = newest [] b.states.statements; end = newest (end_of.State []) b.states.ends }))
    (record (without_name b) { states = record b.states { statements = older b.states.statements; ends = older b.states.ends } })
put_decl kind.Action b =
    with_decl (decl.Action (record { name = last_name b.parts; parameters = newest [] b.parts.name_lists; calls = newest [] b.calls.calls }))
    (record b {
      parts = record b.parts { names = older b.parts.names; name_lists = older b.parts.name_lists };
      calls = record b.calls { calls = older b.calls.calls };
    })
put_decl kind.Table b =
    with_decl (decl.Table (record { name = last_name b.parts; attributes = newest [] b.tables.attributes }))
    (record (without_name b) { tables = record b.tables { attributes = older b.tables.attributes } })
put_decl kind.Counter b = with_decl (decl.Counter (stateful_of b)) (without_object b)
put_decl kind.Meter b = with_decl (decl.Meter (stateful_of b)) (without_object b)
put_decl kind.Register b = with_decl (decl.Register (stateful_of b)) (without_object b)
put_decl kind.Control b = with_decl (decl.Control (record { name = last_name b.parts; body = last_stmt b.bodies })) (without_name b)
put_decl (kind.LeftOut k) b =
    with_decl (decl.LeftOut (record { kind = k; name = last_name b.parts; group = newest None b.groups })) (record (without_name b) { groups = older b.groups })

-- what is built once the action is done
abbrev pub put : Action → Built → Built
put (action.Part a) b = record b { parts = put_part a b.parts }
put (action.Header a) b = put_header a b
put (action.Calculation a) b = put_calculation a b
put (action.State a) b = put_state a b
put (action.Call a) b = put_call a b
put (action.Table a) b = put_table a b
put (action.Object a) b = put_object a b
put (action.Body a) b = put_body a b
put action.NoGroup b = record b { groups = None ∷ b.groups }
put action.EmptyGroup b = record b { groups = Some [] ∷ b.groups }
put (action.AddDecl k) b = put_decl k b
put action.EndDecls b = record b { bodies = no_bodies }
