-- The names that a program uses, each with what is wanted there, in the order of the text (P4_14 1.0.5, "P4 BNF
-- Grammar", "Primitive Actions", "Parser Specification", "Table Declarations"). A name that no sort is asked for is
-- no use: the name of a parser exception, an algorithm or an action profile, and what follows `result` in a meter
-- that isn't direct. What follows `static`, `layout` or another `result` is a use, though it has no effect or is left
-- out.
use Rattle.std.specs.Prelude.{Bool, true, is_some, if◌then◌else◌, List, [], ◌∷◌, ◌++◌, Option, Some, None, map, flat_map, option_to_list}
use Rattle.p414_syntax.specs.declared.parts.Inst.{Inst}
use Rattle.p414_syntax.specs.declared.parts.Ref.{Ref}
use Rattle.p414_syntax.specs.declared.headers.Initial.{Initial}
use Rattle.p414_syntax.specs.declared.calculations.Item.{Item}
use Rattle.p414_syntax.specs.declared.calculations.Item.TheVariants as item
use Rattle.p414_syntax.specs.declared.calculations.CalcCond.{CalcCond}
use Rattle.p414_syntax.specs.declared.calculations.CalcCond.TheVariants as calc_cond
use Rattle.p414_syntax.specs.declared.calculations.Calc.{Calc}
use Rattle.p414_syntax.specs.declared.calculations.CalculatedField.{CalculatedField}
use Rattle.p414_syntax.specs.declared.parsers.PValue.{PValue}
use Rattle.p414_syntax.specs.declared.parsers.PValue.TheVariants as pvalue
use Rattle.p414_syntax.specs.declared.parsers.PStmt.{PStmt}
use Rattle.p414_syntax.specs.declared.parsers.PStmt.TheVariants as pstmt
use Rattle.p414_syntax.specs.declared.parsers.CaseTarget.{CaseTarget}
use Rattle.p414_syntax.specs.declared.parsers.CaseTarget.TheVariants as case_target
use Rattle.p414_syntax.specs.declared.parsers.Case.{Case}
use Rattle.p414_syntax.specs.declared.parsers.Return.{Return}
use Rattle.p414_syntax.specs.declared.parsers.Return.TheVariants as end_of
use Rattle.p414_syntax.specs.declared.parsers.Parser.{Parser}
use Rattle.p414_syntax.specs.declared.actions.Arg.{Arg}
use Rattle.p414_syntax.specs.declared.actions.Arg.TheVariants as arg
use Rattle.p414_syntax.specs.declared.actions.Call.{Call}
use Rattle.p414_syntax.specs.declared.actions.Action.{Action}
use Rattle.p414_syntax.specs.declared.tables.ReadKey.{ReadKey}
use Rattle.p414_syntax.specs.declared.tables.ReadKey.TheVariants as read_key
use Rattle.p414_syntax.specs.declared.tables.Read.{Read}
use Rattle.p414_syntax.specs.declared.tables.TableAttr.{TableAttr}
use Rattle.p414_syntax.specs.declared.tables.TableAttr.TheVariants as table_attr
use Rattle.p414_syntax.specs.declared.objects.StateAttr.{StateAttr}
use Rattle.p414_syntax.specs.declared.objects.StateAttr.TheVariants as state_attr
use Rattle.p414_syntax.specs.declared.node.Label.{Label}
use Rattle.p414_syntax.specs.declared.node.Label.TheVariants as label
use Rattle.p414_syntax.specs.declared.syntax.Decl.{Decl}
use Rattle.p414_syntax.specs.declared.syntax.Decl.TheVariants as decl
use Rattle.p414_syntax.specs.declared.syntax.Sort.{Sort}
use Rattle.p414_syntax.specs.declared.syntax.Sort.TheVariants as sort
use Rattle.p414_syntax.specs.Tree.{Expr, valid, field, Stmt, apply, apply_branches, if_then, call, branch}
use Rattle.p414_syntax.specs.Views.{HeaderTypeTree}
use Rattle.p414_syntax.specs.Subtrees.{subexpressions, subtrees}
use Rattle.p414_syntax.specs.Attributes.{length_of, max_length_of, initials_of, direct_table_of}
use Rattle.p414_syntax.specs.declared.place.ArgumentPlace.{ArgumentPlace}
use Rattle.p414_syntax.specs.declared.place.ArgumentPlace.TheVariants as place
use Rattle.p414_syntax.specs.Names.{Name, has_name}
use Rattle.p414_syntax.specs.Primitives.{primitive_places, is_any_primitive}

-- a use of a name, by what is wanted
pub data Use : Type 0 where
  -- a name that is declared in this sort
  of_sort : (sort : Sort) (name : Name) → Use
  -- an action or a primitive
  of_action : (name : Name) → Use
  -- a parser state, or the control `ingress`
  of_next_state : (name : Name) → Use
  -- a control
  of_control : (name : Name) → Use
  -- an instance or a stack, without an index: where it has another form than is wanted, a higher rule is broken
  of_any_instance : (name : Name) → Use
  -- one instance
  of_instance : (instance : Inst) → Use
  -- what is extracted: one instance, or the next element of a stack
  of_extracted : (instance : Inst) → Use
  -- an instance with all its fields, or without an index a field list
  of_item : (instance : Inst) → Use
  -- a field of one instance
  of_field : (field : Ref) → Use
  -- a field of what the state extracted last, if it has extracted anything
  of_latest : (last : Option Inst) (field : Name) → Use
  -- a field of a header type
  of_type_field : (header_type field : Name) → Use

-- expressions of header types and controls

abbrev pub own_operand : Expr → List Use
own_operand (valid i) = of_instance i ∷ []
own_operand (field r) = of_field r ∷ []
own_operand _ = []

abbrev pub uses_of_expr : Expr → List Use
uses_of_expr e = flat_map own_operand (subexpressions e)

-- the expressions behind `length` and `max_length`
abbrev pub tail_expressions : HeaderTypeTree → List Expr
tail_expressions t = option_to_list (length_of t.tails) ++ option_to_list (max_length_of t.tails)

-- metadata: an initial value is that of a field of the instance's type

abbrev pub use_of_initial : Name → Initial → Use
use_of_initial header_type i = of_type_field header_type i.field

-- field lists and calculations

abbrev pub uses_of_item : Item → List Use
uses_of_item item.Payload = []
uses_of_item (item.Number n) = []
uses_of_item (item.Field r) = of_field r ∷ []
uses_of_item (item.Instance i) = of_item i ∷ []

abbrev pub uses_of_condition : CalcCond → List Use
uses_of_condition (calc_cond.Valid i) = of_instance i ∷ []
uses_of_condition (calc_cond.Equal r n) = of_field r ∷ []

abbrev pub uses_of_calc : Calc → List Use
uses_of_calc c =
    of_sort sort.Calculation c.calculation ∷ flat_map uses_of_condition (option_to_list c.condition)

abbrev pub uses_of_calculated : CalculatedField → List Use
uses_of_calculated c = of_field c.field ∷ flat_map uses_of_calc c.entries

-- parser states; `last` is what the state extracted last

abbrev pub uses_of_value : Option Inst → PValue → List Use
uses_of_value last (pvalue.Current offset bits) = []
uses_of_value last (pvalue.Latest f) = of_latest last f ∷ []
uses_of_value last (pvalue.Field r) = of_field r ∷ []
uses_of_value last (pvalue.Number n) = []

-- what was extracted last behind a statement
abbrev pub last_behind : Option Inst → PStmt → Option Inst
last_behind last (pstmt.Extract i) = Some i
last_behind last (pstmt.SetMetadata r v) = last

-- what was extracted last behind these statements
abbrev pub last_of : Option Inst → List PStmt → Option Inst
last_of last [] = last
last_of last (s ∷ ss) = last_of (last_behind last s) ss

abbrev pub uses_of_statement : Option Inst → PStmt → List Use
uses_of_statement last (pstmt.Extract i) = of_extracted i ∷ []
uses_of_statement last (pstmt.SetMetadata r v) = of_field r ∷ uses_of_value last v

abbrev pub uses_of_statements : Option Inst → List PStmt → List Use
uses_of_statements last [] = []
uses_of_statements last (s ∷ ss) = uses_of_statement last s ++ uses_of_statements (last_behind last s) ss

abbrev pub uses_of_target : CaseTarget → List Use
uses_of_target (case_target.ParseError name) = []
uses_of_target (case_target.State name) = of_next_state name ∷ []

abbrev pub uses_of_case : Case → List Use
uses_of_case c = uses_of_target c.target

abbrev pub uses_of_return : Option Inst → Return → List Use
uses_of_return last (end_of.Select vs cs) = flat_map (uses_of_value last) vs ++ flat_map uses_of_case cs
uses_of_return last (end_of.State name) = of_next_state name ∷ []
uses_of_return last (end_of.ParseError name) = []

abbrev pub uses_of_state : Parser → List Use
uses_of_state p = uses_of_statements None p.statements ++ uses_of_return (last_of None p.statements) p.end

-- actions

-- a name by itself where an argument of this place is wanted
abbrev pub uses_of_bare : ArgumentPlace → Inst → List Use
uses_of_bare place.Target i = of_any_instance i.name ∷ []
uses_of_bare place.Source i = of_any_instance i.name ∷ []
uses_of_bare place.Unsigned i = of_any_instance i.name ∷ []
uses_of_bare place.Elements i = of_any_instance i.name ∷ []
uses_of_bare place.Stack i = of_any_instance i.name ∷ []
uses_of_bare place.Header i = of_instance i ∷ []
uses_of_bare place.Counter i = of_sort sort.Object i.name ∷ []
uses_of_bare place.Register i = of_sort sort.Object i.name ∷ []
uses_of_bare place.Meter i = of_sort sort.Object i.name ∷ []
uses_of_bare place.Calculation i = of_sort sort.Calculation i.name ∷ []
uses_of_bare place.List i = of_sort sort.List i.name ∷ []

-- the same, where the primitive may have no such argument: then a name by itself isn't judged
abbrev pub uses_of_placed : Option ArgumentPlace → Inst → List Use
uses_of_placed (Some p) i = uses_of_bare p i
uses_of_placed None i = []

-- A name by itself that is a parameter means the parameter. What has an index is an instance.
abbrev pub uses_of_named : (Name → Bool) → Option ArgumentPlace → Inst → List Use
uses_of_named is_parameter p i =
    if is_some i.index then of_instance i ∷ []
    else if is_parameter i.name then []
    else uses_of_placed p i

abbrev pub uses_of_arg : (Name → Bool) → Option ArgumentPlace → Arg → List Use
uses_of_arg is_parameter p (arg.Number n) = []
uses_of_arg is_parameter p (arg.Field r) = of_field r ∷ []
uses_of_arg is_parameter p (arg.Instance i) = uses_of_named is_parameter p i

-- the first of these places, and those behind it
abbrev pub first_place : List ArgumentPlace → Option ArgumentPlace
first_place [] = None
first_place (p ∷ ps) = Some p

abbrev pub further_places : List ArgumentPlace → List ArgumentPlace
further_places [] = []
further_places (p ∷ ps) = ps

-- the arguments of a primitive, one place after another
abbrev pub uses_of_args : (Name → Bool) → List ArgumentPlace → List Arg → List Use
uses_of_args is_parameter ps [] = []
uses_of_args is_parameter ps (a ∷ args) =
    uses_of_arg is_parameter (first_place ps) a ++ uses_of_args is_parameter (further_places ps) args

-- each argument of an action that a program declares is a source
abbrev pub uses_of_sources : (Name → Bool) → List Arg → List Use
uses_of_sources is_parameter args = flat_map (uses_of_arg is_parameter (Some place.Source)) args

abbrev pub uses_of_arguments : (Name → Bool) → Name → List Arg → List Use
uses_of_arguments is_parameter callee args =
    if is_any_primitive callee then uses_of_args is_parameter (primitive_places callee) args
    else uses_of_sources is_parameter args

abbrev pub uses_of_call : (Name → Bool) → Call → List Use
uses_of_call is_parameter c = of_action c.name ∷ uses_of_arguments is_parameter c.name c.arguments

abbrev pub uses_of_declared_action : Action → List Use
uses_of_declared_action a = flat_map (uses_of_call (has_name a.parameters)) a.calls

-- tables: what a table lists is an action that the program declares; its default may be a primitive, which a higher
-- rule judges

abbrev pub uses_of_key : ReadKey → List Use
uses_of_key (read_key.Field r) = of_field r ∷ []
uses_of_key (read_key.Instance i) = of_instance i ∷ []

abbrev pub uses_of_read : Read → List Use
uses_of_read r = uses_of_key r.key

abbrev pub uses_of_table_attr : TableAttr → List Use
uses_of_table_attr (table_attr.Reads rs) = flat_map uses_of_read rs
uses_of_table_attr (table_attr.Actions names) = map (of_sort sort.Action) names
uses_of_table_attr (table_attr.DefaultAction name arguments) = of_action name ∷ []
uses_of_table_attr _ = []

-- counters, meters and registers; `result` is a use where `judged`

abbrev pub uses_of_state_attr : Bool → StateAttr → List Use
uses_of_state_attr judged (state_attr.Direct t) = of_sort sort.Table t ∷ []
uses_of_state_attr judged (state_attr.Static t) = of_sort sort.Table t ∷ []
uses_of_state_attr judged (state_attr.Layout t) = of_sort sort.HeaderType t ∷ []
uses_of_state_attr true (state_attr.Result r) = of_field r ∷ []
uses_of_state_attr judged _ = []

abbrev pub uses_of_meter : List StateAttr → List Use
uses_of_meter attributes = flat_map (uses_of_state_attr (is_some (direct_table_of attributes))) attributes

-- controls

abbrev pub uses_of_label : Label → List Use
uses_of_label (label.Action a) = of_action a ∷ []
uses_of_label _ = []

abbrev pub own_uses : Stmt → List Use
own_uses (apply t) = of_sort sort.Table t ∷ []
own_uses (apply_branches t bs) = of_sort sort.Table t ∷ []
own_uses (if_then c body other) = uses_of_expr c
own_uses (call c) = of_control c ∷ []
own_uses (branch before l body) = uses_of_label l
own_uses _ = []

-- all uses in a declaration
abbrev pub uses_of : Decl → List Use
uses_of (decl.HeaderType x) = flat_map uses_of_expr (tail_expressions x)
uses_of (decl.Header x) = of_sort sort.HeaderType x.header_type ∷ []
uses_of (decl.Metadata x) =
    of_sort sort.HeaderType x.header_type ∷ map (use_of_initial x.header_type) (initials_of x.initials)
uses_of (decl.FieldList x) = flat_map uses_of_item x.items
uses_of (decl.FieldListCalculation x) = map (of_sort sort.List) x.input
uses_of (decl.CalculatedField x) = uses_of_calculated x
uses_of (decl.Parser x) = uses_of_state x
uses_of (decl.Action x) = uses_of_declared_action x
uses_of (decl.Table x) = flat_map uses_of_table_attr x.attributes
uses_of (decl.Counter x) = flat_map (uses_of_state_attr true) x.attributes
uses_of (decl.Meter x) = uses_of_meter x.attributes
uses_of (decl.Register x) = flat_map (uses_of_state_attr true) x.attributes
uses_of (decl.Control x) = flat_map own_uses (subtrees x.body)
uses_of (decl.LeftOut x) = []

-- all uses of a program
abbrev pub uses : List Decl → List Use
uses ds = flat_map uses_of ds
