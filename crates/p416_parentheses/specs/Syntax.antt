-- A syntax with the parentheses that are written around its expressions: around a part they stand as Expressions.antt says. The
-- condition of an `if`, an argument list, and a value that is a keyset by itself stand without more around them: the first two
-- in parentheses of their own, and a keyset in parentheses would be a tuple (P4_16 1.2, "Expressions" and "Select expressions";
-- where more of them stand than have to, is this project's own).
use Rattle.std.specs.Prelude.{map}
use Rattle.std.specs.Option.{option_map}
use Rattle.p416_syntax.specs.declared.parsers.Var.{Var}
use Rattle.p416_syntax.specs.declared.parsers.Simple.{Simple}
use Rattle.p416_syntax.specs.declared.parsers.Simple.TheVariants as simple
use Rattle.p416_syntax.specs.declared.parsers.Keyset.{Keyset}
use Rattle.p416_syntax.specs.declared.parsers.Keyset.TheVariants as keyset
use Rattle.p416_syntax.specs.declared.parsers.SelectCase.{SelectCase}
use Rattle.p416_syntax.specs.declared.parsers.Transition.{Transition}
use Rattle.p416_syntax.specs.declared.parsers.Transition.TheVariants as transition
use Rattle.p416_syntax.specs.declared.parsers.State.{State}
use Rattle.p416_syntax.specs.declared.parsers.Parser16.{Parser16}
use Rattle.p416_syntax.specs.declared.controls.Instance.{Instance}
use Rattle.p416_syntax.specs.declared.controls.Instance.TheVariants as instance
use Rattle.p416_syntax.specs.declared.controls.Action16.{Action16}
use Rattle.p416_syntax.specs.declared.controls.TableKey.{TableKey}
use Rattle.p416_syntax.specs.declared.controls.Property.{Property}
use Rattle.p416_syntax.specs.declared.controls.Property.TheVariants as property
use Rattle.p416_syntax.specs.declared.controls.Table16.{Table16}
use Rattle.p416_syntax.specs.declared.controls.Local.{Local}
use Rattle.p416_syntax.specs.declared.controls.Local.TheVariants as local
use Rattle.p416_syntax.specs.declared.controls.Control16.{Control16}
use Rattle.p416_syntax.specs.declared.program.Decl16.{Decl16}
use Rattle.p416_syntax.specs.declared.program.Decl16.TheVariants as decl
use Rattle.p416_syntax.specs.declared.program.Syntax16.{Syntax16}
use Rattle.p416_syntax.specs.Tree.{Stmt16, no_statements, then, block, empty, var, var_is, assign, expression, if_then, if_else, switch, no_cases, case_of}
use Rattle.p416_parentheses.specs.Expressions.{within, full}

abbrev pub full_stmt : Stmt16 → Stmt16
full_stmt no_statements = no_statements
full_stmt (then before last) = then (full_stmt before) (full_stmt last)
full_stmt (block statements) = block (full_stmt statements)
full_stmt empty = empty
full_stmt (var of text) = var of text
full_stmt (var_is of text value) = var_is of text (full value)
full_stmt (assign target value) = assign (full target) (full value)
full_stmt (expression e) = expression (full e)
full_stmt (if_then c holds) = if_then (within c) (full_stmt holds)
full_stmt (if_else c holds other) = if_else (within c) (full_stmt holds) (full_stmt other)
full_stmt (switch table cases) = switch table (full_stmt cases)
full_stmt no_cases = no_cases
full_stmt (case_of before label statements) = case_of (full_stmt before) label (full_stmt statements)

abbrev pub full_var : Var → Var
full_var v = record { of = v.of; name = v.name; initial = option_map full v.initial }

abbrev pub full_simple : Simple → Simple
full_simple simple.Default = simple.Default
full_simple simple.Any = simple.Any
full_simple (simple.Mask a b) = simple.Mask (full a) (full b)
full_simple (simple.Range a b) = simple.Range (full a) (full b)
full_simple (simple.Value e) = simple.Value (full e)

-- what is a keyset by itself
abbrev pub full_one : Simple → Simple
full_one simple.Default = simple.Default
full_one simple.Any = simple.Any
full_one (simple.Mask a b) = simple.Mask (full a) (full b)
full_one (simple.Range a b) = simple.Range (full a) (full b)
full_one (simple.Value e) = simple.Value (within e)

abbrev pub full_keyset : Keyset → Keyset
full_keyset (keyset.Tuple ss) = keyset.Tuple (map full_simple ss)
full_keyset (keyset.One s) = keyset.One (full_one s)

abbrev pub full_case : SelectCase → SelectCase
full_case c = record { keyset = full_keyset c.keyset; target = c.target }

abbrev pub full_transition : Transition → Transition
full_transition (transition.Go t) = transition.Go t
full_transition (transition.Select es cs) = transition.Select (map full es) (map full_case cs)

abbrev pub full_state : State → State
full_state s = record { name = s.name; body = full_stmt s.body; transition = full_transition s.transition }

abbrev pub full_parser : Parser16 → Parser16
full_parser p = record { name = p.name; parameters = p.parameters; vars = map full_var p.vars; states = map full_state p.states }

abbrev pub full_instance : Instance → Instance
full_instance (instance.Counter size m text) = instance.Counter (full size) m text
full_instance (instance.DirectCounter m text) = instance.DirectCounter m text
full_instance (instance.Register width size text) = instance.Register width (full size) text
full_instance (instance.Meter size m text) = instance.Meter (full size) m text

abbrev pub full_action : Action16 → Action16
full_action a = record { notes = a.notes; name = a.name; parameters = a.parameters; body = full_stmt a.body }

abbrev pub full_key : TableKey → TableKey
full_key k = record { exp = full k.exp; kind = k.kind; notes = k.notes }

abbrev pub full_property : Property → Property
full_property (property.Key ks) = property.Key (map full_key ks)
full_property (property.Actions names) = property.Actions names
full_property (property.Size n) = property.Size n
full_property (property.Counters text) = property.Counters text
full_property (property.DefaultAction a arguments) = property.DefaultAction a (within arguments)

abbrev pub full_table : Table16 → Table16
full_table t = record { notes = t.notes; name = t.name; properties = map full_property t.properties }

abbrev pub full_local : Local → Local
full_local (local.Instance notes i) = local.Instance notes (full_instance i)
full_local (local.Var v) = local.Var (full_var v)
full_local (local.Action a) = local.Action (full_action a)
full_local (local.Table t) = local.Table (full_table t)

abbrev pub full_control : Control16 → Control16
full_control c = record { name = c.name; parameters = c.parameters; locals = map full_local c.locals; body = full_stmt c.body }

abbrev pub full_decl : Decl16 → Decl16
full_decl (decl.Header h) = decl.Header h
full_decl (decl.Struct s) = decl.Struct s
full_decl (decl.Instance notes i) = decl.Instance notes (full_instance i)
full_decl (decl.Parser p) = decl.Parser (full_parser p)
full_decl (decl.Control c) = decl.Control (full_control c)

-- the syntax with its parentheses
abbrev pub full_syntax : Syntax16 → Syntax16
full_syntax s = record { decls = map full_decl s.decls; main = s.main }
