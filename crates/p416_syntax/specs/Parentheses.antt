-- A syntax without the parentheses around its expressions, which are no part of it.
use Rattle.std.specs.Prelude.{map}
use Rattle.std.specs.Option.{option_map}
use Rattle.p416_syntax.specs.declared.parsers.Var.{Var}
use Rattle.p416_syntax.specs.declared.parsers.Simple.{Simple}
use Rattle.p416_syntax.specs.declared.parsers.Simple.TheVariants as simple
use Rattle.p416_syntax.specs.declared.parsers.Keyset.{Keyset}
use Rattle.p416_syntax.specs.declared.parsers.Keyset.TheVariants as keyset
use Rattle.p416_syntax.specs.declared.parsers.SelectCase.{SelectCase}
use Rattle.p416_syntax.specs.declared.parsers.Transition.{Transition}
use Rattle.p416_syntax.specs.declared.parsers.Transition.TheVariants as transition
use Rattle.p416_syntax.specs.declared.parsers.State.{State}
use Rattle.p416_syntax.specs.declared.parsers.Parser16.{Parser16}
use Rattle.p416_syntax.specs.declared.controls.Instance.{Instance}
use Rattle.p416_syntax.specs.declared.controls.Instance.TheVariants as instance
use Rattle.p416_syntax.specs.declared.controls.Action16.{Action16}
use Rattle.p416_syntax.specs.declared.controls.TableKey.{TableKey}
use Rattle.p416_syntax.specs.declared.controls.Property.{Property}
use Rattle.p416_syntax.specs.declared.controls.Property.TheVariants as property
use Rattle.p416_syntax.specs.declared.controls.Table16.{Table16}
use Rattle.p416_syntax.specs.declared.controls.Local.{Local}
use Rattle.p416_syntax.specs.declared.controls.Local.TheVariants as local
use Rattle.p416_syntax.specs.declared.controls.Control16.{Control16}
use Rattle.p416_syntax.specs.declared.program.Decl16.{Decl16}
use Rattle.p416_syntax.specs.declared.program.Decl16.TheVariants as decl
use Rattle.p416_syntax.specs.declared.program.Syntax16.{Syntax16}
use Rattle.p416_syntax.specs.Tree.{Exp16, literal, truth, error, name, member, index, slice, call, lookahead, cast, unary, binary, choice, parenthesized, no_arguments, argument, listed, Stmt16, no_statements, then, block, empty, var, var_is, assign, expression, if_then, if_else, switch, no_cases, case_of}

abbrev pub bare_exp : Exp16 → Exp16
bare_exp (literal n) = literal n
bare_exp (truth value) = truth value
bare_exp error = error
bare_exp (name text) = name text
bare_exp (member e text) = member (bare_exp e) text
bare_exp (index e at) = index (bare_exp e) at
bare_exp (slice e high low) = slice (bare_exp e) high low
bare_exp (call e arguments) = call (bare_exp e) (bare_exp arguments)
bare_exp (lookahead e of arguments) = lookahead (bare_exp e) of (bare_exp arguments)
bare_exp (cast to e) = cast to (bare_exp e)
bare_exp (unary operator e) = unary operator (bare_exp e)
bare_exp (binary operator a b) = binary operator (bare_exp a) (bare_exp b)
bare_exp (choice c a b) = choice (bare_exp c) (bare_exp a) (bare_exp b)
bare_exp (parenthesized e) = bare_exp e
bare_exp no_arguments = no_arguments
bare_exp (argument before last) = argument (bare_exp before) (bare_exp last)
bare_exp (listed items) = listed (bare_exp items)

abbrev pub bare_stmt : Stmt16 → Stmt16
bare_stmt no_statements = no_statements
bare_stmt (then before last) = then (bare_stmt before) (bare_stmt last)
bare_stmt (block statements) = block (bare_stmt statements)
bare_stmt empty = empty
bare_stmt (var of text) = var of text
bare_stmt (var_is of text value) = var_is of text (bare_exp value)
bare_stmt (assign target value) = assign (bare_exp target) (bare_exp value)
bare_stmt (expression e) = expression (bare_exp e)
bare_stmt (if_then c holds) = if_then (bare_exp c) (bare_stmt holds)
bare_stmt (if_else c holds other) = if_else (bare_exp c) (bare_stmt holds) (bare_stmt other)
bare_stmt (switch table cases) = switch table (bare_stmt cases)
bare_stmt no_cases = no_cases
bare_stmt (case_of before label statements) = case_of (bare_stmt before) label (bare_stmt statements)

abbrev pub bare_var : Var → Var
bare_var v = record { of = v.of; name = v.name; initial = option_map bare_exp v.initial }

abbrev pub bare_simple : Simple → Simple
bare_simple simple.Default = simple.Default
bare_simple simple.Any = simple.Any
bare_simple (simple.Mask a b) = simple.Mask (bare_exp a) (bare_exp b)
bare_simple (simple.Range a b) = simple.Range (bare_exp a) (bare_exp b)
bare_simple (simple.Value e) = simple.Value (bare_exp e)

abbrev pub bare_keyset : Keyset → Keyset
bare_keyset (keyset.Tuple ss) = keyset.Tuple (map bare_simple ss)
bare_keyset (keyset.One s) = keyset.One (bare_simple s)

abbrev pub bare_case : SelectCase → SelectCase
bare_case c = record { keyset = bare_keyset c.keyset; target = c.target }

abbrev pub bare_transition : Transition → Transition
bare_transition (transition.Go t) = transition.Go t
bare_transition (transition.Select es cs) = transition.Select (map bare_exp es) (map bare_case cs)

abbrev pub bare_state : State → State
bare_state s = record { name = s.name; body = bare_stmt s.body; transition = bare_transition s.transition }

abbrev pub bare_parser : Parser16 → Parser16
bare_parser p = record { name = p.name; parameters = p.parameters; vars = map bare_var p.vars; states = map bare_state p.states }

abbrev pub bare_instance : Instance → Instance
bare_instance (instance.Counter size m text) = instance.Counter (bare_exp size) m text
bare_instance (instance.DirectCounter m text) = instance.DirectCounter m text
bare_instance (instance.Register width size text) = instance.Register width (bare_exp size) text
bare_instance (instance.Meter size m text) = instance.Meter (bare_exp size) m text

abbrev pub bare_action : Action16 → Action16
bare_action a = record { notes = a.notes; name = a.name; parameters = a.parameters; body = bare_stmt a.body }

abbrev pub bare_key : TableKey → TableKey
bare_key k = record { exp = bare_exp k.exp; kind = k.kind; notes = k.notes }

abbrev pub bare_property : Property → Property
bare_property (property.Key ks) = property.Key (map bare_key ks)
bare_property (property.Actions names) = property.Actions names
bare_property (property.Size n) = property.Size n
bare_property (property.Counters text) = property.Counters text
bare_property (property.DefaultAction a arguments) = property.DefaultAction a (bare_exp arguments)

abbrev pub bare_table : Table16 → Table16
bare_table t = record { notes = t.notes; name = t.name; properties = map bare_property t.properties }

abbrev pub bare_local : Local → Local
bare_local (local.Instance notes i) = local.Instance notes (bare_instance i)
bare_local (local.Var v) = local.Var (bare_var v)
bare_local (local.Action a) = local.Action (bare_action a)
bare_local (local.Table t) = local.Table (bare_table t)

abbrev pub bare_control : Control16 → Control16
bare_control c = record { name = c.name; parameters = c.parameters; locals = map bare_local c.locals; body = bare_stmt c.body }

abbrev pub bare_decl : Decl16 → Decl16
bare_decl (decl.Header h) = decl.Header h
bare_decl (decl.Struct s) = decl.Struct s
bare_decl (decl.Instance notes i) = decl.Instance notes (bare_instance i)
bare_decl (decl.Parser p) = decl.Parser (bare_parser p)
bare_decl (decl.Control c) = decl.Control (bare_control c)

-- the syntax without parentheses
abbrev pub bare : Syntax16 → Syntax16
bare s = record { decls = map bare_decl s.decls; main = s.main }
