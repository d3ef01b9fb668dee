-- What nests too deep in a declaration, by its trees alone.
use Rattle.std.specs.Prelude.{ℕ, ◌+◌, Bool, false, ◌||◌, nat_lt, flat_map, Option, Some, None}
use Rattle.std.specs.List.{list_any}
use Rattle.std.specs.Option.{option_map_or}
use Rattle.p416_syntax.specs.declared.parsers.Var.{Var}
use Rattle.p416_syntax.specs.declared.parsers.Simple.{Simple}
use Rattle.p416_syntax.specs.declared.parsers.Simple.TheVariants as simple
use Rattle.p416_syntax.specs.declared.parsers.SelectCase.{SelectCase}
use Rattle.p416_syntax.specs.declared.parsers.Transition.{Transition}
use Rattle.p416_syntax.specs.declared.parsers.Transition.TheVariants as transition
use Rattle.p416_syntax.specs.declared.parsers.State.{State}
use Rattle.p416_syntax.specs.declared.parsers.Parser16.{Parser16}
use Rattle.p416_syntax.specs.declared.controls.Instance.{Instance}
use Rattle.p416_syntax.specs.declared.controls.Instance.TheVariants as instance
use Rattle.p416_syntax.specs.declared.controls.ActionName.{ActionName}
use Rattle.p416_syntax.specs.declared.controls.TableKey.{TableKey}
use Rattle.p416_syntax.specs.declared.controls.Table16.{Table16}
use Rattle.p416_syntax.specs.declared.controls.Local.{Local}
use Rattle.p416_syntax.specs.declared.controls.Local.TheVariants as local
use Rattle.p416_syntax.specs.declared.controls.Control16.{Control16}
use Rattle.p416_syntax.specs.declared.program.Decl16.{Decl16}
use Rattle.p416_syntax.specs.declared.program.Decl16.TheVariants as decl
use Rattle.p416_syntax.specs.Properties.{keys_of, default_action_of, default_arguments_of}
use Rattle.p416_syntax.specs.Subtrees.{own_expressions, subtrees}
use Rattle.p416_syntax.specs.Tree.{Exp16, argument, Stmt16}
use Rattle.p416_syntax.specs.Statements.{nesting}
use Rattle.p416_syntax.specs.Declarations.{keyset_parts}
use Rattle.p416_syntax.specs.Totals.{depth}

abbrev pub is_deep : Exp16 → Bool
is_deep e = nat_lt 512 (depth e)

-- an argument of a list does
abbrev pub has_deep_argument : Exp16 → Bool
has_deep_argument (argument before last) = has_deep_argument before || is_deep last
has_deep_argument _ = false

-- an expression of a list of statements does
abbrev pub has_deep_expression : Stmt16 → Bool
has_deep_expression body = list_any is_deep (flat_map own_expressions (subtrees body))

-- a list of statements, whose own braces are so many blocks
abbrev pub is_deep_body : ℕ → Stmt16 → Bool
is_deep_body braces body = nat_lt 512 (braces + nesting body) || has_deep_expression body

abbrev pub is_deep_var : Var → Bool
is_deep_var v = option_map_or is_deep v.initial false

abbrev pub is_deep_instance : Instance → Bool
is_deep_instance (instance.Counter size m text) = is_deep size
is_deep_instance (instance.DirectCounter m text) = false
is_deep_instance (instance.Register width size text) = is_deep size
is_deep_instance (instance.Meter size m text) = is_deep size

-- parsers

abbrev pub is_deep_simple : Simple → Bool
is_deep_simple simple.Default = false
is_deep_simple simple.Any = false
is_deep_simple (simple.Mask a b) = is_deep a || is_deep b
is_deep_simple (simple.Range a b) = is_deep a || is_deep b
is_deep_simple (simple.Value a) = is_deep a

abbrev pub is_deep_case : SelectCase → Bool
is_deep_case c = list_any is_deep_simple (keyset_parts c.keyset)

abbrev pub is_deep_transition : Transition → Bool
is_deep_transition (transition.Go t) = false
is_deep_transition (transition.Select keys cases) = list_any is_deep keys || list_any is_deep_case cases

abbrev pub is_deep_state : State → Bool
is_deep_state x = is_deep_body 0 x.body || is_deep_transition x.transition

abbrev pub is_deep_parser : Parser16 → Bool
is_deep_parser p = list_any is_deep_var p.vars || list_any is_deep_state p.states

-- controls

abbrev pub is_deep_key : TableKey → Bool
is_deep_key k = is_deep k.exp

abbrev pub is_deep_default : Option ActionName → Option Exp16 → Bool
is_deep_default (Some a) given = option_map_or has_deep_argument given false
is_deep_default None given = false

abbrev pub is_deep_table : Table16 → Bool
is_deep_table t =
    list_any is_deep_key (keys_of t.properties)
    || is_deep_default (default_action_of t.properties) (default_arguments_of t.properties)

abbrev pub is_deep_local : Local → Bool
is_deep_local (local.Instance notes i) = is_deep_instance i
is_deep_local (local.Var v) = is_deep_var v
is_deep_local (local.Action a) = is_deep_body 1 a.body
is_deep_local (local.Table t) = is_deep_table t

abbrev pub is_deep_control : Control16 → Bool
is_deep_control c = list_any is_deep_local c.locals || is_deep_body 1 c.body

abbrev pub is_deep_decl : Decl16 → Bool
is_deep_decl (decl.Header h) = false
is_deep_decl (decl.Struct x) = false
is_deep_decl (decl.Instance notes i) = is_deep_instance i
is_deep_decl (decl.Parser p) = is_deep_parser p
is_deep_decl (decl.Control c) = is_deep_control c
