-- T8: an action calls itself through others, or directly, or a table is applied inside an action (P4_16 1.2, "Actions",
-- "Match-action unit invocation"). In a key no table is applied either: that is this project's own.
use Rattle.std.specs.Prelude.{ℕ, Bool, true, false, ◌&&◌, List, map, filter_map, position, Option, Some, None}
use Rattle.std.specs.Str.{bytes_eq}
use Rattle.p416_syntax.specs.declared.controls.Action16.{Action16}
use Rattle.p416_syntax.specs.declared.controls.Control16.{Control16}
use Rattle.p416_syntax.specs.Tree.{Exp16, name, call}
use Rattle.p416_syntax.specs.Names.{Name}
use Rattle.p416_syntax.specs.Kinds.{Kind, applied}
use Rattle.p416_syntax.specs.Scopes.{Sort, an_action, Scope, sort_of, Part, in_action, in_key}
use Rattle.p416_syntax.specs.Calls.{Place, callee}
use Rattle.p416_syntax.specs.Expressions.{kind_of}
use Rattle.p416_syntax.specs.Uses.{Use, an_expression, a_switch}
use Rattle.p416_syntax.specs.Declarations.{action_uses, actions_in, control_scope}

abbrev pub applies_nothing : Part → Bool
applies_nothing (in_action text) = true
applies_nothing in_key = true
applies_nothing _ = false

abbrev pub is_applied : Kind → Bool
is_applied applied = true
is_applied _ = false

abbrev pub is_application : Scope → Exp16 → Bool
is_application s (call e given) = is_applied (kind_of s (call e given))
is_application s _ = false

-- what is judged applies a table where none may be applied
abbrev pub applies_wrongly : Use → Bool
applies_wrongly (an_expression s p e) = applies_nothing s.part && is_application s e
applies_wrongly (a_switch s text labels) = applies_nothing s.part
applies_wrongly _ = false

-- the actions of a control as a graph by their numbers: an action leads to those that it calls

abbrev pub action_name_of : Action16 → Name
action_name_of a = a.name

abbrev pub action_number : Control16 → Name → Option ℕ
action_number c text = position (bytes_eq text) (map action_name_of (actions_in c))

abbrev pub if_action : Name → Sort → Option Name
if_action text (an_action plane parameters) = Some text
if_action text _ = None

abbrev pub called_name : Scope → Place → Exp16 → Option Name
called_name s callee (name text) = if_action text (sort_of s text)
called_name s _ _ = None

abbrev pub called_action : Use → Option Name
called_action (an_expression s p e) = called_name s p e
called_action _ = None

abbrev pub calls_of : Scope → Control16 → Action16 → List ℕ
calls_of s c a = filter_map (action_number c) (filter_map called_action (action_uses (control_scope s c) a))

abbrev pub call_graph : Scope → Control16 → List (List ℕ)
call_graph s c = map (calls_of s c) (actions_in c)
