-- An action of a control with the actions that it calls, by their names.
use Rattle.std.specs.Prelude.{List, filter_map, map}
use Rattle.name_cycles.specs.Named.{NamedNode}
use Rattle.p416_syntax.specs.declared.controls.Action16.{Action16}
use Rattle.p416_syntax.specs.Scopes.{Scope}
use Rattle.p416_syntax.specs.Declarations.{action_uses}
use Rattle.p416_syntax.specs.Applications.{called_action}

abbrev pub action_node : Scope → Action16 → NamedNode
action_node s a = record { called = a.name; leads_to = filter_map called_action (action_uses s a) }
