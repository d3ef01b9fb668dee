-- What stands directly within a statement, outside every `if`; and a parser's states with the states that they lead to.
use Rattle.std.specs.Prelude.{Bool, false, if◌then◌else◌, List, [], ◌∷◌, ◌++◌}
use Rattle.name_cycles.specs.Named.{NamedNode}
use Rattle.p416_syntax.specs.declared.parsers.State.{State}
use Rattle.p416_syntax.specs.Tree.{Stmt16, then, block, expression}
use Rattle.p416_syntax.specs.Names.{Name}
use Rattle.p416_syntax.specs.ParserStates.{is_extract, extracts, targets_of}

abbrev pub outside_if : Stmt16 → List Stmt16
outside_if ((then) before last) = before ∷ last ∷ []
outside_if (block body) = body ∷ []
outside_if _ = []

abbrev pub extracts_itself : Stmt16 → Bool
extracts_itself (expression e) = is_extract e
extracts_itself _ = false

-- a node that leads to further names
abbrev pub leading_on : NamedNode → List Name → NamedNode
leading_on n names = record n { leads_to = n.leads_to ++ names }

-- a state that extracts leads to none, for what is asked
abbrev pub idle_targets : State → List Name
idle_targets x = if extracts x.body then [] else targets_of x.transition

abbrev pub state_node : State → NamedNode
state_node x = record { called = x.name; leads_to = idle_targets x }
