-- Arguments while they are placed.
use Rattle.std.specs.Prelude.{Bool, false, not, List, [], ◌∷◌, flat_map, Option, Some, None, option_and_then}
use Rattle.std.specs.List.{list_any}
use Rattle.std.specs.Option.{option_map_or}
use Rattle.p414_syntax.specs.declared.actions.Action.{Action}
use Rattle.p414_syntax.specs.declared.syntax.Decl.{Decl}
use Rattle.p414_syntax.specs.declared.syntax.Sort.TheVariants as sort
use Rattle.p414_syntax.specs.declared.place.ArgumentPlace.{ArgumentPlace}
use Rattle.p414_syntax.specs.Names.{Name, declaration_of}
use Rattle.p414_syntax.specs.Arguments.{Argument, Invocation, action_in, PlacedArgument, placed_argument, placed_in, wanted_of}
use Rattle.p414_syntax.specs.Calls.{takes, takes_others, is_wrong_call}

-- the action that is declared by a name
abbrev pub declared_action : List Decl → Name → Option Action
declared_action ds name = option_and_then action_in (declaration_of sort.Action ds name)

-- an argument with its place, if it has one
abbrev pub placed_with : Option ArgumentPlace → Argument → List PlacedArgument
placed_with None argument = []
placed_with (Some wanted) argument = placed_argument wanted argument ∷ []

-- an argument isn't what is wanted there, if anything is
abbrev pub is_wrong_placed : List Decl → Option ArgumentPlace → Argument → Bool
is_wrong_placed ds None argument = false
is_wrong_placed ds (Some wanted) argument = not (takes ds wanted argument)

-- the arguments aren't those that are wanted, if anything is
abbrev pub takes_other_arguments : List Decl → Invocation → Bool
takes_other_arguments ds i = option_map_or (takes_others ds i) (wanted_of ds i.callee) false

-- all arguments with a place of the calls of an action, and whether one of these calls is wrong

abbrev pub placed_in_action : List Decl → List Invocation → List PlacedArgument
placed_in_action ds calls = flat_map (placed_in ds) calls

abbrev pub is_wrong_action : List Decl → List Invocation → Bool
is_wrong_action ds calls = list_any (is_wrong_call ds) calls
