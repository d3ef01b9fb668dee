-- What the arguments of a call stand for, and what is wanted of each (P4_14 1.0.5, "Actions", "Primitive Actions").
-- A name by itself that is a parameter of the action means the parameter, whatever else has the name; any other
-- name, and an element of a stack, means what is declared by it.
use Rattle.std.specs.Prelude.{ℕ, is_some, if◌then◌else◌, List, [], ◌∷◌, Option, Some, None, map, flat_map, filter_map, slice_get, option_and_then, option_map, unwrap_or}
use Rattle.p414_syntax.specs.declared.parts.Inst.{Inst}
use Rattle.p414_syntax.specs.declared.parts.Number.{Number}
use Rattle.p414_syntax.specs.declared.parts.Ref.{Ref}
use Rattle.p414_syntax.specs.declared.actions.Arg.{Arg}
use Rattle.p414_syntax.specs.declared.actions.Arg.TheVariants as arg
use Rattle.p414_syntax.specs.declared.actions.Call.{Call}
use Rattle.p414_syntax.specs.declared.actions.Action.{Action}
use Rattle.p414_syntax.specs.declared.syntax.Decl.{Decl}
use Rattle.p414_syntax.specs.declared.syntax.Decl.TheVariants as decl
use Rattle.p414_syntax.specs.declared.syntax.Sort.TheVariants as sort
use Rattle.p414_syntax.specs.declared.place.ArgumentPlace.{ArgumentPlace}
use Rattle.p414_syntax.specs.declared.place.ArgumentPlace.TheVariants as place
use Rattle.p414_syntax.specs.Names.{Name, find_name, number_of}
use Rattle.p414_syntax.specs.Primitives.{places_of}

-- what an argument stands for
pub data Argument : Type 0 where
  -- a number
  number_argument : (value : Number) → Argument
  -- a field
  field_argument : (field : Ref) → Argument
  -- the parameter with this number in the action, from 0
  parameter_argument : (parameter : ℕ) → Argument
  -- what is declared by this name: an instance, an object, a list or a calculation; or an element of a stack
  name_argument : (named : Inst) → Argument

-- a call of a primitive or an action, by what its arguments stand for
pub record Invocation : Type 0 where
  pub callee : Name
  pub arguments : List Argument

-- the parameter with this number, if there is one, or what is declared by the name
abbrev pub parameter_or_name : Option ℕ → Inst → Argument
parameter_or_name (Some n) i = parameter_argument n
parameter_or_name None i = name_argument i

abbrev pub argument_by_name : List Name → Inst → Argument
argument_by_name parameters i =
    if is_some i.index then name_argument i else parameter_or_name (find_name parameters i.name) i

abbrev pub argument_of : List Name → Arg → Argument
argument_of parameters (arg.Number n) = number_argument n
argument_of parameters (arg.Field r) = field_argument r
argument_of parameters (arg.Instance i) = argument_by_name parameters i

-- a call in an action with these parameters
abbrev pub invocation_of : List Name → Call → Invocation
invocation_of parameters c = record { callee = c.name; arguments = map (argument_of parameters) c.arguments }

-- the calls of an action, in order
abbrev pub invocations_of : Action → List Invocation
invocations_of a = map (invocation_of a.parameters) a.calls

-- the actions of a program, in order

abbrev pub action_in : Decl → Option Action
action_in (decl.Action x) = Some x
action_in _ = None

abbrev pub actions : List Decl → List Action
actions ds = filter_map action_in ds

-- the number of the action with this name, and the action itself; a primitive is none
abbrev pub action_number : List Decl → Name → Option ℕ
action_number ds name = number_of sort.Action ds name

abbrev pub action_of : List Decl → Name → Option Action
action_of ds name = option_and_then (slice_get (actions ds)) (action_number ds name)

-- all calls that stand in the actions of a program
abbrev pub all_invocations : List Decl → List Invocation
all_invocations ds = flat_map invocations_of (actions ds)

-- what is wanted of the arguments: by a primitive what its table says, by an action a source for each parameter; of a
-- primitive that is left out nothing is said

abbrev pub place_of_parameter : Name → ArgumentPlace
place_of_parameter parameter = place.Source

abbrev pub parameter_places : Action → List ArgumentPlace
parameter_places a = map place_of_parameter a.parameters

abbrev pub wanted_by : Option (List ArgumentPlace) → Option Action → Option (List ArgumentPlace)
wanted_by (Some places) declared = Some places
wanted_by None declared = option_map parameter_places declared

abbrev pub wanted_of : List Decl → Name → Option (List ArgumentPlace)
wanted_of ds callee = wanted_by (places_of callee) (action_of ds callee)

-- an argument with what is wanted of it
pub record PlacedArgument : Type 0 where
  pub wanted : ArgumentPlace
  pub argument : Argument

abbrev pub placed_argument : ArgumentPlace → Argument → PlacedArgument
placed_argument wanted argument = record { wanted = wanted; argument = argument }

-- arguments one after another, each with its place; an argument without a place is dropped
abbrev pub placed : List ArgumentPlace → List Argument → List PlacedArgument
placed [] arguments = []
placed (p ∷ ps) [] = []
placed (p ∷ ps) (a ∷ rest) = placed_argument p a ∷ placed ps rest

abbrev pub placed_in : List Decl → Invocation → List PlacedArgument
placed_in ds i = placed (unwrap_or (wanted_of ds i.callee) []) i.arguments

-- all arguments with a place that stand in the actions of a program
abbrev pub placed_arguments : List Decl → List PlacedArgument
placed_arguments ds = flat_map (placed_in ds) (all_invocations ds)
