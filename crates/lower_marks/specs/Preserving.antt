-- The field lists that calls preserve, by what the calls of actions name (P4_14 1.0.5, "Primitive Actions").
use Rattle.std.specs.Prelude.{List, [], flat_map}
use Rattle.p414_syntax.specs.declared.place.ArgumentPlace.{ArgumentPlace}
use Rattle.p414_syntax.specs.Names.{Name}
use Rattle.p414_syntax.specs.Primitives.{primitive_places}
use Rattle.p414_syntax.specs.Arguments.{Argument, Invocation, placed}
use Rattle.p414_syntax.specs.Preserved.{list_of}

-- those that the arguments of a call name, those of one call, and those of calls
abbrev pub lists_among : List ArgumentPlace → List Argument → List Name
lists_among places arguments = flat_map list_of (placed places arguments)

-- those that a call names
abbrev pub lists_in : Invocation → List Name
lists_in i = lists_among (primitive_places i.callee) i.arguments

-- those that calls name
abbrev pub lists_by : List Invocation → List Name
lists_by calls = flat_map lists_in calls
