-- How what is wanted of arguments, arguments with their places, and calls, are seen.
use Rattle.std.specs.Prelude.{List}
use Rattle.p414_syntax.specs.declared.place.ArgumentPlace.{ArgumentPlace}
use Rattle.p414_syntax.specs.Names.{Name}
use Rattle.p414_syntax.specs.Arguments as arguments
use Rattle.p414_calls.specs.Shown.{shown_argument}
use Rattle.p414_call_check.specs.declared.wanted.Wanted.{Wanted}
use Rattle.p414_call_check.specs.declared.wanted.Wanted.TheVariants as wanted_by
use Rattle.p414_call_check.specs.declared.placed.PlacedArgument.{PlacedArgument}

-- the places of arguments, in order
abbrev pub shown_wanted : Wanted → List ArgumentPlace
shown_wanted (wanted_by.Primitive places) = places.now
shown_wanted (wanted_by.Action declared) = arguments.parameter_places declared.now

abbrev pub shown_placed : PlacedArgument → arguments.PlacedArgument
shown_placed a = arguments.placed_argument a.wanted (shown_argument a.argument)

-- a call by the name of what is called and what its arguments stand for
abbrev pub call_of : Name → List arguments.Argument → arguments.Invocation
call_of callee given = record { callee = callee; arguments = given }
