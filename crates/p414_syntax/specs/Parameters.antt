-- C27: a parameter stands as a target, a header, a header stack, a counter, a register, a meter, a list, a
-- calculation or a number of elements (P4_14 1.0.5, "Primitive Actions"; that a parameter is a number is this
-- project's own).
use Rattle.std.specs.Prelude.{Bool, true, false, not, ◌&&◌, List}
use Rattle.std.specs.List.{list_any}
use Rattle.p414_syntax.specs.declared.syntax.Decl.{Decl}
use Rattle.p414_syntax.specs.declared.place.ArgumentPlace.{ArgumentPlace}
use Rattle.p414_syntax.specs.declared.place.ArgumentPlace.TheVariants as place
use Rattle.p414_syntax.specs.Arguments.{Argument, parameter_argument, PlacedArgument, placed_arguments}

abbrev pub is_parameter : Argument → Bool
is_parameter (parameter_argument n) = true
is_parameter _ = false

-- a number is taken from here
abbrev pub is_read : ArgumentPlace → Bool
is_read place.Source = true
is_read place.Unsigned = true
is_read _ = false

abbrev pub is_misused_parameter : PlacedArgument → Bool
is_misused_parameter a = is_parameter a.argument && not (is_read a.wanted)

abbrev pub has_misused_parameter : List Decl → Bool
has_misused_parameter ds = list_any is_misused_parameter (placed_arguments ds)
