-- How what the arguments of a call stand for is seen.
use Rattle.p414_syntax.specs.Arguments as arguments
use Rattle.p414_calls.specs.declared.argument.Argument.{Argument}
use Rattle.p414_calls.specs.declared.argument.Argument.TheVariants as stands_for

abbrev pub shown_argument : Argument → arguments.Argument
shown_argument (stands_for.Number n) = arguments.number_argument n
shown_argument (stands_for.Field r) = arguments.field_argument r.now
shown_argument (stands_for.Parameter n) = arguments.parameter_argument n
shown_argument (stands_for.Named i) = arguments.name_argument i.now
