use Rattle.std.proofs.Common.{◌≡◌, ◌++◌, map, drop}
use Rattle.p414_syntax.specs.Arguments.{argument_of}
use Rattle.p414_calls.specs.Shown.{shown_argument}
use Rattle.p414_calls.proofs.argument.arguments_of.Given as goal

abbrev pub invariant-loop-argument : goal.invariant-loop-argument
invariant-loop-argument l = map shown_argument l.found.items ++ map (argument_of l.parameters) (drop l.argument-index l.arguments) ≡ map (argument_of l.parameters) l.arguments
