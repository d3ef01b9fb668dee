use Rattle.std.proofs.Common.{◌≡◌, ◌++◌, map, drop}
use Rattle.p416_syntax.specs.Declarations.{parameter_name}
use Rattle.p416_uses.proofs.types.push_parameters.Given as goal

abbrev pub invariant-loop-parameter : goal.invariant-loop-parameter
invariant-loop-parameter l = map (λ name. name.now) l.names.items ++ map parameter_name (drop l.parameter-index l.parameters) ≡ map (λ name. name.now) l.fn.names.items ++ map parameter_name l.parameters
