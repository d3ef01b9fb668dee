use Rattle.std.proofs.Common.{◌≡◌, ◌++◌, map, drop}
use Rattle.lower_laws_names.specs.Made.{called}
use Rattle.lower_laws_names.specs.NewNames.{numbered_from, parameter_thing, new_parameters}
use Rattle.lower_names.proofs.members.new_parameters.Given as goal

abbrev pub invariant-loop-i : goal.invariant-loop-i
invariant-loop-i l = l.found ++ map called (numbered_from (parameter_thing l.names) l.i (drop l.i l.parameters)) ≡ new_parameters l.names l.parameters
