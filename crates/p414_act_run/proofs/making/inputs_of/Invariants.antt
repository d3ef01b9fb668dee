use Rattle.std.proofs.Common.{◌≡◌, ◌++◌, drop}
use Rattle.std.specs.Prelude.{filter_map}
use Rattle.p414_syntax.specs.Expansion.{list_number}
use Rattle.p414_act_run.proofs.making.inputs_of.Given as goal

abbrev pub invariant-loop-name : goal.invariant-loop-name
invariant-loop-name l = l.found ++ filter_map (list_number l.names) (drop l.name-index l.inputs) ≡ filter_map (list_number l.names) l.inputs
