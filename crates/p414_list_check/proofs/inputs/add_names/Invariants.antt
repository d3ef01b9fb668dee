use Rattle.std.proofs.Common.{◌≡◌, ◌++◌, drop, map}
use Rattle.p414_syntax.specs.Expansion.{list_number}
use Rattle.p414_list_check.proofs.inputs.add_names.Given as goal

abbrev pub invariant-loop-name : goal.invariant-loop-name
invariant-loop-name l = l.found.items ++ map (list_number l.names) (drop l.name-index l.inputs) ≡ l.fn.found.items ++ map (list_number l.names) l.inputs
