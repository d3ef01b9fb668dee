use Rattle.std.proofs.Common.{◌≡◌, ◌++◌, drop, flat_map}
use Rattle.p414_syntax.specs.Lists.{calculated_fields}
use Rattle.p414_list_check.specs.internal.Expanded.{field_numbers, input_numbers}
use Rattle.p414_list_check.proofs.inputs.input_numbers.Given as goal

abbrev pub invariant-loop-decl : goal.invariant-loop-decl
invariant-loop-decl l = l.found.items ++ flat_map (field_numbers l.names) (calculated_fields (drop l.decl-index l.names)) ≡ input_numbers l.names
