use Rattle.std.proofs.Common.{◌≡◌, ◌++◌, map, drop}
use Rattle.std.specs.Prelude.{option_copied}
use Rattle.p414_ready_parser.specs.Rows.{select_part}
use Rattle.p414_ready_parser.proofs.ends.parts_of.Given as goal

abbrev pub invariant-loop-value : goal.invariant-loop-value
invariant-loop-value l = l.parts ++ map (select_part l.names (option_copied l.latest)) (drop l.value-index l.values) ≡ map (select_part l.names (option_copied l.latest)) l.values
