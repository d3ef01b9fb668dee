use Rattle.std.proofs.Common.{◌≡◌, drop, map, filter_map}
use Rattle.name_numbers.specs.Names.{find_name}
use Rattle.name_cycles.specs.internal.Edges.{with_edges}
use Rattle.name_cycles.proofs.cycles.add_edges.Given as goal

abbrev pub invariant-loop-target : goal.invariant-loop-target
invariant-loop-target l = with_edges l.graph (filter_map (find_name l.names) (map (λ target. target.now) (drop l.target-index l.targets))) ≡ with_edges l.fn.graph (filter_map (find_name l.names) (map (λ target. target.now) l.targets))
