use Rattle.std.proofs.Common.{◌≡◌, map, drop}
use Rattle.p414_syntax.specs.Names.{repeats, repeats_behind, initial_name}
use Rattle.p414_names.proofs.twice.is_initial_twice.Given as goal

abbrev pub invariant-loop-initial : goal.invariant-loop-initial
invariant-loop-initial l = repeats_behind l.set (map initial_name (drop l.initial-index l.initials)) ≡ repeats (map initial_name l.initials)
