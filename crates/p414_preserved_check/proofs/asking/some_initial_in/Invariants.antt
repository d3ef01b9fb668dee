use Rattle.std.proofs.Common.{◌≡◌, drop, map}
use Rattle.std.specs.List.{list_any}
use Rattle.p414_syntax.specs.Names.{initial_name}
use Rattle.p414_preserved_check.specs.internal.Asking.{is_field}
use Rattle.p414_preserved_check.proofs.asking.some_initial_in.Given as goal

abbrev pub invariant-loop-initial : goal.invariant-loop-initial
invariant-loop-initial l = list_any (is_field l.names l.name) (map initial_name (drop l.initial-index l.initials)) ≡ list_any (is_field l.names l.name) (map initial_name l.initials)
