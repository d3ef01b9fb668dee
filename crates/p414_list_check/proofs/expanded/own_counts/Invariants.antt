use Rattle.std.proofs.Common.{◌≡◌, ◌++◌, drop, map}
use Rattle.p414_syntax.specs.Expansion.{lists}
use Rattle.p414_list_check.specs.internal.Expanded.{capped_count, own_counts}
use Rattle.p414_list_check.specs.internal.Measures.{own_of}
use Rattle.p414_list_check.proofs.expanded.own_counts.Given as goal

abbrev pub invariant-loop-decl : goal.invariant-loop-decl
invariant-loop-decl l =
    l.found.items ++ map (capped_count 65537 (own_of l.names l.measure)) (lists (drop l.decl-index l.names)) ≡ own_counts 65537 (own_of l.names l.measure) l.names
