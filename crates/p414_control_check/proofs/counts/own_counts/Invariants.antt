use Rattle.std.proofs.Common.{◌≡◌, ◌++◌, drop, map}
use Rattle.p414_syntax.specs.ControlExpansion.{controls}
use Rattle.p414_control_check.specs.internal.Expanded.{capped_count, own_counts}
use Rattle.p414_control_check.proofs.counts.own_counts.Given as goal

abbrev pub invariant-loop-decl : goal.invariant-loop-decl
invariant-loop-decl l = l.found.items ++ map (capped_count 65537) (controls (drop l.decl-index l.controls)) ≡ own_counts 65537 l.controls
