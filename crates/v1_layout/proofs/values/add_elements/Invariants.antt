use Rattle.std.proofs.Common.{◌≡◌}
use Rattle.v1_core.specs.Programs.{with_elements}
use Rattle.v1_layout.proofs.values.add_elements.Given as goal

abbrev pub invariant-loop-made : goal.invariant-loop-made
invariant-loop-made l = l.layout ≡ with_elements l.widths l.made l.fn.layout
