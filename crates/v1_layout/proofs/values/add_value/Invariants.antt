use Rattle.std.proofs.Common.{◌≡◌}
use Rattle.p416_syntax.specs.Declarations.{layouts_of}
use Rattle.p416_names.specs.SeenKinds.{seen_kind}
use Rattle.v1_core.specs.Seats.{form_of}
use Rattle.v1_core.specs.Programs.{with_value}
use Rattle.v1_layout.specs.Left.{laid_out, steps}
use Rattle.v1_layout.proofs.values.add_value.Given as goal

abbrev pub invariant-loop-next : goal.invariant-loop-next
invariant-loop-next l = laid_out (layouts_of l.top) l.left l.layout ≡ with_value (layouts_of l.top) l.depth (form_of (seen_kind l.kind)) l.fn.layout

abbrev pub decreases-loop-next : goal.decreases-loop-next
decreases-loop-next l = steps (layouts_of l.top) l.left
