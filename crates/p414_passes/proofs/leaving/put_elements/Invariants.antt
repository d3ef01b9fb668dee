use Rattle.std.proofs.Common.{◌≡◌, ◌++◌, drop}
use Rattle.std.specs.Prelude.{flat_map}
use Rattle.p414_layout.specs.Shapes.{shape_at}
use Rattle.p414_sem.specs.Passes.{header_octets}
use Rattle.p414_sem.specs.State.{instance_at}
use Rattle.p414_passes.proofs.leaving.put_elements.Given as goal

abbrev pub invariant-loop-element : goal.invariant-loop-element
invariant-loop-element l =
    l.out ++ flat_map (header_octets (shape_at l.state.layout l.instance).widths) (drop l.element (instance_at l.state.state l.instance).elements)
    ≡ l.fn.out ++ flat_map (header_octets (shape_at l.state.layout l.instance).widths) (instance_at l.state.state l.instance).elements
