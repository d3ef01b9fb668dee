use Rattle.std.proofs.Common.{◌≡◌, ◌++◌, drop}
use Rattle.std.specs.Prelude.{flat_map}
use Rattle.p414_passes.specs.Leaving.{octets_in_layout}
use Rattle.p414_passes.proofs.leaving.deparse.Given as goal

abbrev pub invariant-loop-instance : goal.invariant-loop-instance
invariant-loop-instance l =
    l.out ++ flat_map (octets_in_layout l.state.layout l.state.state) (drop l.instance-index l.order)
    ≡ flat_map (octets_in_layout l.state.layout l.state.state) l.order
