use Rattle.std.proofs.Common.{◌≡◌, drop}
use Rattle.p416_syntax.specs.Properties.{counters_of}
use Rattle.p416_syntax.proofs.controls.Table16.counters.Given as goal

abbrev pub invariant-loop-property : goal.invariant-loop-property
invariant-loop-property l = counters_of (drop l.property-index l.self.properties) ≡ counters_of l.self.properties
