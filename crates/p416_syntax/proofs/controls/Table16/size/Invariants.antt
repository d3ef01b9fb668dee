use Rattle.std.proofs.Common.{◌≡◌, drop}
use Rattle.p416_syntax.specs.Properties.{size_of}
use Rattle.p416_syntax.proofs.controls.Table16.size.Given as goal

abbrev pub invariant-loop-property : goal.invariant-loop-property
invariant-loop-property l = size_of (drop l.property-index l.self.properties) ≡ size_of l.self.properties
