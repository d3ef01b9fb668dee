use Rattle.std.proofs.Common.{◌≡◌, drop}
use Rattle.p416_syntax.specs.Properties.{keys_of}
use Rattle.p416_syntax.proofs.controls.Table16.keys.Given as goal

abbrev pub invariant-loop-property : goal.invariant-loop-property
invariant-loop-property l = keys_of (drop l.property-index l.self.properties) ≡ keys_of l.self.properties
