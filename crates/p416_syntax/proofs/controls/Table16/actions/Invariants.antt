use Rattle.std.proofs.Common.{◌≡◌, drop}
use Rattle.p416_syntax.specs.Properties.{actions_of}
use Rattle.p416_syntax.proofs.controls.Table16.actions.Given as goal

abbrev pub invariant-loop-property : goal.invariant-loop-property
invariant-loop-property l = actions_of (drop l.property-index l.self.properties) ≡ actions_of l.self.properties
