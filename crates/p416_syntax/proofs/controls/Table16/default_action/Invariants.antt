use Rattle.std.proofs.Common.{◌≡◌, drop}
use Rattle.p416_syntax.specs.Properties.{default_action_of}
use Rattle.p416_syntax.proofs.controls.Table16.default_action.Given as goal

abbrev pub invariant-loop-property : goal.invariant-loop-property
invariant-loop-property l = default_action_of (drop l.property-index l.self.properties) ≡ default_action_of l.self.properties
