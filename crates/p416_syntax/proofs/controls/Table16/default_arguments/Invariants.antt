use Rattle.std.proofs.Common.{◌≡◌, drop}
use Rattle.p416_syntax.specs.Properties.{default_arguments_of}
use Rattle.p416_syntax.proofs.controls.Table16.default_arguments.Given as goal

abbrev pub invariant-loop-property : goal.invariant-loop-property
invariant-loop-property l = default_arguments_of (drop l.property-index l.self.properties) ≡ default_arguments_of l.self.properties
