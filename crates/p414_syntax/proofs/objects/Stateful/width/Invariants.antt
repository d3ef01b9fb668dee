use Rattle.std.proofs.Common.{◌≡◌, drop}
use Rattle.p414_syntax.specs.Attributes.{width_of}
use Rattle.p414_syntax.proofs.objects.Stateful.width.Given as goal

abbrev pub invariant-loop-attribute : goal.invariant-loop-attribute
invariant-loop-attribute l = width_of (drop l.attribute-index l.self.attributes) ≡ width_of l.self.attributes
