use Rattle.std.proofs.Common.{◌≡◌, drop}
use Rattle.p414_syntax.specs.Attributes.{min_width_of}
use Rattle.p414_syntax.proofs.objects.Stateful.min_width.Given as goal

abbrev pub invariant-loop-attribute : goal.invariant-loop-attribute
invariant-loop-attribute l = min_width_of (drop l.attribute-index l.self.attributes) ≡ min_width_of l.self.attributes
