use Rattle.std.proofs.Common.{◌≡◌, drop}
use Rattle.p414_syntax.specs.Attributes.{is_saturating_of}
use Rattle.p414_syntax.proofs.objects.Stateful.is_saturating.Given as goal

abbrev pub invariant-loop-attribute : goal.invariant-loop-attribute
invariant-loop-attribute l = is_saturating_of (drop l.attribute-index l.self.attributes) ≡ is_saturating_of l.self.attributes
