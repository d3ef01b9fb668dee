use Rattle.std.proofs.Common.{◌≡◌, drop}
use Rattle.p414_syntax.specs.Attributes.{instance_count_of}
use Rattle.p414_syntax.proofs.objects.Stateful.instance_count.Given as goal

abbrev pub invariant-loop-attribute : goal.invariant-loop-attribute
invariant-loop-attribute l = instance_count_of (drop l.attribute-index l.self.attributes) ≡ instance_count_of l.self.attributes
