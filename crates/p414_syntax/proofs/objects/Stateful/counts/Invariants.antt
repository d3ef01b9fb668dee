use Rattle.std.proofs.Common.{◌≡◌, drop}
use Rattle.p414_syntax.specs.Attributes.{counts_of}
use Rattle.p414_syntax.proofs.objects.Stateful.counts.Given as goal

abbrev pub invariant-loop-attribute : goal.invariant-loop-attribute
invariant-loop-attribute l = counts_of (drop l.attribute-index l.self.attributes) ≡ counts_of l.self.attributes
