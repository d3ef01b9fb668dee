use Rattle.std.proofs.Common.{◌≡◌, drop}
use Rattle.p414_syntax.specs.Attributes.{layout_of}
use Rattle.p414_syntax.proofs.objects.Stateful.layout.Given as goal

abbrev pub invariant-loop-attribute : goal.invariant-loop-attribute
invariant-loop-attribute l = layout_of (drop l.attribute-index l.self.attributes) ≡ layout_of l.self.attributes
