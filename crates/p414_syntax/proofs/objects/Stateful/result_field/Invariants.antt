use Rattle.std.proofs.Common.{◌≡◌, drop}
use Rattle.p414_syntax.specs.Attributes.{result_field_of}
use Rattle.p414_syntax.proofs.objects.Stateful.result_field.Given as goal

abbrev pub invariant-loop-attribute : goal.invariant-loop-attribute
invariant-loop-attribute l = result_field_of (drop l.attribute-index l.self.attributes) ≡ result_field_of l.self.attributes
