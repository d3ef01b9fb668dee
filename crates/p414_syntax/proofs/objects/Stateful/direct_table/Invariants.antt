use Rattle.std.proofs.Common.{◌≡◌, drop}
use Rattle.p414_syntax.specs.Attributes.{direct_table_of}
use Rattle.p414_syntax.proofs.objects.Stateful.direct_table.Given as goal

abbrev pub invariant-loop-attribute : goal.invariant-loop-attribute
invariant-loop-attribute l = direct_table_of (drop l.attribute-index l.self.attributes) ≡ direct_table_of l.self.attributes
