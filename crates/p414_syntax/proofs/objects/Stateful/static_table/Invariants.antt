use Rattle.std.proofs.Common.{◌≡◌, drop}
use Rattle.p414_syntax.specs.Attributes.{static_table_of}
use Rattle.p414_syntax.proofs.objects.Stateful.static_table.Given as goal

abbrev pub invariant-loop-attribute : goal.invariant-loop-attribute
invariant-loop-attribute l = static_table_of (drop l.attribute-index l.self.attributes) ≡ static_table_of l.self.attributes
