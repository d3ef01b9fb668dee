use Rattle.std.proofs.Common.{◌≡◌, drop}
use Rattle.p414_syntax.specs.Attributes.{min_size_of}
use Rattle.p414_syntax.proofs.tables.Table.min_size.Given as goal

abbrev pub invariant-loop-attribute : goal.invariant-loop-attribute
invariant-loop-attribute l = min_size_of (drop l.attribute-index l.self.attributes) ≡ min_size_of l.self.attributes
