use Rattle.std.proofs.Common.{◌≡◌, drop}
use Rattle.p414_syntax.specs.Attributes.{max_size_of}
use Rattle.p414_syntax.proofs.tables.Table.max_size.Given as goal

abbrev pub invariant-loop-attribute : goal.invariant-loop-attribute
invariant-loop-attribute l = max_size_of (drop l.attribute-index l.self.attributes) ≡ max_size_of l.self.attributes
