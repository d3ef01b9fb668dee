use Rattle.std.proofs.Common.{◌≡◌, drop}
use Rattle.p414_syntax.specs.Attributes.{size_of}
use Rattle.p414_syntax.proofs.tables.Table.size.Given as goal

abbrev pub invariant-loop-attribute : goal.invariant-loop-attribute
invariant-loop-attribute l = size_of (drop l.attribute-index l.self.attributes) ≡ size_of l.self.attributes
