use Rattle.std.proofs.Common.{◌≡◌, drop}
use Rattle.p414_syntax.specs.Attributes.{reads_of}
use Rattle.p414_syntax.proofs.tables.Table.reads.Given as goal

abbrev pub invariant-loop-attribute : goal.invariant-loop-attribute
invariant-loop-attribute l = reads_of (drop l.attribute-index l.self.attributes) ≡ reads_of l.self.attributes
