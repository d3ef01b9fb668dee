use Rattle.std.proofs.Common.{◌≡◌, drop}
use Rattle.p414_syntax.specs.Attributes.{support_timeout_of}
use Rattle.p414_syntax.proofs.tables.Table.support_timeout.Given as goal

abbrev pub invariant-loop-attribute : goal.invariant-loop-attribute
invariant-loop-attribute l = support_timeout_of (drop l.attribute-index l.self.attributes) ≡ support_timeout_of l.self.attributes
