use Rattle.std.proofs.Common.{◌≡◌, drop}
use Rattle.p414_syntax.specs.Attributes.{default_arguments_of}
use Rattle.p414_syntax.proofs.tables.Table.default_arguments.Given as goal

abbrev pub invariant-loop-attribute : goal.invariant-loop-attribute
invariant-loop-attribute l = default_arguments_of (drop l.attribute-index l.self.attributes) ≡ default_arguments_of l.self.attributes
