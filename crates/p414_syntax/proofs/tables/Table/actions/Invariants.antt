use Rattle.std.proofs.Common.{◌≡◌, drop}
use Rattle.p414_syntax.specs.Attributes.{actions_of}
use Rattle.p414_syntax.proofs.tables.Table.actions.Given as goal

abbrev pub invariant-loop-attribute : goal.invariant-loop-attribute
invariant-loop-attribute l = actions_of (drop l.attribute-index l.self.attributes) ≡ actions_of l.self.attributes
