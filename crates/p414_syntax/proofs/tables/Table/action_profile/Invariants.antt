use Rattle.std.proofs.Common.{◌≡◌, drop}
use Rattle.p414_syntax.specs.Attributes.{action_profile_of}
use Rattle.p414_syntax.proofs.tables.Table.action_profile.Given as goal

abbrev pub invariant-loop-attribute : goal.invariant-loop-attribute
invariant-loop-attribute l = action_profile_of (drop l.attribute-index l.self.attributes) ≡ action_profile_of l.self.attributes
