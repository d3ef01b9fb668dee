use Rattle.std.proofs.Common.{◌≡◌, drop}
use Rattle.std.specs.Prelude.{codes}
use Rattle.p414_syntax.specs.Names.{has_name}
use Rattle.p414_ready_actions.proofs.arguments.has_saturating.Given as goal

abbrev pub invariant-loop-attribute : goal.invariant-loop-attribute
invariant-loop-attribute l = has_name (drop l.attribute-index l.attributes) (codes "saturating") ≡ has_name l.attributes (codes "saturating")
