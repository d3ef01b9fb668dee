use Rattle.std.proofs.Common.{ap, ◌∙◌}
use Rattle.p416_syntax.specs.Scopes.{Scope}
use Rattle.p416_action_check.proofs.nodes.action_nodes.Goals as goal

pub action_node-requires : goal.action_node-requires
action_node-requires c = ap (λ (s : Scope). s.part) c.loop-declared.invariant.1 ∙ c.requires
