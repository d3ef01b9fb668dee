use Rattle.std.proofs.Common.{◌≡◌, map, take}
use Rattle.p416_action_check.proofs.nodes.node_of.Given as goal

abbrev pub invariant-loop-text : goal.invariant-loop-text
invariant-loop-text l = l.node ≡ record { called = l.name; leads_to = map (λ text. text.now) (take l.text-index l.called) }
