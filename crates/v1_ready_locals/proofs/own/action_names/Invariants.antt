use Rattle.std.proofs.Common.{◌≡◌, ◌++◌, map, drop}
use Rattle.v1_ready_operands.specs.Callees.{seen_action, action_name}
use Rattle.v1_ready_locals.proofs.own.action_names.Given as goal

abbrev pub invariant-loop-own : goal.invariant-loop-own
invariant-loop-own l = map (λ name. name.now) l.names.items ++ map action_name (map seen_action (drop l.own-index l.actions)) ≡ map action_name (map seen_action l.actions)
