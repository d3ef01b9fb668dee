use Rattle.std.proofs.Common.{◌≡◌, ◌++◌, map, drop}
use Rattle.v1_ready_operands.specs.Callees.{seen_action}
use Rattle.v1_ready_locals.specs.internal.Zipped.{zip_actions}
use Rattle.v1_ready_locals.proofs.own.numbered_actions.Given as goal

abbrev pub invariant-loop-action : goal.invariant-loop-action
invariant-loop-action l =
    map seen_action l.found.items ++ zip_actions (drop l.next l.numbers) (map (λ a. a.now) (drop l.action-index l.actions)) ≡ zip_actions l.numbers (map (λ a. a.now) l.actions)
