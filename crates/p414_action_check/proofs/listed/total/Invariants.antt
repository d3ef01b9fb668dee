use Rattle.std.proofs.Common.{◌≡◌, ◌≤◌, drop}
use Rattle.p414_action_check.specs.internal.Counted.{total_from}
use Rattle.p414_action_check.proofs.listed.total.Given as goal

abbrev pub invariant-loop-action : goal.invariant-loop-action
invariant-loop-action l = (total_from 65537 l.sizes l.so_far (drop l.action-index l.actions) ≡ total_from 65537 l.sizes 0 l.actions) × (l.so_far ≤ 65537)
