use Rattle.std.proofs.Common.{◌≡◌, ◌≤◌, drop}
use Rattle.p414_list_check.specs.internal.Expanded.{total_from}
use Rattle.p414_list_check.proofs.inputs.total.Given as goal

abbrev pub invariant-loop-list : goal.invariant-loop-list
invariant-loop-list l = (total_from 65537 l.sizes l.so_far (drop l.list-index l.lists) ≡ total_from 65537 l.sizes 0 l.lists) × (l.so_far ≤ 65537)
