use Rattle.std.proofs.Common.{◌≡◌, ◌||◌, drop}
use Rattle.std.specs.List.{list_any}
use Rattle.p416_listed_check.specs.Pairs.{Pair, is_same_pair, is_listed_pair}
use Rattle.p416_listed_check.proofs.pairs.add_actions.Given as goal

abbrev pub invariant-loop-action : goal.invariant-loop-action
invariant-loop-action l =
    (p : Pair) → (list_any (is_same_pair p) l.set || list_any (is_listed_pair p l.called) (drop l.action-index l.actions)) ≡ (list_any (is_same_pair p) l.fn.set || list_any (is_listed_pair p l.called) l.actions)
