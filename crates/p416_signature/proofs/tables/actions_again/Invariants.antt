use Rattle.std.proofs.Common.{◌≡◌, ◌++◌, drop}
use Rattle.p416_signature.proofs.tables.actions_again.Given as goal

abbrev pub invariant-loop-action : goal.invariant-loop-action
invariant-loop-action l =
    l.again ++ drop l.action-index l.actions ≡ l.actions
