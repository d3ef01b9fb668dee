use Rattle.std.proofs.Common.{◌≡◌}
use Rattle.p416_signature.proofs.order.listed.Given as goal

abbrev pub invariant-loop-name : goal.invariant-loop-name
invariant-loop-name l =
    l.found.items ≡ l.yielded
