use Rattle.std.proofs.Common.{◌≡◌, [], replicate}
use Rattle.p416_main_check.proofs.places.no_places.Given as goal

abbrev pub invariant-loop : goal.invariant-loop
invariant-loop l = l.places.items ≡ replicate l.counter []
