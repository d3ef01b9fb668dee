use Rattle.std.proofs.Common.{◌≡◌}
use Rattle.p416_main_check.proofs.Standing.{SoFar}
use Rattle.p416_main_check.proofs.places.places_of.Given as goal

abbrev pub invariant-loop-name : goal.invariant-loop-name
invariant-loop-name l = (l.place ≡ l.name-index) × SoFar l.main l.name-index l.places.items
