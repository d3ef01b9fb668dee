use Rattle.std.proofs.Common.{◌<◌}
use Rattle.p414_syntax.specs.declared.place.ArgumentPlace.{ArgumentPlace}
use Rattle.p414_expanded_check.specs.internal.Passing.{IsRefused}
use Rattle.p414_expanded_check.specs.internal.Flow.{place_number}
use Rattle.p414_expanded_check.proofs.expanded.is_refused_somewhere.Given as goal

abbrev pub invariant-loop-place : goal.invariant-loop-place
invariant-loop-place l = (p : ArgumentPlace) → place_number p < l.place-index → IsRefused l.names p → ⊥
