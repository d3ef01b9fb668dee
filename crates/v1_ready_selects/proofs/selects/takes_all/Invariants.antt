use Rattle.std.proofs.Common.{◌≡◌, drop}
use Rattle.v1_ready_selects.specs.Seen.{seen_scalars}
use Rattle.v1_ready_selects.specs.internal.Places.{takes_from}
use Rattle.v1_ready_selects.proofs.selects.takes_all.Given as goal

abbrev pub invariant-loop-test : goal.invariant-loop-test
invariant-loop-test l = record {
  taken : takes_from (seen_scalars l.keys) l.place (drop l.test-index l.tests) ≡ takes_from (seen_scalars l.keys) 0 l.tests;
  counted : l.place ≡ l.test-index;
}
