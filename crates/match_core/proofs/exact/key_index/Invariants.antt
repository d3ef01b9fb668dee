use Rattle.std.proofs.Common.{List, ℕ}
use Rattle.std.specs.Ordering.{nat_cmp}
use Rattle.std.specs.Cmp.Lexicographic.{slice_cmp}
use Rattle.std.specs.BTreeMap.{get}
use Rattle.match_core.specs.Best.{Filled, hits, rank_at, IsLeader}
use Rattle.match_core.proofs.exact.key_index.Given as goal

abbrev pub invariant-loop-i : goal.invariant-loop-i
invariant-loop-i l =
    let table : Filled = record { specs = l.specs; entries = l.entries } in
    (key : List ℕ) → IsLeader (hits table key) (rank_at table) l.i (get (slice_cmp nat_cmp) l.index key)
