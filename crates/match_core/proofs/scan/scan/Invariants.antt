use Rattle.std.proofs.Common.{◌≡◌, ◌<◌, IfSome}
use Rattle.match_core.specs.Best.{Filled, hits, rank_at, leader}
use Rattle.match_core.proofs.scan.scan.Given as goal

abbrev pub invariant-loop-i : goal.invariant-loop-i
invariant-loop-i l =
    let table : Filled = record { specs = l.specs; entries = l.entries } in
    record {
      found : l.best ≡ leader (hits table l.key) (rank_at table) l.i;
      within : IfSome l.best (λ n. n < l.i);
    }
