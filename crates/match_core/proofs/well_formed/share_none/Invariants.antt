use Rattle.std.proofs.Common.{◌≡◌, ℕ, ◌<◌, true, get_or, Some}
use Rattle.std.specs.Ordering.{nat_cmp}
use Rattle.std.specs.BTreeSet.{contains}
use Rattle.match_core.specs.declared.signatures.TableSig.{TableSig}
use Rattle.match_core.specs.Signatures.{ShareNone}
use Rattle.match_core.proofs.InPairs.{PairsBelow}
use Rattle.match_core.proofs.well_formed.share_none.Given as goal

abbrev pub invariant-loop-i : goal.invariant-loop-i
invariant-loop-i l = record {
  pairs : PairsBelow ShareNone l.tables l.i;
  seen : (object k : ℕ) (d : TableSig) → k < l.i → (get_or l.tables k d).direct ≡ Some object → contains nat_cmp l.seen object ≡ true;
  told : (object : ℕ) → contains nat_cmp l.seen object ≡ true → (k : ℕ) × (k < l.i) × ((d : TableSig) → (get_or l.tables k d).direct ≡ Some object);
}
