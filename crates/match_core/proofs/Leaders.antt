-- Laws of the number that leads.
use Rattle.std.proofs.Common.{◌≡◌, length, List, ℕ, zero, suc, ◌<◌, ◌≤◌, nat_lt, Bool, true, false, if◌then◌else◌, Option, Some, None, refl, ap, arith, below_more}
use Rattle.std.proofs.lemmas.Bool.{ltb-true, ltb-false}
use Rattle.match_core.specs.Best.{Filled, Leads, IsLeader, IsBest, lead, leader, hits, rank_at, best}

-- what holds below a number and at it holds below the next
below_suc : (P : ℕ → Type 0) (i : ℕ) → ((k : ℕ) → k < i → P k) → P i → (k : ℕ) → k < suc i → P k
below_suc P i below here k lt = below_more P i below here k (omega arith)

module _ (test : ℕ → Bool) (rank : ℕ → ℕ) where
  -- the first number that passes leads
  pub first_leads : (i : ℕ) → ((k : ℕ) → k < i → test k ≡ false) → test i ≡ true → Leads test rank (suc i) i
  first_leads i none passed = record {
    within = omega arith;
    passes = passed;
    least = below_suc (λ k. test k ≡ true → rank i ≤ rank k) i (λ k lt passes. let fails = none k lt in cc) (λ passes. omega arith);
    first = below_suc (λ k. test k ≡ true → rank k ≡ rank i → i ≤ k) i (λ k lt passes same. let fails = none k lt in cc) (λ passes same. omega arith);
  }

  -- a number of a smaller rank takes the lead
  later_leads : (i n : ℕ) → Leads test rank i n → test i ≡ true → rank i < rank n → Leads test rank (suc i) i
  later_leads i n leads passed smaller = record {
    within = omega arith;
    passes = passed;
    least = below_suc (λ k. test k ≡ true → rank i ≤ rank k) i (λ k lt passes. let least = leads.least k lt passes in omega arith) (λ passes. omega arith);
    first = below_suc (λ k. test k ≡ true → rank k ≡ rank i → i ≤ k) i (λ k lt passes same. let least = leads.least k lt passes in absurd (omega arith)) (λ passes same. omega arith);
  }

  -- any other leaves the leader
  pub leader_stays : (i n : ℕ) → Leads test rank i n → (test i ≡ true → rank n ≤ rank i) → Leads test rank (suc i) n
  leader_stays i n leads larger = record {
    within = let within = leads.within in omega arith;
    passes = leads.passes;
    least = below_suc (λ k. test k ≡ true → rank n ≤ rank k) i leads.least larger;
    first = below_suc (λ k. test k ≡ true → rank k ≡ rank n → n ≤ k) i leads.first (λ passes same. let within = leads.within in omega arith);
  }

  pick_is : (i n : ℕ) (b : Bool) → nat_lt (rank i) (rank n) ≡ b → Leads test rank i n → test i ≡ true → IsLeader test rank (suc i) (if b then Some i else Some n)
  pick_is i n true is leads passed = later_leads i n leads passed (ltb-true (rank i) (rank n) is)
  pick_is i n false is leads passed = leader_stays i n leads (λ _. ltb-false (rank i) (rank n) is)

  lead_is : (found : Option ℕ) (i : ℕ) → IsLeader test rank i found → test i ≡ true → IsLeader test rank (suc i) (lead rank found i)
  lead_is None i none passed = first_leads i none passed
  lead_is (Some n) i leads passed = pick_is i n (nat_lt (rank i) (rank n)) refl leads passed

  pub pass_is : (found : Option ℕ) (i : ℕ) → IsLeader test rank i found → test i ≡ false → IsLeader test rank (suc i) found
  pass_is None i none failed = below_suc (λ k. test k ≡ false) i none failed
  pass_is (Some n) i leads failed = leader_stays i n leads (λ passed. cc)

  turn_is : (found : Option ℕ) (i : ℕ) (b : Bool) → test i ≡ b → IsLeader test rank i found → IsLeader test rank (suc i) (if b then lead rank found i else found)
  turn_is found i true passed is = lead_is found i is passed
  turn_is found i false failed is = pass_is found i is failed

  -- the scan finds the leader
  pub leader_is : (count : ℕ) → IsLeader test rank count (leader test rank count)
  leader_is zero = λ i lt. absurd (omega arith)
  leader_is (suc i) = turn_is (leader test rank i) i (test i) refl (leader_is i)

  -- there is one leader at most
  pub leader_unique : (count : ℕ) (a b : Option ℕ) → IsLeader test rank count a → IsLeader test rank count b → a ≡ b
  leader_unique count None None a_is b_is = refl
  leader_unique count None (Some m) a_is b_is = let fails = a_is m b_is.within in let passes = b_is.passes in cc
  leader_unique count (Some n) None a_is b_is = let fails = b_is n a_is.within in let passes = a_is.passes in cc
  leader_unique count (Some n) (Some m) a_is b_is =
      let low = a_is.least m b_is.within b_is.passes in
      let high = b_is.least n a_is.within a_is.passes in
      let first = a_is.first m b_is.within b_is.passes (omega arith) in
      let second = b_is.first n a_is.within a_is.passes (omega arith) in
      let same : n ≡ m = omega arith in
      ap (λ (k : ℕ). Some k) same

-- the scan finds the best entry
pub best_is : (table : Filled) (key : List ℕ) → IsBest table key (best table key)
best_is table key = leader_is (hits table key) (rank_at table) (length table.entries)

-- and what is best is what the scan finds
pub best_unique : (table : Filled) (key : List ℕ) (found : Option ℕ) → IsBest table key found → found ≡ best table key
best_unique table key found is = leader_unique (hits table key) (rank_at table) (length table.entries) found (best table key) is (best_is table key)
