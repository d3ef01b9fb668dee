-- The laws of sums of stores of the same counters: a sum of several stores depends neither on their order nor on how
-- they are grouped, and a packet that is counted in one of them is counted in the sum. (This project's own.)
use Rattle.std.specs.Prelude.{◌≡◌, ℕ}
use Rattle.state_store.specs.State.{Contents, new_store, count, sum_of_stores, IsStore}

-- what holds of two stores, and of any third one, of the same counters
pub record SumLaws (store more : Contents) : Type 0 where
  -- the store whose counts are all 0 is neutral
  pub neutral_left : sum_of_stores (new_store store.shapes) store ≡ store
  pub neutral_right : sum_of_stores store (new_store store.shapes) ≡ store
  -- the order doesn't count
  pub commutes : sum_of_stores store more ≡ sum_of_stores more store
  -- the grouping doesn't count
  pub associates : (third : Contents) → third.shapes ≡ store.shapes → IsStore third →
      sum_of_stores (sum_of_stores store more) third ≡ sum_of_stores store (sum_of_stores more third)
  -- what is counted in one of the two is counted in the sum
  pub counts_left : (object index octets : ℕ) →
      sum_of_stores (count store object index octets) more ≡ count (sum_of_stores store more) object index octets
  pub counts_right : (object index octets : ℕ) →
      sum_of_stores store (count more object index octets) ≡ count (sum_of_stores store more) object index octets
