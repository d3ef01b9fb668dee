-- The runs of two lists of arrivals, joined, are the run of both.
use Rattle.std.proofs.Common.{◌≡◌, ℕ, suc, ◌+◌, ◌%◌, ◌^◌, ◌<◌, List, [], ◌∷◌, ◌++◌, length, map, All, refl, sym, ◌∙◌, ap, ap₂, subst, arith}
use Rattle.std.proofs.Math.Nat.{mod-eq_of_lt}
use Rattle.state_store.specs.declared.shapes.Shape.{Shape}
use Rattle.state_store.specs.declared.shapes.Shape.TheVariants.{Counter, Direct, Register, Meter}
use Rattle.state_store.specs.Cells.{IsCounter, blank}
use Rattle.state_store.specs.State.{Contents, new_store, sum_of_stores, IsStore}
use Rattle.match_core.specs.Stores.{shapes_of, handed, with_colours, IsStoreOf}
use Rattle.fabric.specs.declared.packets.Arrival.{Arrival}
use Rattle.fabric.specs.declared.packets.Sent.{Sent}
use Rattle.fabric.specs.Fabric.{Whole, fabric_from, followed, raised, renumbered}
use Rattle.fabric.specs.Twins.{fit_any, AlikeWhole}
use Rattle.v1_core.specs.Signatures.{signature16}
use Rattle.v1_core.specs.Surroundings.{Setting}
use Rattle.v1_core.specs.Passes.{Between}
use Rattle.v1_core.specs.Runs.{machine16, before, Run16}
use Rattle.shard_laws.specs.Likeness.{LikeBetween}
use Rattle.shard_laws.specs.Laws.{Joins, ShardsJoin, ShardsLeave}
use Rattle.state_store.proofs.Sums.{zero_is, sum_neutral, sum_neutral_right, sum_commutes}
use Rattle.fabric.proofs.SameRuns.{fabric_from_alike}
use Rattle.fabric.proofs.Joining.{joined_runs, raised_runs}
use Rattle.shard_laws.proofs.Objects.{all_counters}
use Rattle.shard_laws.proofs.Shifting.{shift}
use Rattle.shard_laws.proofs.Machines.{Same, same_passes}

-- no colours are handed to counters
blank_handed : (shape : Shape) (colours : List ℕ) → IsCounter shape → handed (blank shape) colours ≡ blank shape
blank_handed (Counter kind cells) colours is = refl
blank_handed (Direct kind cells) colours is = refl
blank_handed (Register width cells) colours is = absurd is
blank_handed (Meter cells) colours is = absurd is

no_colours : (shapes : List Shape) (colours : List (List ℕ)) → All IsCounter shapes → with_colours (map blank shapes) colours ≡ map blank shapes
no_colours [] colours all = refl
no_colours (shape ∷ shapes) [] all = refl
no_colours (shape ∷ shapes) (more ∷ colours) all =
    ap₂ (λ x xs. x ∷ xs) (blank_handed shape more (all 0 shape (omega arith))) (no_colours shapes colours (λ k d lt. all (suc k) d (omega arith)))

module _ (c : Setting) (bound : ℕ) (counters : All IsCounter (shapes_of (signature16 c.syntax) c.entries)) where
  abbrev shapes : List Shape
  shapes = shapes_of (signature16 c.syntax) c.entries

  abbrev ran : ℕ → Between → List Arrival → Whole Between
  ran number b arrivals = fabric_from (machine16 c) c.entries.sessions bound number b arrivals

  begins_zero : (before c).store ≡ new_store shapes
  begins_zero = ap (λ cells. let s : Contents = record { shapes = shapes; cells = cells } in s) (no_colours shapes c.entries.colours counters)

  alike : (base : Contents) (work : ℕ) (a b : Between) → LikeBetween (shift shapes counters base work) a b → (arrivals : List Arrival) → AlikeWhole (LikeBetween (shift shapes counters base work)) (ran 0 a arrivals) (ran 0 b arrivals)
  unfolding shift
  alike base work a b h arrivals =
      fabric_from_alike (LikeBetween (shift shapes counters base work)) Same Same fit_any c.entries.sessions (λ k d lt. tt) (machine16 c) (machine16 c) (same_passes (shift shapes counters base work) c) bound 0 a b arrivals h (λ k d lt. (tt, tt))

  zero_store_is : IsStore (before c).store
  zero_store_is = subst (λ (s : Contents). IsStore s) (sym begins_zero) (zero_is shapes)

  -- a run leaves a store of the program's shapes, and a count of work below 2 ^ 64
  kept : (arrivals : List Arrival) → LikeBetween (shift shapes counters (new_store shapes) 0) (ran 0 (before c) arrivals).state (ran 0 (before c) arrivals).state
  unfolding shift
  kept arrivals = (alike (new_store shapes) 0 (before c) (before c) (record {
    store = record {
      is = zero_store_is;
      same = refl;
      sum = begins_zero ∙ sym (sum_neutral_right (new_store shapes) counters (zero_is shapes)) ∙ ap (λ (s : Contents). sum_of_stores s (new_store shapes)) (sym begins_zero);
    };
    work = (omega arith, refl);
  }) arrivals).2

  pub leaves : (arrivals : List Arrival) → IsStoreOf (signature16 c.syntax) c.entries (ran 0 (before c) arrivals).state.store × ((ran 0 (before c) arrivals).state.work < 2 ^ 64)
  unfolding shift
  leaves arrivals =
      let h = kept arrivals in
      (record { same_shapes = h.store.same; fits = h.store.is }, h.work.0)

  -- a run that begins where another one ended
  from_there : (some more : List Arrival) → let first = (ran 0 (before c) some).state in AlikeWhole (LikeBetween (shift shapes counters first.store first.work)) (ran 0 (before c) more) (ran 0 first more)
  unfolding shift
  from_there some more =
      let first = (ran 0 (before c) some).state in
      let h = kept some in
      alike first.store first.work (before c) first (record {
        store = record {
          is = zero_store_is;
          same = refl;
          sum =
              sym (sum_neutral first.store (subst (λ (l : List Shape). All IsCounter l) (sym h.store.same) counters) h.store.is)
              ∙ ap (λ (l : List Shape). sum_of_stores (new_store l) first.store) h.store.same
              ∙ ap (λ (s : Contents). sum_of_stores s first.store) (sym begins_zero);
        };
        work = (omega arith, sym (mod-eq_of_lt h.work.0) ∙ ap (λ (n : ℕ). n % 2 ^ 64) (omega arith));
      }) more

  pub joins : (some more : List Arrival) → Joins (length some) (ran 0 (before c) some) (ran 0 (before c) more) (ran 0 (before c) (some ++ more))
  unfolding shift
  joins some more =
      let first = ran 0 (before c) some in
      let second = ran 0 (before c) more in
      let third = ran 0 first.state more in
      let on : ran 0 (before c) (some ++ more) ≡ followed first (raised (length some) third) =
      joined_runs (machine16 c) c.entries.sessions bound 0 (before c) some more
      ∙ ap (λ (n : ℕ). followed first (ran n first.state more)) (omega arith)
      ∙ ap (followed first) (raised_runs (machine16 c) c.entries.sessions bound (length some) 0 first.state more) in
      let same = from_there some more in
      let one = kept some in
      let two = kept more in
      record {
        sent = ap (λ (w : Whole Between). w.sent) on ∙ ap (λ (l : List Sent). first.sent ++ map (renumbered (length some)) l) (sym same.0);
        cut = ap (λ (w : Whole Between). w.cut) on ∙ ap (λ (n : ℕ). first.cut + n) (sym same.1);
        store =
            ap (λ (w : Whole Between). w.state.store) on ∙ same.2.store.sum
            ∙ sum_commutes second.state.store first.state.store (subst (λ (l : List Shape). All IsCounter l) (sym two.store.same) counters) (one.store.same ∙ sym two.store.same) two.store.is one.store.is;
        work = ap (λ (w : Whole Between). w.state.work) on ∙ same.2.work.1 ∙ ap (λ (n : ℕ). n % 2 ^ 64) (omega arith);
      }

pub shards_join : ShardsJoin
unfolding Run16
shards_join c bound some more is =
    joins c bound (all_counters c.syntax c.entries is) some more

pub shards_leave : ShardsLeave
unfolding Run16
shards_leave c bound arrivals is =
    leaves c bound (all_counters c.syntax c.entries is) arrivals
