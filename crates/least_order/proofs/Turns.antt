-- A listing from its beginning to its end.
use Rattle.std.proofs.Common.{◌≡◌, ℕ, ◌<◌, Bool, true, false, List, [], Option, set, length, replicate, sym, ap, ◌∙◌, subst, arith}
use Rattle.digraph.specs.Graphs.{Among, successors}
use Rattle.least_order.specs.Orders.{IsLeastOrder}
use Rattle.least_order.specs.internal.Listing.{Progress, begun, paid_all, IsStart, IsTaken, IsMark, MarkReaches, IsMarked, work_of}
use Rattle.least_order.proofs.Underway.{AnyNode, Books, Listed}
use Rattle.least_order.proofs.Releasing.{BooksOf, pay_all, begun_books, all_seen}
use Rattle.least_order.proofs.Working.{paid_all_work, paid_all_order, begun_order, untaken, start_books, start_listed}
use Rattle.least_order.proofs.Taking.{Taken, turned, listed_least}

-- what is true of a listing between two turns
pub record IsUnderway (g : List (List ℕ)) (marks : List (Option ℕ)) (taken : List Bool) (p : Progress) : Type 0 where
  pub books : BooksOf g marks taken [] AnyNode p
  pub listed : Listed g marks taken p.order

module _ (g : List (List ℕ)) (marks : List (Option ℕ)) (homes : List ℕ) (h : IsMarked g marks homes) where
  -- before the first turn
  begun_now : (p : Progress) → IsStart g p → IsUnderway g marks (replicate (length g) false) (begun marks p (length g))
  begun_now p start = record {
    books =
        all_seen g marks (replicate (length g) false) (begun marks p (length g))
        (begun_books g marks (replicate (length g) false) p (length g) (start_books g marks p start) (omega arith) (λ b. untaken (length g) b));
    listed = subst (λ (order : List ℕ). Listed g marks (replicate (length g) false) order) (sym (begun_order marks p (length g) ∙ start.order)) (start_listed g marks (length g));
  }

  pub is_begun : (p q : Progress) → IsStart g p → q ≡ begun marks p (length marks) → IsUnderway g marks (replicate (length g) false) q
  is_begun p q start is =
      subst (λ (r : Progress). IsUnderway g marks (replicate (length g) false) r) (sym (is ∙ ap (λ (n : ℕ). begun marks p n) h.each)) (begun_now p start)

  pub ready_within : (taken : List Bool) (p : Progress) (x : ℕ) → IsUnderway g marks taken p → Among x p.ready → x < length homes
  ready_within taken p x now i = let open_x = now.books.mark x i in (h.home open_x.0 x open_x.1.mark).0

  pub taken_now : (taken : List Bool) (a : ℕ) (old new : Progress) → IsTaken homes old new a → IsUnderway g marks taken old → Taken g marks taken a old new
  taken_now taken a old new is now = turned g marks homes h taken a old new is now.books now.listed

  -- a turn
  pub next_turn : (taken : List Bool) (a : ℕ) (old new q : Progress) (targets : List ℕ) → IsTaken homes old new a → IsUnderway g marks taken old → targets ≡ successors g a → q ≡ paid_all marks new targets → IsUnderway g marks (set taken a true) q
  next_turn taken a old new q targets is now are paid =
      let t = taken_now taken a old new is now in
      subst (λ (r : Progress). IsUnderway g marks (set taken a true) r) (sym (paid ∙ ap (λ xs. paid_all marks new xs) are))
      (record {
        books = pay_all g marks (set taken a true) (successors g a) new t.books t.targets;
        listed = subst (λ (order : List ℕ). Listed g marks (set taken a true) order) (sym (paid_all_order marks (successors g a) new)) t.listed;
      })

  pub turn_less : (taken : List Bool) (a : ℕ) (old new q : Progress) (targets : List ℕ) → IsTaken homes old new a → IsUnderway g marks taken old → targets ≡ successors g a → q ≡ paid_all marks new targets → work_of q < work_of old
  turn_less taken a old new q targets is now are paid =
      let t = taken_now taken a old new is now in
      let le = paid_all_work g marks (set taken a true) (successors g a) new t.books t.targets in
      let same = ap work_of (paid ∙ ap (λ xs. paid_all marks new xs) are) in
      let less = t.less in
      omega (arith, le, same, less)

  -- behind the last turn
  pub is_least : (taken : List Bool) (p : Progress) → IsUnderway g marks taken p → p.gates ≡ [] → p.ready ≡ [] → IsLeastOrder (IsMark g marks) (MarkReaches g marks) p.order
  is_least taken p now gates ready =
      listed_least g marks homes h taken p.owed p.order
      (subst (λ (xs : List ℕ). Books g marks taken [] AnyNode p.owed xs []) gates
      (subst (λ (xs : List ℕ). Books g marks taken [] AnyNode p.owed p.gates xs) ready now.books))
      now.listed

  pub is_ended : (taken : List Bool) (p q view : Progress) → IsUnderway g marks taken p → (q ≡ p) × (p.gates ≡ []) × (p.ready ≡ []) → view ≡ q → IsLeastOrder (IsMark g marks) (MarkReaches g marks) view.order
  is_ended taken p q view now ends seen =
      subst (λ (r : Progress). IsLeastOrder (IsMark g marks) (MarkReaches g marks) r.order) (sym (seen ∙ ends.0)) (is_least taken p now ends.1 ends.2)
