-- Edges are taken, and nodes become free.
use Rattle.std.proofs.Common.{◌≡◌, ℕ, zero, suc, ◌+◌, ◌-◌, ◌<◌, ◌≤◌, ◌⊎◌, inl, inr, ⊎_elim, Bool, false, List, [], ◌∷◌, ◌++◌, Option, Some, None, get_or, set, length, refl, sym, ap, ◌∙◌, subst, arith}
use Rattle.std.specs.Prelude.{nat_eq}
use Rattle.std.specs.BTreeSet.{insert_key}
use Rattle.std.specs.Ordering.{nat_cmp}
use Rattle.std.proofs.lemmas.Bool.{cases_eq, cases_lt, cond_both, eqb-true, eqb-false}
use Rattle.std.proofs.lemmas.List.{get_or-set_same, get_or-set_other, length-set}
use Rattle.digraph.specs.Graphs.{Among}
use Rattle.least_order.specs.internal.Counts.{occurs, owing}
use Rattle.least_order.specs.internal.Listing.{Progress, mark_of, released, paid, paid_all, begun}
use Rattle.least_order.proofs.Members.{among_append, among_front, among_behind, precedes_snoc}
use Rattle.least_order.proofs.Ready.{put_members, put_new, put_old, put_ascends}
use Rattle.least_order.proofs.Owing.{one_same, one_other}
use Rattle.least_order.proofs.Underway.{WaitsBy, AnyNode, IsOpen, Books}

abbrev pub BooksOf : List (List ℕ) → List (Option ℕ) → List Bool → List ℕ → (ℕ → Type 0) → Progress → Type 0
BooksOf g marks taken left Seen p = Books g marks taken left Seen p.owed p.gates p.ready

module _ (g : List (List ℕ)) (marks : List (Option ℕ)) (taken : List Bool) where
  wider : (owed : List ℕ) (Seen Seen2 : ℕ → Type 0) (m : Option ℕ) (b : ℕ) → (Seen b → Seen2 b) → IsOpen g marks taken owed Seen m b → IsOpen g marks taken owed Seen2 m b
  wider owed Seen Seen2 m b grow o = record {
    within = o.within;
    seen = grow o.seen;
    untaken = o.untaken;
    none = o.none;
    mark = o.mark;
  }

  gate_more : (m : Option ℕ) (gates ready : List ℕ) (b c : ℕ) → WaitsBy m gates ready c → WaitsBy m (gates ++ b ∷ []) ready c
  gate_more None gates ready b c i = among_front gates (b ∷ []) c i
  gate_more (Some x) gates ready b c i = i

  mark_more : (m : Option ℕ) (gates ready : List ℕ) (x c : ℕ) → WaitsBy m gates ready c → WaitsBy m gates (insert_key nat_cmp ready x) c
  mark_more None gates ready x c i = i
  mark_more (Some y) gates ready x c i = put_old ready x y i

  -- a node that wasn't seen is free
  pub release : (left : List ℕ) (Seen Seen2 : ℕ → Type 0) (p : Progress) (b : ℕ) (m : Option ℕ) → BooksOf g marks taken left Seen p
      → b < length g → get_or taken b false ≡ false → get_or p.owed b 0 ≡ 0 → (Seen b → ⊥) → mark_of marks b ≡ m
      → ((c : ℕ) → Seen c → Seen2 c) → Seen2 b → ((c : ℕ) → Seen2 c → (c ≡ b) ⊎ Seen c)
      → BooksOf g marks taken left Seen2 (released p b m)
  release left Seen Seen2 p b None h lt un none fresh mark grow here split =
      record {
        len_taken = h.len_taken;
        len_owed = h.len_owed;
        owes = h.owes;
        free = λ c less seen un_c none_c.
            ⊎_elim
            (λ same. subst (λ z. WaitsBy (mark_of marks z) (p.gates ++ b ∷ []) p.ready z) (sym same) (subst (λ k. WaitsBy k (p.gates ++ b ∷ []) p.ready b) (sym mark) (among_behind p.gates (b ∷ []) b (inl refl))))
            (λ old. gate_more (mark_of marks c) p.gates p.ready b c (h.free c less old un_c none_c))
            (split c seen);
        gate = λ c i.
            ⊎_elim
            (λ old. wider p.owed Seen Seen2 None c (grow c) (h.gate c old))
            (λ new. ⊎_elim (λ e. subst (λ z. IsOpen g marks taken p.owed Seen2 None z) (sym e) (record { within = lt; seen = here; untaken = un; none = none; mark = mark })) (λ no. absurd no) new)
            (among_append p.gates (b ∷ []) c i);
        mark = λ x i. let o = h.mark x i in (o.0, wider p.owed Seen Seen2 (Some x) o.0 (grow o.0) o.1);
        once = λ c i. ⊎_elim (λ old. h.once c old) (λ new. fresh ((h.gate b (subst (λ z. Among z p.gates) new.1 new.0)).seen)) (precedes_snoc p.gates b c c i);
        ascends = h.ascends;
      }
  release left Seen Seen2 p b (Some x) h lt un none fresh mark grow here split =
      record {
        len_taken = h.len_taken;
        len_owed = h.len_owed;
        owes = h.owes;
        free = λ c less seen un_c none_c.
            ⊎_elim
            (λ same. subst (λ z. WaitsBy (mark_of marks z) p.gates (insert_key nat_cmp p.ready x) z) (sym same) (subst (λ k. WaitsBy k p.gates (insert_key nat_cmp p.ready x) b) (sym mark) (put_new p.ready x)))
            (λ old. mark_more (mark_of marks c) p.gates p.ready x c (h.free c less old un_c none_c))
            (split c seen);
        gate = λ c i. wider p.owed Seen Seen2 None c (grow c) (h.gate c i);
        mark = λ y i.
            ⊎_elim
            (λ e. (b, subst (λ z. IsOpen g marks taken p.owed Seen2 (Some z) b) (sym e) (record { within = lt; seen = here; untaken = un; none = none; mark = mark })))
            (λ old. let o = h.mark y old in (o.0, wider p.owed Seen Seen2 (Some y) o.0 (grow o.0) o.1))
            (put_members p.ready x y i);
        once = h.once;
        ascends = put_ascends p.ready x h.ascends;
      }

  -- one edge is taken, and whether its node is free isn't looked at yet
  pay_first : (left owed gates ready : List ℕ) (b n : ℕ) → Books g marks taken (b ∷ left) AnyNode owed gates ready → b < length g → n + 1 ≡ get_or owed b 0
      → Books g marks taken left (λ c. c ≡ b → ⊥) (set owed b n) gates ready
  pay_first left owed gates ready b n h lt is =
      record {
        len_taken = h.len_taken;
        len_owed = length-set owed b n ∙ h.len_owed;
        owes = λ c less.
            ⊎_elim
            (λ same. subst (λ z. get_or (set owed b n) z 0 ≡ owing g taken z + occurs z left) (sym same) (let o = h.owes b lt in let one = one_same b b refl in let now = get_or-set_same owed b n 0 within in omega (arith, o, one, is, now)))
            (λ differs. let o = h.owes c less in let zero_c = one_other c b differs in let now = get_or-set_other owed b c n 0 differs in omega (arith, o, zero_c, now))
            (cases_eq c b);
        free = λ c less differs un none. h.free c less (cc) un (sym (get_or-set_other owed b c n 0 differs) ∙ none);
        gate = λ c i. still None c (h.gate c i);
        mark = λ x i. let o = h.mark x i in (o.0, still (Some x) o.0 o.1);
        once = h.once;
        ascends = h.ascends;
      }
    where
      within : b < length owed
      within = let each = h.len_owed in omega (arith, lt, each)

      still : (m : Option ℕ) (c : ℕ) → IsOpen g marks taken owed AnyNode m c → IsOpen g marks taken (set owed b n) (λ c. c ≡ b → ⊥) m c
      still m c o =
          let differs : c ≡ b → ⊥ = λ e. let same = ap (λ z. get_or owed z 0) e in let none = o.none in omega (arith, same, none, is) in
          record {
            within = o.within;
            seen = differs;
            untaken = o.untaken;
            none = get_or-set_other owed b c n 0 differs ∙ o.none;
            mark = o.mark;
          }

  pub owed_some : (left : List ℕ) (p : Progress) (b : ℕ) → BooksOf g marks taken (b ∷ left) AnyNode p → b < length g → 0 < get_or p.owed b 0
  owed_some left p b h lt = let o = h.owes b lt in let one = one_same b b refl in omega (arith, o, one)

  pub pay : (left : List ℕ) (p : Progress) (b : ℕ) → BooksOf g marks taken (b ∷ left) AnyNode p → b < length g → get_or taken b false ≡ false → BooksOf g marks taken left AnyNode (paid marks p b)
  pay left p b h lt un =
      let some = owed_some left p b h lt in
      let n : ℕ = get_or p.owed b 0 - 1 in
      let first = pay_first left p.owed p.gates p.ready b (get_or p.owed b 0 - 1) h lt (omega (arith, some)) in
      let each = h.len_owed in
      let now = get_or-set_same p.owed b (get_or p.owed b 0 - 1) 0 (omega (arith, lt, each)) in
      cond_both (nat_eq (get_or p.owed b 0 - 1) 0) _ _ (λ q. BooksOf g marks taken left AnyNode q)
      (λ t. release left (λ c. c ≡ b → ⊥) AnyNode (record p { owed = set p.owed b (get_or p.owed b 0 - 1) }) b (mark_of marks b) first lt un (now ∙ eqb-true _ _ t) (λ differs. differs refl) refl (λ c differs. cc) (cc) (λ c any. cases_eq c b))
      (λ t. record {
        len_taken = first.len_taken;
        len_owed = first.len_owed;
        owes = first.owes;
        free = λ c less any un_c none. first.free c less (λ e. eqb-false _ _ t (sym now ∙ (ap (λ z. get_or (set p.owed b (get_or p.owed b 0 - 1)) z 0) (sym e) ∙ none))) un_c none;
        gate = λ c i. wider (set p.owed b (get_or p.owed b 0 - 1)) (λ c. c ≡ b → ⊥) AnyNode None c (λ d. cc) (first.gate c i);
        mark = λ x i. let o = first.mark x i in (o.0, wider (set p.owed b (get_or p.owed b 0 - 1)) (λ c. c ≡ b → ⊥) AnyNode (Some x) o.0 (λ d. cc) o.1);
        once = first.once;
        ascends = first.ascends;
      })

  pub pay_all : (targets : List ℕ) (p : Progress) → BooksOf g marks taken targets AnyNode p → ((b : ℕ) → Among b targets → (b < length g) × (get_or taken b false ≡ false)) → BooksOf g marks taken [] AnyNode (paid_all marks p targets)
  pay_all [] p h within = h
  pay_all (b ∷ targets) p h within =
      let w = within b (inl refl) in pay_all targets (paid marks p b) (pay targets p b h w.0 w.1) (λ c i. within c (inr i))

  -- the first nodes are looked at
  pub begun_books : (p : Progress) (n : ℕ) → BooksOf g marks taken [] (λ b. b < 0) p → n ≤ length g → ((b : ℕ) → get_or taken b false ≡ false) → BooksOf g marks taken [] (λ b. b < n) (begun marks p n)
  begun_books p zero h le un = h
  begun_books p (suc n) h le un =
      let before = begun_books p n h (omega (arith, le)) un in
      let q : Progress = begun marks p n in
      cond_both (nat_eq (get_or (begun marks p n).owed n 0) 0) _ _ (λ r. BooksOf g marks taken [] (λ b. b < suc n) r)
      (λ t. release [] (λ b. b < n) (λ b. b < suc n) (begun marks p n) n (mark_of marks n) before (omega (arith, le)) (un n) (eqb-true _ _ t) (λ less. omega (arith, less)) refl (λ c less. omega (arith, less)) (omega arith) (λ c less. split c less))
      (λ t. record {
        len_taken = before.len_taken;
        len_owed = before.len_owed;
        owes = before.owes;
        free = λ c less seen un_c none. ⊎_elim (λ e. absurd (eqb-false _ _ t (ap (λ z. get_or (begun marks p n).owed z 0) (sym e) ∙ none))) (λ old. before.free c less old un_c none) (split c seen);
        gate = λ c i. wider (begun marks p n).owed (λ b. b < n) (λ b. b < suc n) None c (λ less. omega (arith, less)) (before.gate c i);
        mark = λ x i. let o = before.mark x i in (o.0, wider (begun marks p n).owed (λ b. b < n) (λ b. b < suc n) (Some x) o.0 (λ less. omega (arith, less)) o.1);
        once = before.once;
        ascends = before.ascends;
      })
    where
      split : (c : ℕ) → c < suc n → (c ≡ n) ⊎ (c < n)
      split c less = ⊎_elim (λ lt. inr lt) (λ ge. inl (omega (arith, less, ge))) (cases_lt c n)

  pub all_seen : (p : Progress) → BooksOf g marks taken [] (λ b. b < length g) p → BooksOf g marks taken [] AnyNode p
  all_seen p h =
      record {
        len_taken = h.len_taken;
        len_owed = h.len_owed;
        owes = h.owes;
        free = λ c less any un none. h.free c less less un none;
        gate = λ c i. wider p.owed (λ b. b < length g) AnyNode None c (λ less. cc) (h.gate c i);
        mark = λ x i. let o = h.mark x i in (o.0, wider p.owed (λ b. b < length g) AnyNode (Some x) o.0 (λ less. cc) o.1);
        once = h.once;
        ascends = h.ascends;
      }
