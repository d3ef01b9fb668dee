-- How much work is left, and how a listing begins.
use Rattle.std.proofs.Common.{◌≡◌, ℕ, zero, suc, ◌+◌, ◌-◌, ◌<◌, ◌≤◌, inl, inr, ⊎_elim, Bool, true, false, List, [], ◌∷◌, Option, Some, None, get_or, set, length, replicate, refl, sym, ap, ◌∙◌, subst, add-one, arith}
use Rattle.std.specs.Prelude.{nat_eq}
use Rattle.std.specs.BTreeSet.{insert_key}
use Rattle.std.specs.Ordering.{nat_cmp}
use Rattle.std.proofs.lemmas.Bool.{cases_lt, cond_both, eqb-true, eqb-false}
use Rattle.std.proofs.lemmas.Bool.Decides.{nat_tests}
use Rattle.std.proofs.lemmas.List.{get_or-replicate, get_or_past, length-replicate, length-append, length-set}
use Rattle.std.proofs.lemmas.List.Sums.{sum_by-set}
use Rattle.digraph.specs.Graphs.{Among}
use Rattle.least_order.specs.internal.Listing.{Progress, mark_of, released, paid, paid_all, looked_at, begun, IsStart, is_owed, work_of}
use Rattle.least_order.specs.Orders.{Precedes}
use Rattle.least_order.proofs.Ready.{by_order, Ascends}
use Rattle.least_order.proofs.Owing.{owing_fresh}
use Rattle.least_order.proofs.Underway.{AnyNode, Listed}
use Rattle.least_order.proofs.Releasing.{BooksOf, pay, owed_some}

put_length : (xs : List ℕ) (k : ℕ) → length (insert_key nat_cmp xs k) ≤ length xs + 1
put_length [] k = omega arith
put_length (x ∷ xs) k =
    by_order (λ zs. length zs ≤ length (x ∷ xs) + 1) k x (k ∷ x ∷ xs) (x ∷ xs) (x ∷ insert_key nat_cmp xs k)
    (λ less. omega arith)
    (λ same. omega arith)
    (λ more. let rest = put_length xs k in omega (arith, rest))

released_work : (p : Progress) (b : ℕ) (m : Option ℕ) → work_of (released p b m) ≤ work_of p + 1
released_work p b None = let n = length-append p.gates (b ∷ []) in omega (arith, n)
released_work p b (Some x) = let n = put_length p.ready x in omega (arith, n)

pub released_owed : (p : Progress) (b : ℕ) (m : Option ℕ) → (released p b m).owed ≡ p.owed
released_owed p b None = refl
released_owed p b (Some x) = refl

pub released_order : (p : Progress) (b : ℕ) (m : Option ℕ) → (released p b m).order ≡ p.order
released_order p b None = refl
released_order p b (Some x) = refl

is_one : (n : ℕ) → 0 < n → is_owed n ≡ 1
is_one n lt = grind (arith, nat_tests)

is_none : (n : ℕ) → n ≡ 0 → is_owed n ≡ 0
is_none n e = grind (arith, nat_tests)

paid_work : (marks : List (Option ℕ)) (p : Progress) (b : ℕ) → b < length p.owed → 0 < get_or p.owed b 0 → work_of (paid marks p b) ≤ work_of p
paid_work marks p b lt some =
    let n : ℕ = get_or p.owed b 0 - 1 in
    let s = sum_by-set is_owed p.owed b (get_or p.owed b 0 - 1) 0 lt in
    let was = is_one (get_or p.owed b 0) some in
    cond_both (nat_eq (get_or p.owed b 0 - 1) 0) _ _ (λ (q : Progress). work_of q ≤ work_of p)
    (λ t. let r = released_work (record p { owed = set p.owed b (get_or p.owed b 0 - 1) }) b (mark_of marks b) in let now = is_none (get_or p.owed b 0 - 1) (eqb-true _ _ t) in omega (arith, s, was, r, now))
    (λ t. let not_zero : get_or p.owed b 0 - 1 ≡ 0 → ⊥ = eqb-false _ _ t in let now = is_one (get_or p.owed b 0 - 1) (omega (arith, not_zero)) in omega (arith, s, was, now))

paid_order : (marks : List (Option ℕ)) (p : Progress) (b : ℕ) → (paid marks p b).order ≡ p.order
paid_order marks p b =
    cond_both (nat_eq (get_or p.owed b 0 - 1) 0) _ _ (λ (q : Progress). q.order ≡ p.order)
    (λ t. released_order (record p { owed = set p.owed b (get_or p.owed b 0 - 1) }) b (mark_of marks b))
    (λ t. refl)

pub paid_length : (marks : List (Option ℕ)) (p : Progress) (b : ℕ) → length (paid marks p b).owed ≡ length p.owed
paid_length marks p b =
    cond_both (nat_eq (get_or p.owed b 0 - 1) 0) _ _ (λ (q : Progress). length q.owed ≡ length p.owed)
    (λ t. ap length (released_owed (record p { owed = set p.owed b (get_or p.owed b 0 - 1) }) b (mark_of marks b)) ∙ length-set p.owed b (get_or p.owed b 0 - 1))
    (λ t. length-set p.owed b (get_or p.owed b 0 - 1))

pub paid_all_length : (marks : List (Option ℕ)) (targets : List ℕ) (p : Progress) → length (paid_all marks p targets).owed ≡ length p.owed
paid_all_length marks [] p = refl
paid_all_length marks (b ∷ targets) p = paid_all_length marks targets (paid marks p b) ∙ paid_length marks p b

pub paid_all_order : (marks : List (Option ℕ)) (targets : List ℕ) (p : Progress) → (paid_all marks p targets).order ≡ p.order
paid_all_order marks [] p = refl
paid_all_order marks (b ∷ targets) p = paid_all_order marks targets (paid marks p b) ∙ paid_order marks p b

pub paid_all_work : (g : List (List ℕ)) (marks : List (Option ℕ)) (taken : List Bool) (targets : List ℕ) (p : Progress) → BooksOf g marks taken targets AnyNode p → ((b : ℕ) → Among b targets → (b < length g) × (get_or taken b false ≡ false)) → work_of (paid_all marks p targets) ≤ work_of p
paid_all_work g marks taken [] p h within = omega arith
paid_all_work g marks taken (b ∷ targets) p h within =
    let w = within b (inl refl) in
    let each = h.len_owed in
    let one = paid_work marks p b (omega (arith, each, w.0)) (owed_some g marks taken targets p b h w.0) in
    let rest = paid_all_work g marks taken targets (paid marks p b) (pay g marks taken targets p b h w.0 w.1) (λ c i. within c (inr i)) in
    omega (arith, one, rest)

-- what looking at the first nodes leaves as it was
pub begun_owed : (marks : List (Option ℕ)) (p : Progress) (n : ℕ) → (begun marks p n).owed ≡ p.owed
begun_owed marks p zero = refl
begun_owed marks p (suc n) =
    cond_both (nat_eq (get_or (begun marks p n).owed n 0) 0) _ _ (λ (q : Progress). q.owed ≡ p.owed)
    (λ t. released_owed (begun marks p n) n (mark_of marks n) ∙ begun_owed marks p n)
    (λ t. begun_owed marks p n)

pub begun_more : (marks : List (Option ℕ)) (p : Progress) (n : ℕ) → begun marks p (n + 1) ≡ looked_at marks (begun marks p n) n
begun_more marks p n = ap (λ (k : ℕ). begun marks p k) (add-one n)

pub begun_order : (marks : List (Option ℕ)) (p : Progress) (n : ℕ) → (begun marks p n).order ≡ p.order
begun_order marks p zero = refl
begun_order marks p (suc n) =
    cond_both (nat_eq (get_or (begun marks p n).owed n 0) 0) _ _ (λ (q : Progress). q.order ≡ p.order)
    (λ t. released_order (begun marks p n) n (mark_of marks n) ∙ begun_order marks p n)
    (λ t. begun_order marks p n)

pub untaken : (n b : ℕ) → get_or (replicate n false) b false ≡ false
untaken n b =
    ⊎_elim
    (λ less. get_or-replicate n b false false less)
    (λ past. get_or_past (replicate n false) b false (let l = length-replicate n false in omega (arith, past, l)))
    (cases_lt b n)

pub start_books : (g : List (List ℕ)) (marks : List (Option ℕ)) (p : Progress) → IsStart g p → BooksOf g marks (replicate (length g) false) [] (λ b. b < 0) p
start_books g marks p h =
    record {
      len_taken = length-replicate (length g) false;
      len_owed = h.each;
      owes = λ b less. let o = h.owes b less in let f = owing_fresh g (length g) b in omega (arith, o, f);
      free = λ b less seen. absurd (omega (arith, seen));
      gate = λ b i. absurd (subst (λ xs. Among b xs) h.gates i);
      mark = λ x i. absurd (subst (λ xs. Among x xs) h.ready i);
      once = λ b i. subst (λ xs. Precedes b b xs) h.gates i;
      ascends = subst Ascends (sym h.ready) (cc);
    }

pub start_listed : (g : List (List ℕ)) (marks : List (Option ℕ)) (n : ℕ) → Listed g marks (replicate n false) []
start_listed g marks n =
    record {
      back = λ a b t. absurd (never b t);
      out = λ b x t. absurd (never b t);
      from = λ x i. absurd i;
      steps = cc;
    }
  where
    never : (b : ℕ) → get_or (replicate n false) b false ≡ true → ⊥
    never b t = let bad : false ≡ true = sym (untaken n b) ∙ t in cc
