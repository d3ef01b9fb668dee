-- What a write of a mark leaves, what closing leaves of the marks and of those that wait, and lists of places that fall.
use Rattle.std.proofs.Common.{◌≡◌, ℕ, zero, suc, ◌+◌, ◌<◌, ◌≤◌, ◌⊎◌, inl, inr, ⊎_elim, Bool, true, false, cond, List, [], ◌∷◌, Option, Some, None, slice_get, set, length, drop, map, sum_by, refl, sym, ap, ◌∙◌, subst, arith, length-set}
use Rattle.std.specs.Prelude.{nat_lt, nat_le, option_map, MatchOption}
use Rattle.std.proofs.lemmas.Bool.{cases_eq, cases_lt, cases_Bool, ltb-true, ltb-false, leb-true, leb-false}
use Rattle.std.proofs.lemmas.Option.{slice_get_within, same_Some, slice_get-map}
use Rattle.std.proofs.lemmas.List.Sums.{sum_by-cons}
use Rattle.digraph.specs.declared.search.Mark.{Mark}
use Rattle.digraph.specs.declared.search.Mark.TheVariants.{New, Open, Done}
use Rattle.digraph.specs.Graphs.{Among}
use Rattle.digraph.specs.internal.Search.{up_to, shut, kept, shed, Waits, NotBehind, Falls, mark_weight}

-- a test by both its values
pub by_test : {P : Type 0} (b : Bool) → (b ≡ true → P) → (b ≡ false → P) → P
by_test b when_true when_false = ⊎_elim when_true when_false (cases_Bool b)

-- what a pop leaves
pub popped : (result : Option ℕ) (old new : List ℕ) → MatchOption result ((old ≡ []) × (new ≡ [])) (λ x. old ≡ x ∷ new) → new ≡ drop 1 old
popped None old new h = h.1 ∙ ap (drop 1) (sym h.0)
popped (Some x) old new h = sym (ap (drop 1) h)

pub at_set_same : {X : Type 0} (xs : List X) (i : ℕ) (y : X) → i < length xs → slice_get (set xs i y) i ≡ Some y
at_set_same [] i y h = absurd (omega arith)
at_set_same (x ∷ xs) zero y h = refl
at_set_same (x ∷ xs) (suc i) y h = at_set_same xs i y (omega arith)

pub at_set_other : {X : Type 0} (xs : List X) (i j : ℕ) (y : X) → (j ≡ i → ⊥) → slice_get (set xs i y) j ≡ slice_get xs j
at_set_other [] i j y h = refl
at_set_other (x ∷ xs) zero zero y h = absurd (h refl)
at_set_other (x ∷ xs) zero (suc j) y h = refl
at_set_other (x ∷ xs) (suc i) zero y h = refl
at_set_other (x ∷ xs) (suc i) (suc j) y h = at_set_other xs i j y (λ e. h (ap suc e))

-- what stands at a place after a write
pub at_set : {X : Type 0} (xs : List X) (i j : ℕ) (y z : X) → slice_get (set xs i y) j ≡ Some z → ((j ≡ i) × (y ≡ z)) ⊎ ((j ≡ i → ⊥) × (slice_get xs j ≡ Some z))
at_set xs i j y z h =
    ⊎_elim
    (λ e. let within = slice_get_within (set xs i y) j z h in
    inl (e, same_Some y z (sym (at_set_same xs i y (omega (arith, length-set xs i y))) ∙ (ap (λ k. slice_get (set xs i y) k) (sym e) ∙ h))))
    (λ n. inr (n, sym (at_set_other xs i j y n) ∙ h))
    (cases_eq j i)

-- what closing makes of one mark
shut_one_done : (k n : ℕ) (m : ℕ) (o : Option Mark) → option_map (shut k n) o ≡ Some (Done m) → (o ≡ Some (Done m)) ⊎ ((n ≡ m) × ((q : ℕ) × (o ≡ Some (Open q)) × (k ≤ q)))
shut_one_done k n m None e = cc
shut_one_done k n m (Some New) e = cc
shut_one_done k n m (Some (Done d)) e = inl e
shut_one_done k n m (Some (Open q)) e =
    by_test (nat_lt q k)
    (λ t. let f : Some (Open q) ≡ Some (Done m) = ap (λ b. Some (cond b (Open q) (Done n))) (sym t) ∙ e in cc)
    (λ t. let f : Some (Done n) ≡ Some (Done m) = ap (λ b. Some (cond b (Open q) (Done n))) (sym t) ∙ e in
    let same : n ≡ m = cc in inr (same, (q, refl, ltb-false q k t)))

shut_one_open : (k n : ℕ) (p : ℕ) (o : Option Mark) → option_map (shut k n) o ≡ Some (Open p) → (o ≡ Some (Open p)) × (p < k)
shut_one_open k n p None e = absurd (cc)
shut_one_open k n p (Some New) e = absurd (cc)
shut_one_open k n p (Some (Done d)) e = absurd (cc)
shut_one_open k n p (Some (Open q)) e =
    by_test (nat_lt q k)
    (λ t. let f : Some (Open q) ≡ Some (Open p) = ap (λ b. Some (cond b (Open q) (Done n))) (sym t) ∙ e in
    let same : q ≡ p = cc in (f, subst (λ x. x < k) same (ltb-true q k t)))
    (λ t. let f : Some (Done n) ≡ Some (Open p) = ap (λ b. Some (cond b (Open q) (Done n))) (sym t) ∙ e in absurd (cc))

shut_one_new : (k n : ℕ) (o : Option Mark) → option_map (shut k n) o ≡ Some New → o ≡ Some New
shut_one_new k n None e = absurd (cc)
shut_one_new k n (Some New) e = refl
shut_one_new k n (Some (Done d)) e = absurd (cc)
shut_one_new k n (Some (Open q)) e =
    by_test (nat_lt q k)
    (λ t. let f : Some (Open q) ≡ Some New = ap (λ b. Some (cond b (Open q) (Done n))) (sym t) ∙ e in absurd (cc))
    (λ t. let f : Some (Done n) ≡ Some New = ap (λ b. Some (cond b (Open q) (Done n))) (sym t) ∙ e in absurd (cc))

pub shut_kept : (k n q : ℕ) → q < k → shut k n (Open q) ≡ Open q
shut_kept k n q h = by_test (nat_lt q k) (λ t. ap (λ b. cond b (Open q) (Done n)) t) (λ t. absurd (omega (arith, ltb-false q k t)))

pub shut_ended : (k n q : ℕ) → k ≤ q → shut k n (Open q) ≡ Done n
shut_ended k n q h = by_test (nat_lt q k) (λ t. absurd (omega (arith, ltb-true q k t))) (λ t. ap (λ b. cond b (Open q) (Done n)) t)

pub done_before : (k n : ℕ) (marks : List Mark) (a m : ℕ) → slice_get (map (shut k n) marks) a ≡ Some (Done m) → (slice_get marks a ≡ Some (Done m)) ⊎ ((n ≡ m) × ((q : ℕ) × (slice_get marks a ≡ Some (Open q)) × (k ≤ q)))
done_before k n marks a m e = shut_one_done k n m (slice_get marks a) (sym (slice_get-map (shut k n) marks a) ∙ e)

pub open_before : (k n : ℕ) (marks : List Mark) (a p : ℕ) → slice_get (map (shut k n) marks) a ≡ Some (Open p) → (slice_get marks a ≡ Some (Open p)) × (p < k)
open_before k n marks a p e = shut_one_open k n p (slice_get marks a) (sym (slice_get-map (shut k n) marks a) ∙ e)

pub new_before : (k n : ℕ) (marks : List Mark) (a : ℕ) → slice_get (map (shut k n) marks) a ≡ Some New → slice_get marks a ≡ Some New
new_before k n marks a e = shut_one_new k n (slice_get marks a) (sym (slice_get-map (shut k n) marks a) ∙ e)

pub stays_done : (k n : ℕ) (marks : List Mark) (a m : ℕ) → slice_get marks a ≡ Some (Done m) → slice_get (map (shut k n) marks) a ≡ Some (Done m)
stays_done k n marks a m e = slice_get-map (shut k n) marks a ∙ ap (option_map (shut k n)) e

pub stays_open : (k n : ℕ) (marks : List Mark) (a q : ℕ) → slice_get marks a ≡ Some (Open q) → q < k → slice_get (map (shut k n) marks) a ≡ Some (Open q)
stays_open k n marks a q e h = slice_get-map (shut k n) marks a ∙ (ap (option_map (shut k n)) e ∙ ap Some (shut_kept k n q h))

pub is_ended : (k n : ℕ) (marks : List Mark) (a q : ℕ) → slice_get marks a ≡ Some (Open q) → k ≤ q → slice_get (map (shut k n) marks) a ≡ Some (Done n)
is_ended k n marks a q e h = slice_get-map (shut k n) marks a ∙ (ap (option_map (shut k n)) e ∙ ap Some (shut_ended k n q h))

-- nobody waits past the end
pub waits_within : (waiting : List ℕ) (p a : ℕ) → Waits waiting p a → p < length waiting
waits_within [] p a h = absurd h
waits_within (x ∷ rest) p a (inl e) = omega (arith, e.1)
waits_within (x ∷ rest) p a (inr h) = let k = waits_within rest p a h in omega (arith, k)

pub kept_waits : (k : ℕ) (waiting : List ℕ) (p a : ℕ) → Waits waiting p a → p < k → Waits (kept k waiting) p a
kept_waits k [] p a h lt = h
kept_waits k (x ∷ rest) p a h lt =
    by_test (nat_lt (length rest) k)
    (λ t. subst (λ b. Waits (cond b (x ∷ rest) (kept k rest)) p a) (sym t) h)
    (λ t. subst (λ b. Waits (cond b (x ∷ rest) (kept k rest)) p a) (sym t)
    (⊎_elim (λ e. absurd (omega (arith, e.1, ltb-false (length rest) k t))) (λ r. kept_waits k rest p a r lt) h))

pub waited : (k : ℕ) (waiting : List ℕ) (p a : ℕ) → Waits (kept k waiting) p a → Waits waiting p a × (p < k)
waited k [] p a h = absurd h
waited k (x ∷ rest) p a h =
    by_test (nat_lt (length rest) k)
    (λ t. let w : Waits (x ∷ rest) p a = subst (λ b. Waits (cond b (x ∷ rest) (kept k rest)) p a) t h in
    (w, omega (arith, waits_within (x ∷ rest) p a w, ltb-true (length rest) k t)))
    (λ t. let w : Waits (kept k rest) p a = subst (λ b. Waits (cond b (x ∷ rest) (kept k rest)) p a) t h in
    let r = waited k rest p a w in (inr r.0, r.1))

pub length-kept : (k : ℕ) (waiting : List ℕ) → k ≤ length waiting → length (kept k waiting) ≡ k
length-kept k [] h = omega arith
length-kept k (x ∷ rest) h =
    by_test (nat_lt (length rest) k)
    (λ t. subst (λ b. length (cond b (x ∷ rest) (kept k rest)) ≡ k) (sym t) (omega (arith, ltb-true (length rest) k t)))
    (λ t. subst (λ b. length (cond b (x ∷ rest) (kept k rest)) ≡ k) (sym t) (length-kept k rest (ltb-false (length rest) k t)))

pub shed_first : (k x : ℕ) (rest : List ℕ) → k ≤ length rest → (kept k (x ∷ rest) ≡ kept k rest) × (shed k (x ∷ rest) ≡ x ∷ shed k rest)
shed_first k x rest h =
    by_test (nat_lt (length rest) k)
    (λ t. absurd (omega (arith, ltb-true (length rest) k t)))
    (λ t. (ap (λ b. cond b (x ∷ rest) (kept k rest)) t, ap (λ b. cond b [] (x ∷ shed k rest)) t))

pub shed_none : (k : ℕ) (waiting : List ℕ) → length waiting ≤ k → (kept k waiting ≡ waiting) × (shed k waiting ≡ [])
shed_none k [] h = (refl, refl)
shed_none k (x ∷ rest) h =
    by_test (nat_lt (length rest) k)
    (λ t. (ap (λ b. cond b (x ∷ rest) (kept k rest)) t, ap (λ b. cond b [] (x ∷ shed k rest)) t))
    (λ t. absurd (omega (arith, ltb-false (length rest) k t)))

-- those that are shed are those that wait from the place on
pub shed_waits : (k : ℕ) (waiting : List ℕ) (a : ℕ) → Among a (shed k waiting) → (p : ℕ) × Waits waiting p a × (k ≤ p)
shed_waits k [] a h = absurd h
shed_waits k (x ∷ rest) a h =
    by_test (nat_lt (length rest) k)
    (λ t. absurd (subst (λ b. Among a (cond b [] (x ∷ shed k rest))) t h))
    (λ t. let w : Among a (x ∷ shed k rest) = subst (λ b. Among a (cond b [] (x ∷ shed k rest))) t h in
    ⊎_elim
    (λ e. (length rest, inl (e, refl), ltb-false (length rest) k t))
    (λ i. let r = shed_waits k rest a i in (r.0, inr r.1, r.2))
    w)

pub waits_shed : (k : ℕ) (waiting : List ℕ) (p a : ℕ) → Waits waiting p a → k ≤ p → Among a (shed k waiting)
waits_shed k [] p a h le = h
waits_shed k (x ∷ rest) p a h le =
    by_test (nat_lt (length rest) k)
    (λ t. absurd (omega (arith, waits_within (x ∷ rest) p a h, ltb-true (length rest) k t)))
    (λ t. subst (λ b. Among a (cond b [] (x ∷ shed k rest))) (sym t)
    (⊎_elim (λ e. inl e.0) (λ w. inr (waits_shed k rest p a w le)) h))

-- the numbers that aren't greater
pub up_to_among : (most k : ℕ) (ks : List ℕ) → Among k (up_to most ks) → Among k ks
up_to_among most k [] h = h
up_to_among most k (j ∷ js) h =
    by_test (nat_le j most)
    (λ t. subst (λ b. Among k (cond b (j ∷ js) (up_to most js))) t h)
    (λ t. inr (up_to_among most k js (subst (λ b. Among k (cond b (j ∷ js) (up_to most js))) t h)))

pub among_up_to : (most k : ℕ) (ks : List ℕ) → Among k ks → k ≤ most → Among k (up_to most ks)
among_up_to most k [] h le = h
among_up_to most k (j ∷ js) h le =
    by_test (nat_le j most)
    (λ t. subst (λ b. Among k (cond b (j ∷ js) (up_to most js))) (sym t) h)
    (λ t. subst (λ b. Among k (cond b (j ∷ js) (up_to most js))) (sym t)
    (⊎_elim (λ e. absurd (omega (arith, e, leb-false j most t))) (λ i. among_up_to most k js i le) h))

pub up_to_falls : (most : ℕ) (ks : List ℕ) → Falls ks → Falls (up_to most ks)
up_to_falls most [] h = tt
up_to_falls most (j ∷ js) h =
    by_test (nat_le j most)
    (λ t. subst (λ b. Falls (cond b (j ∷ js) (up_to most js))) (sym t) h)
    (λ t. subst (λ b. Falls (cond b (j ∷ js) (up_to most js))) (sym t) (up_to_falls most js h.1))

pub up_to_within : (most k : ℕ) (ks : List ℕ) → Falls ks → Among k (up_to most ks) → k ≤ most
up_to_within most k [] f h = absurd h
up_to_within most k (j ∷ js) f h =
    by_test (nat_le j most)
    (λ t. let w : Among k (j ∷ js) = subst (λ b. Among k (cond b (j ∷ js) (up_to most js))) t h in
    ⊎_elim (λ e. omega (arith, e, leb-true j most t)) (λ i. omega (arith, f.0 k i, leb-true j most t)) w)
    (λ t. up_to_within most k js f.1 (subst (λ b. Among k (cond b (j ∷ js) (up_to most js))) t h))

pub up_to_first : (most k : ℕ) (ks : List ℕ) → k ≤ most → up_to most (k ∷ ks) ≡ k ∷ ks
up_to_first most k ks h = by_test (nat_le k most) (λ t. ap (λ b. cond b (k ∷ ks) (up_to most ks)) t) (λ t. absurd (omega (arith, leb-false k most t)))

pub up_to_skip : (most k : ℕ) (ks : List ℕ) → most < k → up_to most (k ∷ ks) ≡ up_to most ks
up_to_skip most k ks h = by_test (nat_le k most) (λ t. absurd (omega (arith, leb-true k most t))) (λ t. ap (λ b. cond b (k ∷ ks) (up_to most ks)) t)

-- whether one isn't behind the other is decided by the begins
pub behind_or_not : (begins : List ℕ) (p q : ℕ) → NotBehind begins p q ⊎ ((k : ℕ) × Among k begins × (k ≤ p) × (q < k))
behind_or_not [] p q = inl (λ k i le. absurd i)
behind_or_not (j ∷ js) p q =
    ⊎_elim
    (λ (none : NotBehind js p q). ⊎_elim
    (λ le. inl (λ k i lp. ⊎_elim (λ e. omega (arith, e)) (λ r. none k r lp) i))
    (λ lt. ⊎_elim (λ jp. inr (j, inl refl, omega arith, lt)) (λ pj. inl (λ k i lp. ⊎_elim (λ e. absurd (omega (arith, e))) (λ r. none k r lp) i)) (cases_lt j (p + 1)))
    (⊎_elim (λ lt. inr lt) (λ le. inl le) (cases_lt q j)))
    (λ (one : (k : ℕ) × Among k js × (k ≤ p) × (q < k)). inr (one.0, inr one.1, one.2, one.3))
    (behind_or_not js p q)

-- a mark weighs the same when its component is closed
shut_weight : (e k n : ℕ) (m : Mark) → mark_weight e (shut k n m) ≡ mark_weight e m
shut_weight e k n New = refl
shut_weight e k n (Done d) = refl
shut_weight e k n (Open q) = by_test (nat_lt q k)
    (λ t. ap (λ b. mark_weight e (cond b (Open q) (Done n))) t)
    (λ t. ap (λ b. mark_weight e (cond b (Open q) (Done n))) t)

pub shut_weights : (e k n : ℕ) (marks : List Mark) → sum_by (mark_weight e) (map (shut k n) marks) ≡ sum_by (mark_weight e) marks
shut_weights e k n [] = refl
shut_weights e k n (m ∷ ms) =
    rw (sum_by-cons (mark_weight e) (shut k n m) (map (shut k n) ms), sum_by-cons (mark_weight e) m ms)
    (let a = shut_weight e k n m in let b = shut_weights e k n ms in omega arith)
