-- What each step of the search for the nodes that one reaches keeps.
use Rattle.std.proofs.Common.{◌≡◌, ℕ, ◌<◌, ◌⊎◌, inl, inr, ⊎_elim, Bool, true, false, cond, List, [], ◌∷◌, get_or, set, length, replicate, refl, sym, ap, ◌∙◌, subst, arith, length-set}
use Rattle.std.proofs.lemmas.Bool.{cases_eq, cases_lt}
use Rattle.std.proofs.lemmas.List.{get_or-set_same, get_or-set_other, get_or_past, get_or-replicate, length-replicate}
use Rattle.std.proofs.lemmas.List.Sums.{sum_by-set}
use Rattle.digraph.specs.Graphs.{Among, successors, IsEdge, IsClosed, Reaches, Walk, Edge, Onward, AreReached}
use Rattle.digraph.specs.internal.Reaching.{Reach, WasReached, reach_node, reach_all, Spreading, unreached, reach_work}
use Rattle.digraph.proofs.Marking.{by_test}
use Rattle.digraph.proofs.Walking.{reaches_on, reaches_by_edge}

-- what was reached once a node is marked
marked : (reached : List Bool) (a x : ℕ) → get_or (set reached a true) x false ≡ true → (x ≡ a) ⊎ (get_or reached x false ≡ true)
marked reached a x e = ⊎_elim (λ same. inl same) (λ differs. inr (sym (get_or-set_other reached a x true false differs) ∙ e)) (cases_eq x a)

stays : (reached : List Bool) (a x : ℕ) → a < length reached → get_or reached x false ≡ true → get_or (set reached a true) x false ≡ true
stays reached a x lt e =
    ⊎_elim (λ same. subst (λ y. get_or (set reached a true) y false ≡ true) (sym same) (get_or-set_same reached a true false lt)) (λ differs. get_or-set_other reached a x true false differs ∙ e) (cases_eq x a)

-- one of the edges of a node is taken
pub spread_one : (g : List (List ℕ)) (from a b : ℕ) (more : List ℕ) (r : Reach) → IsEdge g a b → b < length g → WasReached r a → Spreading g from a (b ∷ more) r → Spreading g from a more (reach_node r b)
spread_one g from a b more r edge lt at h =
    by_test (get_or r.reached b false)
    (λ was. subst (λ t. Spreading g from a more (cond t r (record { reached = set r.reached b true; left = b ∷ r.left }))) (sym was)
    (record {
      each = h.each;
      start = h.start;
      sound = h.sound;
      put = h.put;
      taken = λ x y o i.
          ⊎_elim
          (λ done. inl done)
          (λ other. ⊎_elim
          (λ left. inr (inl left))
          (λ some. ⊎_elim (λ first. inl (subst (λ z. get_or r.reached z false ≡ true) (sym first) was)) (λ later. inr (inr (some.0, later))) some.1)
          other)
          (h.taken x y o i);
    }))
    (λ not. subst (λ t. Spreading g from a more (cond t r (record { reached = set r.reached b true; left = b ∷ r.left }))) (sym not)
    (let within : b < length r.reached = omega (arith, lt, h.each) in
    record {
      each = length-set r.reached b true ∙ h.each;
      start = stays r.reached b from within h.start;
      sound = λ x o. ⊎_elim (λ same. subst (λ z. Reaches g from z) (sym same) (reaches_on g from a b (h.sound a at) (reaches_by_edge g a b edge))) (λ was. h.sound x was) (marked r.reached b x o);
      put = λ x i. ⊎_elim (λ same. subst (λ z. get_or (set r.reached b true) z false ≡ true) (sym same) (get_or-set_same r.reached b true false within)) (λ older. stays r.reached b x within (h.put x older)) i;
      taken = λ x y o i.
          ⊎_elim
          (λ same. inr (inl (inl same)))
          (λ was. ⊎_elim
          (λ done. inl (stays r.reached b y within done))
          (λ other. ⊎_elim
          (λ left. inr (inl (inr left)))
          (λ some. ⊎_elim (λ first. inl (subst (λ z. get_or (set r.reached b true) z false ≡ true) (sym first) (get_or-set_same r.reached b true false within))) (λ later. inr (inr (some.0, later))) some.1)
          other)
          (h.taken x y was i))
          (marked r.reached b x o);
    }))

keeps_one : (r : Reach) (a b : ℕ) → b < length r.reached → WasReached r a → WasReached (reach_node r b) a
keeps_one r a b lt at =
    by_test (get_or r.reached b false)
    (λ was. subst (λ t. WasReached (cond t r (record { reached = set r.reached b true; left = b ∷ r.left })) a) (sym was) at)
    (λ not. subst (λ t. WasReached (cond t r (record { reached = set r.reached b true; left = b ∷ r.left })) a) (sym not) (stays r.reached b a lt at))

pub spread_all : (g : List (List ℕ)) (from a : ℕ) (targets : List ℕ) (r : Reach) → IsClosed g → ((b : ℕ) → Among b targets → IsEdge g a b) → WasReached r a → Spreading g from a targets r → Spreading g from a [] (reach_all r targets)
spread_all g from a [] r closed_g edges at h = h
spread_all g from a (b ∷ more) r closed_g edges at h =
    let edge = edges b (inl refl) in
    let lt = closed_g.within a b edge in
    spread_all g from a more (reach_node r b) closed_g (λ d i. edges d (inr i)) (keeps_one r a b (omega (arith, lt, h.each)) at) (spread_one g from a b more r edge lt at h)

-- the next node's edges are to be taken
pub take_next : (g : List (List ℕ)) (from x a : ℕ) (r : Reach) → Spreading g from x [] (record { reached = r.reached; left = a ∷ r.left }) → Spreading g from a (successors g a) r
take_next g from x a r h =
    record {
      each = h.each;
      start = h.start;
      sound = h.sound;
      put = λ y i. h.put y (inr i);
      taken = λ y b o i.
          ⊎_elim
          (λ done. inl done)
          (λ other. ⊎_elim
          (λ left. ⊎_elim (λ same. inr (inr (same, subst (λ z. IsEdge g z b) same i))) (λ older. inr (inl older)) left)
          (λ some. absurd some.1)
          other)
          (h.taken y b o i);
    }

-- the work that is left
same_work : (r : Reach) (b : ℕ) → b < length r.reached → reach_work (reach_node r b) ≡ reach_work r
same_work r b lt =
    by_test (get_or r.reached b false)
    (λ was. ap (λ t. reach_work (cond t r (record { reached = set r.reached b true; left = b ∷ r.left }))) was)
    (λ not. ap (λ t. reach_work (cond t r (record { reached = set r.reached b true; left = b ∷ r.left }))) not
    ∙ (let s = sum_by-set unreached r.reached b true false lt in let one : unreached (get_or r.reached b false) ≡ 1 = ap unreached not in omega (arith, s, one)))

length-reach_node : (r : Reach) (b : ℕ) → length (reach_node r b).reached ≡ length r.reached
length-reach_node r b =
    by_test (get_or r.reached b false)
    (λ was. ap (λ t. length (cond t r (record { reached = set r.reached b true; left = b ∷ r.left })).reached) was)
    (λ not. ap (λ t. length (cond t r (record { reached = set r.reached b true; left = b ∷ r.left })).reached) not ∙ length-set r.reached b true)

pub length-reach_all : (r : Reach) (targets : List ℕ) → length (reach_all r targets).reached ≡ length r.reached
length-reach_all r [] = refl
length-reach_all r (b ∷ more) = length-reach_all (reach_node r b) more ∙ length-reach_node r b

pub same_work_all : (r : Reach) (targets : List ℕ) → ((b : ℕ) → Among b targets → b < length r.reached) → reach_work (reach_all r targets) ≡ reach_work r
same_work_all r [] h = refl
same_work_all r (b ∷ more) h =
    same_work_all (reach_node r b) more (λ d i. let lt = h d (inr i) in let n = length-reach_node r b in omega (arith, lt, n)) ∙ same_work r b (h b (inl refl))

-- only the start is reached
pub begin : (g : List (List ℕ)) (from n : ℕ) → n ≡ length g → from < length g → (let r : Reach = record { reached = replicate n false; left = [] } in Spreading g from from [] (reach_node r from))
begin g from n all lt =
    let within : from < length (replicate n false) = omega (arith, lt, all, length-replicate n false) in
    let none : get_or (replicate n false) from false ≡ false = get_or-replicate n from false false (omega (arith, lt, all)) in
    subst (λ t. Spreading g from from [] (cond t (record { reached = replicate n false; left = [] }) (record { reached = set (replicate n false) from true; left = from ∷ [] }))) (sym none)
    (record {
      each = length-set (replicate n false) from true ∙ (length-replicate n false ∙ all);
      start = get_or-set_same (replicate n false) from true false within;
      sound = λ x o. ⊎_elim (λ same. inl (sym same)) (λ was. absurd (never n x was)) (marked (replicate n false) from x o);
      put = λ x i. ⊎_elim (λ same. subst (λ z. get_or (set (replicate n false) from true) z false ≡ true) (sym same) (get_or-set_same (replicate n false) from true false within)) (λ none. absurd none) i;
      taken = λ x b o i. ⊎_elim (λ same. inr (inl (inl same))) (λ was. absurd (never n x was)) (marked (replicate n false) from x o);
    })
  where
    never : (m x : ℕ) → get_or (replicate m false) x false ≡ true → ⊥
    never m x e =
        ⊎_elim
        (λ less. let is = get_or-replicate m x false false less in let bad : false ≡ true = sym is ∙ e in cc)
        (λ past. let is = get_or_past (replicate m false) x false (omega (arith, past, length-replicate m false)) in let bad : false ≡ true = sym is ∙ e in cc)
        (cases_lt x m)

along : (g : List (List ℕ)) (from b a : ℕ) (r : Reach) → ((x y : ℕ) → WasReached r x → IsEdge g x y → WasReached r y) → WasReached r a → Walk g a b → WasReached r b
along g from b a r closed_r at (Edge e i) = closed_r e b at i
along g from b a r closed_r at (Onward e d i rest) = along g from b d r closed_r (closed_r e d at i) rest

-- at the end the nodes are known that are reached
pub are_reached : (g : List (List ℕ)) (from x : ℕ) (r : Reach) → Spreading g from x [] r → r.left ≡ [] → AreReached g from r.reached
are_reached g from x r h none =
    let closed_r : (y b : ℕ) → WasReached r y → IsEdge g y b → WasReached r b =
    λ y b o i. ⊎_elim (λ done. done) (λ other. absurd (⊎_elim (λ left. subst (λ ys. Among y ys) none left) (λ some. some.1) other)) (h.taken y b o i) in
    record {
      each = h.each;
      exact = λ a lt. (λ o. h.sound a o, λ reaches. ⊎_elim (λ same. subst (λ z. WasReached r z) same h.start) (λ walk. along g from a from r closed_r h.start walk) reaches);
    }

-- the same for the node that was taken off
pub next_within : (g : List (List ℕ)) (from x a : ℕ) (r before : Reach) → before ≡ record { reached = r.reached; left = a ∷ r.left } → Spreading g from x [] before → a < length g
next_within g from x a r before e h =
    let at = h.put a (subst (λ (s : Reach). Among a s.left) (sym e) (inl refl)) in
    ⊎_elim
    (λ less. less)
    (λ past. let none = get_or_past before.reached a false (omega (arith, past, h.each)) in let bad : false ≡ true = sym none ∙ at in cc)
    (cases_lt a (length g))

pub put_within : (g : List (List ℕ)) (from x a b : ℕ) (r before : Reach) → IsClosed g → before ≡ record { reached = r.reached; left = a ∷ r.left } → Spreading g from x [] before → IsEdge g a b → b < length r.reached
put_within g from x a b r before closed_g e h edge =
    let lt = closed_g.within a b edge in
    let same = ap (λ (s : Reach). length s.reached) e in
    omega (arith, lt, same, h.each)

pub spread_next : (g : List (List ℕ)) (from x a : ℕ) (r before after : Reach) → IsClosed g → before ≡ record { reached = r.reached; left = a ∷ r.left } → Spreading g from x [] before → after ≡ reach_all r (successors g a) → Spreading g from a [] after
spread_next g from x a r before after closed_g e h is =
    let s = subst (λ t. Spreading g from x [] t) e h in
    subst (λ t. Spreading g from a [] t) (sym is) (spread_all g from a (successors g a) r closed_g (λ b i. i) (s.put a (inl refl)) (take_next g from x a r s))

pub lighter_next : (g : List (List ℕ)) (from x a : ℕ) (r before after : Reach) → IsClosed g → before ≡ record { reached = r.reached; left = a ∷ r.left } → Spreading g from x [] before → after ≡ reach_all r (successors g a) → reach_work after < reach_work before
lighter_next g from x a r before after closed_g e h is =
    let p = ap reach_work is in
    let q = same_work_all r (successors g a) (λ b i. put_within g from x a b r before closed_g e h i) in
    let s = ap reach_work e in
    omega (arith, p, q, s)
