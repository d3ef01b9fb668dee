-- What a whole turn and a whole search from a node leave.
use Rattle.std.proofs.Common.{◌≡◌, ℕ, suc, ◌-◌, ◌<◌, ◌≤◌, inl, inr, ⊎_elim, List, [], ◌∷◌, Option, Some, None, slice_get, set, get_or, length, map, replicate, refl, sym, ap, ◌∙◌, subst, arith}
use Rattle.std.proofs.lemmas.Option.{slice_get_within, get_or_from_slice_get, slice_get-get_or}
use Rattle.std.proofs.lemmas.List.{length-map, length-replicate, get_or-replicate}
use Rattle.digraph.specs.declared.search.Mark.{Mark}
use Rattle.digraph.specs.declared.search.Mark.TheVariants.{New, Open, Done}
use Rattle.digraph.specs.declared.search.Frame.{Frame}
use Rattle.digraph.specs.Graphs.{successors, IsEdge, IsClosed, Reaches, Walk, Edge, Onward}
use Rattle.digraph.specs.Components.{AreComponents}
use Rattle.digraph.specs.internal.Search.{State, fresh, entered, joined, led_by, came_by, came_to, IsOnPath, Searching, IsListed, IsTurn, IsVisit, HasLeft, Closes, Stays, number_of}
use Rattle.digraph.proofs.Marking.{at_set, at_set_same, new_before, up_to_within}
use Rattle.digraph.proofs.Turning.{closing, leaving, taking, settling, joining, entering, top_within, on_path_within}
use Rattle.digraph.proofs.Listing.{listed_on, listed_joined, listed_entered, listed_closed, lighter_closed, lighter_left, lighter_taken, lighter_entered, among_at, number_at}
use Rattle.digraph.proofs.Walking.{edge_within, reaches_on, reaches_by_edge}

new_was : (marks : List Mark) (x a p : ℕ) → slice_get (set marks x (Open p)) a ≡ Some New → slice_get marks a ≡ Some New
new_was marks x a p e = ⊎_elim (λ (new : (a ≡ x) × (Open p ≡ New)). cc) (λ old. old.1) (at_set marks x a (Open p) New e)

pub left_turn : (g : List (List ℕ)) (f : Frame) (s new : State) → Searching g None (led_by f s) → IsListed s → f.left ≡ 0 → HasLeft s f.node new → IsTurn g (led_by f s) new
left_turn g f s new h l zero_left (Closes p ks is begins e) =
    subst (λ after. IsTurn g (led_by f s) after) (sym e)
    (record {
      searching = closing g f s p ks h zero_left is begins;
      listed = listed_closed s f.node p h.waiting h.done_below l is;
      reached = λ a n. new_before p s.count s.marks a n;
      lighter = lighter_closed g f s p;
    })
left_turn g f s new h l zero_left (Stays p is not e) =
    subst (λ after. IsTurn g (led_by f s) after) (sym e)
    (record {
      searching = leaving g f s p h zero_left is not;
      listed = l;
      reached = λ a n. n;
      lighter = lighter_left g f s;
    })

took_by : (g : List (List ℕ)) (node left x : ℕ) (s : State) (o : Option Mark) → IsClosed g → Searching g None (led_by (record { node = node; left = suc left }) s) → IsListed s → slice_get (successors g node) left ≡ Some x → slice_get s.marks x ≡ o
    → IsTurn g (led_by (record { node = node; left = suc left }) s) (came_by o (led_by (record { node = node; left = left }) s) x (length (successors g x)))
took_by g node left x s None closed_g h l e is =
    let within = closed_g.within node x (among_at (successors g node) left x e) in
    absurd (let some = slice_get-get_or s.marks x New (omega (arith, within, h.size)) in cc)
took_by g node left x s (Some New) closed_g h l e is =
    let edge = among_at (successors g node) left x e in
    record {
      searching = settling g node x (entered (led_by (record { node = node; left = left }) s) x (length (successors g x)))
          (entering g (Some (node, x)) (led_by (record { node = node; left = left }) s) x (length (successors g x)) (taking g node left x s h e) is refl
          (λ a p o. reaches_on g a node x (h.reach a node p h.path.0 o h.path.1 (λ k i le. top_within g None (record { node = node; left = suc left }) s h.path.0 h h.path.1 k i)) (reaches_by_edge g node x edge)))
          (λ p o. inr (
            length s.waiting,
            at_set_same s.marks x (Open (length s.waiting)) (slice_get_within s.marks x New is),
            λ k i le. ⊎_elim (λ same. omega (arith, same)) (λ older. let lt = on_path_within g s.marks (length s.waiting) k (record { node = node; left = suc left } ∷ s.path) h.path (h.begins k older) in omega (arith, lt)) i,
          ));
      listed = listed_entered (led_by (record { node = node; left = left }) s) x (length (successors g x)) (listed_on s (record { node = node; left = left }) l) is;
      reached = λ a n. new_was s.marks x a (length s.waiting) n;
      lighter = lighter_entered g node left x s is (closed_g.within node x edge);
    }
took_by g node left x s (Some (Open q)) closed_g h l e is =
    let edge = among_at (successors g node) left x e in
    record {
      searching = settling g node x (joined (led_by (record { node = node; left = left }) s) q)
          (joining g (Some (node, x)) (record { node = node; left = left }) s x q (taking g node left x s h e) edge is)
          (λ p o. inr (q, is, λ k i le. up_to_within q k s.begins h.falls i));
      listed = listed_joined (led_by (record { node = node; left = left }) s) q (listed_on s (record { node = node; left = left }) l);
      reached = λ a n. n;
      lighter = lighter_taken g node left s;
    }
took_by g node left x s (Some (Done n)) closed_g h l e is =
    record {
      searching = settling g node x (led_by (record { node = node; left = left }) s) (taking g node left x s h e) (λ p o. inl (n, is));
      listed = listed_on s (record { node = node; left = left }) l;
      reached = λ a m. m;
      lighter = lighter_taken g node left s;
    }

pub took_edge : (g : List (List ℕ)) (node left x : ℕ) (s : State) → IsClosed g → Searching g None (led_by (record { node = node; left = suc left }) s) → IsListed s → slice_get (successors g node) left ≡ Some x
    → IsTurn g (led_by (record { node = node; left = suc left }) s) (came_to (led_by (record { node = node; left = left }) s) x (length (successors g x)))
took_edge g node left x s closed_g h l e = took_by g node left x s (slice_get s.marks x) closed_g h l e refl

pub took_edge_of : (g : List (List ℕ)) (f : Frame) (x : ℕ) (s new : State) → IsClosed g → Searching g None (led_by f s) → IsListed s → 0 < f.left → slice_get (successors g f.node) (f.left - 1) ≡ Some x
    → new ≡ came_to (led_by (record { node = f.node; left = f.left - 1 }) s) x (length (successors g x)) → IsTurn g (led_by f s) new
took_edge_of g f x s new closed_g h l more e is =
    let whole : suc (f.left - 1) ≡ f.left = omega arith in
    subst (λ after. IsTurn g (led_by f s) after) (sym is)
    (subst (λ left. IsTurn g (led_by (record { node = f.node; left = left }) s) (came_to (led_by (record { node = f.node; left = f.left - 1 }) s) x (length (successors g x)))) whole
    (took_edge g f.node (f.left - 1) x s closed_g (subst (λ left. Searching g None (led_by (record { node = f.node; left = left }) s)) (sym whole) h) l e))

no_path : (marks : List Mark) (path : List Frame) (k : ℕ) → path ≡ [] → IsOnPath marks path k → ⊥
no_path marks [] k e i = i
no_path marks (f ∷ rest) k e i = absurd (cc)

-- without a path no node waits
pub no_open : (g : List (List ℕ)) (s : State) → Searching g None s → s.path ≡ [] → (a p : ℕ) → slice_get s.marks a ≡ Some (Open p) → ⊥
no_open g s h e a p o = let r = h.rooted a p o in no_path s.marks s.path r.0 e (h.begins r.0 r.1)

root_by : (g : List (List ℕ)) (s : State) (x : ℕ) (o : Option Mark) → Searching g None s → IsListed s → s.path ≡ [] → x < length g → slice_get s.marks x ≡ o → IsVisit g s (came_by o s x (length (successors g x))) x
root_by g s x None h l e within is = absurd (let some = slice_get-get_or s.marks x New (omega (arith, within, h.size)) in cc)
root_by g s x (Some New) h l e within is =
    record {
      searching = entering g None s x (length (successors g x)) h is refl (λ a p o. absurd (no_open g s h e a p o));
      listed = listed_entered s x (length (successors g x)) l is;
      reached = λ a n. new_was s.marks x a (length s.waiting) n;
      root_reached = λ n. let here = at_set_same s.marks x (Open (length s.waiting)) (slice_get_within s.marks x New is) in let bad : Some (Open (length s.waiting)) ≡ Some New = sym here ∙ n in cc;
    }
root_by g s x (Some (Open q)) h l e within is = absurd (no_open g s h e x q is)
root_by g s x (Some (Done n)) h l e within is =
    record { searching = h; listed = l; reached = λ a m. m; root_reached = λ m. let bad : Some (Done n) ≡ Some New = sym is ∙ m in cc }

pub root_visit : (g : List (List ℕ)) (s : State) (x : ℕ) → Searching g None s → IsListed s → s.path ≡ [] → x < length g → IsVisit g s (came_to s x (length (successors g x))) x
root_visit g s x h l e within = root_by g s x (slice_get s.marks x) h l e within refl

pub visit_on : (g : List (List ℕ)) (old mid new : State) (root : ℕ) → IsVisit g old mid root → IsTurn g mid new → IsVisit g old new root
visit_on g old mid new root v t =
    record { searching = t.searching; listed = t.listed; reached = λ a n. v.reached a (t.reached a n); root_reached = λ n. v.root_reached (t.reached root n) }

fresh_at : (n a : ℕ) (m : Mark) → slice_get (replicate n New) a ≡ Some m → New ≡ m
fresh_at n a m e =
    let within = slice_get_within (replicate n New) a m e in
    sym (get_or-replicate n a New New (omega (arith, within, length-replicate n New))) ∙ get_or_from_slice_get (replicate n New) a m New e

pub fresh_searching : (g : List (List ℕ)) → Searching g None (fresh (length g))
fresh_searching g =
    record {
      size = length-replicate (length g) New;
      waiting = record { waits = λ a p o. let bad = fresh_at (length g) a (Open p) o in absurd (cc); marked = λ a p w. absurd w };
      reach = λ a b p q oa ob behind. let bad = fresh_at (length g) a (Open p) oa in absurd (cc);
      edge = λ a b p o i. let bad = fresh_at (length g) a (Open p) o in absurd (cc);
      path = tt;
      begins = λ k i. absurd i;
      falls = tt;
      rooted = λ a p o. let bad = fresh_at (length g) a (Open p) o in absurd (cc);
      done_edge = λ a b n d i. let bad = fresh_at (length g) a (Done n) d in absurd (cc);
      done_reach = λ a b n da db. let bad = fresh_at (length g) a (Done n) da in absurd (cc);
      done_below = λ a n d. let bad = fresh_at (length g) a (Done n) d in absurd (cc);
    }

pub fresh_listed : (n : ℕ) → IsListed (fresh n)
fresh_listed n =
    record {
      few = omega arith;
      done = λ a i. absurd i;
      listed = λ a k d. let bad = fresh_at n a (Done k) d in absurd (cc);
      used = λ k lt. absurd (omega (arith, lt));
      once = tt;
      rises = tt;
    }

known_by : (g : List (List ℕ)) (s : State) (a : ℕ) (m : Mark) → Searching g None s → s.path ≡ [] → (slice_get s.marks a ≡ Some New → ⊥) → slice_get s.marks a ≡ Some m → (n : ℕ) × (slice_get s.marks a ≡ Some (Done n))
known_by g s a New h e not is = absurd (not is)
known_by g s a (Open p) h e not is = absurd (no_open g s h e a p is)
known_by g s a (Done n) h e not is = (n, is)

pub falls_along : (g : List (List ℕ)) (numbers : List ℕ) (b a : ℕ) → ((x y : ℕ) → IsEdge g x y → get_or numbers y 0 ≤ get_or numbers x 0) → Walk g a b → get_or numbers b 0 ≤ get_or numbers a 0
falls_along g numbers b a falls (Edge e i) = falls e b i
falls_along g numbers b a falls (Onward e c i rest) = let p = falls e c i in let q = falls_along g numbers b c falls rest in omega (arith, p, q)

falls_reaching : (g : List (List ℕ)) (numbers : List ℕ) (a b : ℕ) → ((x y : ℕ) → IsEdge g x y → get_or numbers y 0 ≤ get_or numbers x 0) → Reaches g a b → get_or numbers b 0 ≤ get_or numbers a 0
falls_reaching g numbers a b falls (inl e) = omega (arith, ap (λ x. get_or numbers x 0) e)
falls_reaching g numbers a b falls (inr walk) = falls_along g numbers b a falls walk

-- once each node was reached and no path is left, the numbers are those of the components
pub are_components : (g : List (List ℕ)) (s : State) → Searching g None s → IsListed s → s.path ≡ [] → ((a : ℕ) → a < length g → slice_get s.marks a ≡ Some New → ⊥) → AreComponents g (record { numbers = map number_of s.marks; order = s.order; count = s.count })
are_components g s h l e all =
    let known : (a : ℕ) → a < length g → (n : ℕ) × (slice_get s.marks a ≡ Some (Done n)) =
    λ a lt. known_by g s a (get_or s.marks a New) h e (all a lt) (slice_get-get_or s.marks a New (omega (arith, lt, h.size))) in
    let falls : (a b : ℕ) → IsEdge g a b → get_or (map number_of s.marks) b 0 ≤ get_or (map number_of s.marks) a 0 =
    λ a b i. let d = known a (edge_within g a b i) in
    let r = h.done_edge a b d.0 d.1 i in
    let x = number_at s.marks a d.0 d.1 in
    let y = number_at s.marks b r.0 r.1 in
    omega (arith, x, y, r.2) in
    record {
      each = length-map s.marks number_of ∙ h.size;
      same = λ a b la lb. (
        λ equal.
            let d = known a la in
            let r = known b lb in
            let x = number_at s.marks a d.0 d.1 in
            let y = number_at s.marks b r.0 r.1 in
            let one : r.0 ≡ d.0 = omega (arith, x, y, equal) in
            let rb : slice_get s.marks b ≡ Some (Done d.0) = r.1 ∙ ap (λ k. Some (Done k)) one in
            (h.done_reach a b d.0 d.1 rb, h.done_reach b a d.0 rb d.1),
        λ both.
            let x = falls_reaching g (map number_of s.marks) a b falls both.0 in
            let y = falls_reaching g (map number_of s.marks) b a falls both.1 in
            omega (arith, x, y),
      );
      falls = falls;
      below = λ a lt. let d = known a lt in let x = number_at s.marks a d.0 d.1 in let y = h.done_below a d.0 d.1 in omega (arith, x, y);
      used = λ n lt. let u = l.used n lt in (u.0, subst (λ k. u.0 < k) h.size (slice_get_within s.marks u.0 (Done n) u.1), number_at s.marks u.0 n u.1);
      nodes = λ a. (
        λ i. let d = l.done a i in subst (λ k. a < k) h.size (slice_get_within s.marks a (Done d.0) d.1),
        λ lt. let d = known a lt in l.listed a d.0 d.1,
      );
      once = l.once;
      rises = l.rises;
    }
