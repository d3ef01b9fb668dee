-- What each step of the search keeps.
use Rattle.std.proofs.Common.{◌≡◌, ℕ, zero, suc, ◌<◌, ◌≤◌, ◌⊎◌, inl, inr, ⊎_elim, List, [], ◌∷◌, Option, Some, None, slice_get, set, length, drop, take, map, refl, sym, ap, ◌∙◌, subst, arith, length-set}
use Rattle.std.proofs.lemmas.Bool.{cases_eq, cases_lt}
use Rattle.std.proofs.lemmas.Option.{slice_get_within, same_Some}
use Rattle.std.proofs.lemmas.List.{length-map, take_all}
use Rattle.digraph.specs.declared.search.Mark.{Mark}
use Rattle.digraph.specs.declared.search.Mark.TheVariants.{New, Open, Done}
use Rattle.digraph.specs.declared.search.Frame.{Frame}
use Rattle.digraph.specs.Graphs.{Among, successors, IsEdge, Reaches}
use Rattle.digraph.specs.internal.Search.{State, entered, joined, closed, led_by, up_to, shut, kept, NotBehind, IsSettled, IsLeft, IsPath, IsOnPath, Falls, Searching}
use Rattle.digraph.proofs.Marking.{at_set, at_set_same, at_set_other, done_before, open_before, stays_done, stays_open, is_ended, waits_within, kept_waits, waited, length-kept, up_to_among, among_up_to, up_to_falls, behind_or_not}
use Rattle.digraph.proofs.Walking.{reaches_on, reaches_by_edge}

-- a node has one mark
pub one_place : (marks : List Mark) (a p q : ℕ) → slice_get marks a ≡ Some (Open p) → slice_get marks a ≡ Some (Open q) → p ≡ q
one_place marks a p q h k = let e : Some (Open p) ≡ Some (Open q) = sym h ∙ k in cc

pub on_path_within : (g : List (List ℕ)) (marks : List Mark) (limit k : ℕ) (path : List Frame) → IsPath g marks limit path → IsOnPath marks path k → k < limit
on_path_within g marks limit k [] h i = absurd i
on_path_within g marks limit k (f ∷ rest) h (inl e) = let same = one_place marks f.node h.0 k h.1 e in omega (arith, h.2, same)
on_path_within g marks limit k (f ∷ rest) h (inr i) = let r = on_path_within g marks h.0 k rest h.4 i in omega (arith, r, h.2)

left_within : (g : List (List ℕ)) (marks : List Mark) (limit a b : ℕ) (path : List Frame) → IsPath g marks limit path → IsLeft g path a b → (p : ℕ) × (slice_get marks a ≡ Some (Open p)) × (p < limit)
left_within g marks limit a b [] h i = absurd i
left_within g marks limit a b (f ∷ rest) h (inl l) = (h.0, subst (λ x. slice_get marks x ≡ Some (Open h.0)) (sym l.0) h.1, h.2)
left_within g marks limit a b (f ∷ rest) h (inr i) = let r = left_within g marks h.0 a b rest h.4 i in (r.0, r.1, omega (arith, r.2, h.2))

path_longer : (g : List (List ℕ)) (marks : List Mark) (limit more : ℕ) (path : List Frame) → IsPath g marks limit path → limit ≤ more → IsPath g marks more path
path_longer g marks limit more [] h le = tt
path_longer g marks limit more (f ∷ rest) h le = (h.0, h.1, omega (arith, h.2), h.3, h.4)

-- all components begin at or in front of the top of the path
pub top_within : (g : List (List ℕ)) (taken : Option (ℕ × ℕ)) (f : Frame) (s : State) (p : ℕ) → Searching g taken (led_by f s) → slice_get s.marks f.node ≡ Some (Open p) → (k : ℕ) → Among k s.begins → k ≤ p
top_within g taken f s p h is k i =
    ⊎_elim
    (λ e. let same = one_place s.marks f.node k p e is in omega (arith, same))
    (λ r. let lt = on_path_within g s.marks h.path.0 k s.path h.path.4 r in let same = one_place s.marks f.node h.path.0 p h.path.1 is in omega (arith, lt, same))
    (h.begins k i)

-- the begins without the first
in_tail : (begins ks : List ℕ) (p : ℕ) → begins ≡ p ∷ ks → (k : ℕ) → Among k (drop 1 begins) → Among k begins
in_tail begins ks p e k i = subst (λ x. Among k x) (sym e) (inr (subst (λ x. Among k (drop 1 x)) e i))

below_first : (begins ks : List ℕ) (p : ℕ) → begins ≡ p ∷ ks → Falls begins → (k : ℕ) → Among k (drop 1 begins) → k < p
below_first begins ks p e f k i = (subst Falls e f).0 k (subst (λ x. Among k (drop 1 x)) e i)

first_or_tail : (begins ks : List ℕ) (p : ℕ) → begins ≡ p ∷ ks → (k : ℕ) → Among k begins → (k ≡ p) ⊎ Among k (drop 1 begins)
first_or_tail begins ks p e k i = ⊎_elim (λ first. inl first) (λ later. inr (subst (λ x. Among k (drop 1 x)) (sym e) later)) (subst (λ x. Among k x) e i)

falls_tail : (begins : List ℕ) → Falls begins → Falls (drop 1 begins)
falls_tail [] f = tt
falls_tail (k ∷ ks) f = f.1

path_after : (g : List (List ℕ)) (marks : List Mark) (p n limit : ℕ) (path : List Frame) → limit ≤ p → IsPath g marks limit path → IsPath g (map (shut p n) marks) limit path
path_after g marks p n limit [] le h = tt
path_after g marks p n limit (f ∷ rest) le h =
    (h.0, stays_open p n marks f.node h.0 h.1 (omega (arith, h.2)), h.2, h.3, path_after g marks p n h.0 rest (omega (arith, h.2)) h.4)

on_path_after : (marks : List Mark) (p n k : ℕ) (path : List Frame) → k < p → IsOnPath marks path k → IsOnPath (map (shut p n) marks) path k
on_path_after marks p n k [] lt i = i
on_path_after marks p n k (f ∷ rest) lt (inl e) = inl (stays_open p n marks f.node k e lt)
on_path_after marks p n k (f ∷ rest) lt (inr i) = inr (on_path_after marks p n k rest lt i)

-- no edge is left at the top
none_left : (g : List (List ℕ)) (f : Frame) (path : List Frame) (a b : ℕ) → f.left ≡ 0 → IsLeft g (f ∷ path) a b → IsLeft g path a b
none_left g f path a b zero_left (inl l) = absurd (subst (λ n. Among b (take n (successors g a))) zero_left l.1)
none_left g f path a b zero_left (inr l) = l

settled_before : (s : State) (p q b : ℕ) (ks : List ℕ) → s.begins ≡ p ∷ ks → IsSettled s q b → IsSettled (closed s p) q b
settled_before s p q b ks e (inl d) = inl (d.0, stays_done p s.count s.marks b d.0 d.1)
settled_before s p q b ks e (inr w) =
    ⊎_elim
    (λ lt. inr (w.0, stays_open p s.count s.marks b w.0 w.1 lt, λ k i le. w.2 k (in_tail s.begins ks p e k i) le))
    (λ ge. inl (s.count, is_ended p s.count s.marks b w.0 w.1 ge))
    (cases_lt w.0 p)

-- an edge from the component that becomes whole
settled_ended : (g : List (List ℕ)) (f : Frame) (s : State) (p q b n : ℕ) (ks : List ℕ) → Searching g None (led_by f s) → s.begins ≡ p ∷ ks → p ≤ q → s.count ≡ n → IsSettled s q b → (m : ℕ) × (slice_get (map (shut p s.count) s.marks) b ≡ Some (Done m)) × (m ≤ n)
settled_ended g f s p q b n ks h e le same (inl d) = (d.0, stays_done p s.count s.marks b d.0 d.1, let k = h.done_below b d.0 d.1 in omega (arith, k, same))
settled_ended g f s p q b n ks h e le same (inr w) =
    (s.count, is_ended p s.count s.marks b w.0 w.1 (w.2 p (subst (λ x. Among p x) (sym e) (inl refl)) le), omega (arith, same))

-- the component that begins with the top of the path is whole
pub closing : (g : List (List ℕ)) (f : Frame) (s : State) (p : ℕ) (ks : List ℕ) → Searching g None (led_by f s) → f.left ≡ 0 → slice_get s.marks f.node ≡ Some (Open p) → s.begins ≡ p ∷ ks → Searching g None (closed s p)
closing g f s p ks h zero_left is e =
    let same : h.path.0 ≡ p = one_place s.marks f.node h.path.0 p h.path.1 is in
    let within : p < length s.waiting = waits_within s.waiting p f.node (h.waiting.waits f.node p is) in
    record {
      size = length-map s.marks (shut p s.count) ∙ h.size;
      waiting = record {
        waits = λ a q o. let was = open_before p s.count s.marks a q o in kept_waits p s.waiting q a (h.waiting.waits a q was.0) was.1;
        marked = λ a q w. let was = waited p s.waiting q a w in stays_open p s.count s.marks a q (h.waiting.marked a q was.0) was.1;
      };
      reach = λ a b q r oa ob behind.
          let wa = open_before p s.count s.marks a q oa in
          let wb = open_before p s.count s.marks b r ob in
          h.reach a b q r wa.0 wb.0 (λ k i le. ⊎_elim (λ first. absurd (omega (arith, first, wa.1))) (λ later. behind k later le) (first_or_tail s.begins ks p e k i));
      edge = λ a b q o i.
          let was = open_before p s.count s.marks a q o in
          ⊎_elim
          (λ settled. inl (settled_before s p q b ks e settled))
          (λ other. ⊎_elim (λ left. inr (inl (none_left g f s.path a b zero_left left))) (λ taken. absurd taken) other)
          (h.edge a b q was.0 i);
      path = path_longer g (map (shut p s.count) s.marks) h.path.0 (length (kept p s.waiting)) s.path
          (path_after g s.marks p s.count h.path.0 s.path (omega (arith, same)) h.path.4)
          (omega (arith, same, length-kept p s.waiting (omega (arith, within))));
      begins = λ k i.
          let lt = below_first s.begins ks p e h.falls k i in
          ⊎_elim
          (λ top. absurd (let one = one_place s.marks f.node k p top is in omega (arith, one, lt)))
          (λ below. on_path_after s.marks p s.count k s.path lt below)
          (h.begins k (in_tail s.begins ks p e k i));
      falls = falls_tail s.begins h.falls;
      rooted = λ a q o.
          let was = open_before p s.count s.marks a q o in
          let r = h.rooted a q was.0 in
          ⊎_elim (λ first. absurd (omega (arith, first, r.2, was.1))) (λ later. (r.0, later, r.2)) (first_or_tail s.begins ks p e r.0 r.1);
      done_edge = λ a b n d i.
          ⊎_elim
          (λ was. let r = h.done_edge a b n was i in (r.0, stays_done p s.count s.marks b r.0 r.1, r.2))
          (λ (now : (s.count ≡ n) × ((q : ℕ) × (slice_get s.marks a ≡ Some (Open q)) × (p ≤ q))). ⊎_elim
          (λ settled. settled_ended g f s p now.1.0 b n ks h e now.1.2 now.0 settled)
          (λ other. absurd (⊎_elim
          (λ left. let w = left_within g s.marks h.path.0 a b s.path h.path.4 (none_left g f s.path a b zero_left left) in
          let one = one_place s.marks a w.0 now.1.0 w.1 now.1.1 in
          let bad : ⊥ = omega (arith, one, same, w.2, now.1.2) in bad)
          (λ taken. taken)
          other))
          (h.edge a b now.1.0 now.1.1 i))
          (done_before p s.count s.marks a n d);
      done_reach = λ a b n da db.
          ⊎_elim
          (λ wa. ⊎_elim
          (λ wb. h.done_reach a b n wa wb)
          (λ (nb : (s.count ≡ n) × ((q : ℕ) × (slice_get s.marks b ≡ Some (Open q)) × (p ≤ q))). absurd (let k = h.done_below a n wa in omega (arith, k, nb.0)))
          (done_before p s.count s.marks b n db))
          (λ (na : (s.count ≡ n) × ((q : ℕ) × (slice_get s.marks a ≡ Some (Open q)) × (p ≤ q))). ⊎_elim
          (λ wb. absurd (let k = h.done_below b n wb in omega (arith, k, na.0)))
          (λ (nb : (s.count ≡ n) × ((q : ℕ) × (slice_get s.marks b ≡ Some (Open q)) × (p ≤ q))). h.reach a b na.1.0 nb.1.0 na.1.1 nb.1.1
          (λ k i le. let top = top_within g None f s p h is k i in omega (arith, top, nb.1.2)))
          (done_before p s.count s.marks b n db))
          (done_before p s.count s.marks a n da);
      done_below = λ a n d.
          ⊎_elim
          (λ was. let k = h.done_below a n was in omega (arith, k))
          (λ (now : (s.count ≡ n) × ((q : ℕ) × (slice_get s.marks a ≡ Some (Open q)) × (p ≤ q))). omega (arith, now.0))
          (done_before p s.count s.marks a n d);
    }

-- the top of the path doesn't begin its component
no_begin : (g : List (List ℕ)) (f : Frame) (s : State) (p : ℕ) (begins : List ℕ) → begins ≡ s.begins → Searching g None (led_by f s) → slice_get s.marks f.node ≡ Some (Open p) → ((ks : List ℕ) → s.begins ≡ p ∷ ks → ⊥) → Among p s.begins → ⊥
no_begin g f s p [] e h is not i = absurd (subst (λ x. Among p x) (sym e) i)
no_begin g f s p (k ∷ ks) e h is not i =
    let first = top_within g None f s p h is k (subst (λ x. Among k x) e (inl refl)) in
    ⊎_elim
    (λ same. not ks (sym e ∙ ap (λ x. x ∷ ks) (sym same)))
    (λ later. let lt = (subst Falls (sym e) h.falls).0 p later in absurd (omega (arith, first, lt)))
    (subst (λ x. Among p x) (sym e) i)

pub leaving : (g : List (List ℕ)) (f : Frame) (s : State) (p : ℕ) → Searching g None (led_by f s) → f.left ≡ 0 → slice_get s.marks f.node ≡ Some (Open p) → ((ks : List ℕ) → s.begins ≡ p ∷ ks → ⊥) → Searching g None s
leaving g f s p h zero_left is not =
    record {
      size = h.size;
      waiting = h.waiting;
      reach = h.reach;
      falls = h.falls;
      rooted = h.rooted;
      done_edge = h.done_edge;
      done_reach = h.done_reach;
      done_below = h.done_below;
      edge = λ a b q o i.
          ⊎_elim
          (λ settled. inl settled)
          (λ other. ⊎_elim (λ left. inr (inl (none_left g f s.path a b zero_left left))) (λ taken. absurd taken) other)
          (h.edge a b q o i);
      path = path_longer g s.marks h.path.0 (length s.waiting) s.path h.path.4 (omega (arith, h.path.2));
      begins = λ k i.
          ⊎_elim
          (λ top. absurd (let one = one_place s.marks f.node k p top is in no_begin g f s p s.begins refl h is not (subst (λ x. Among x s.begins) one i)))
          (λ below. below)
          (h.begins k i);
    }

-- the last edge that is left is taken
taken_or_left : (xs : List ℕ) (left x b : ℕ) → slice_get xs left ≡ Some x → Among b (take (suc left) xs) → (b ≡ x) ⊎ Among b (take left xs)
taken_or_left [] left x b e i = absurd i
taken_or_left (y ∷ ys) zero x b e (inl same) = inl (same ∙ same_Some y x e)
taken_or_left (y ∷ ys) zero x b e (inr i) = absurd i
taken_or_left (y ∷ ys) (suc left) x b e (inl same) = inr (inl same)
taken_or_left (y ∷ ys) (suc left) x b e (inr i) = ⊎_elim (λ same. inl same) (λ more. inr (inr more)) (taken_or_left ys left x b e i)

pub taking : (g : List (List ℕ)) (node left x : ℕ) (s : State) → Searching g None (led_by (record { node = node; left = suc left }) s) → slice_get (successors g node) left ≡ Some x → Searching g (Some (node, x)) (led_by (record { node = node; left = left }) s)
taking g node left x s h e =
    record {
      size = h.size;
      waiting = h.waiting;
      reach = h.reach;
      falls = h.falls;
      rooted = h.rooted;
      begins = h.begins;
      done_edge = h.done_edge;
      done_reach = h.done_reach;
      done_below = h.done_below;
      edge = λ a b q o i.
          ⊎_elim
          (λ settled. inl settled)
          (λ other. ⊎_elim
          (λ some. ⊎_elim
          (λ (top : (a ≡ node) × Among b (take (suc left) (successors g a))). ⊎_elim
          (λ same. inr (inr (top.0, same)))
          (λ more. inr (inl (inl (top.0, more))))
          (taken_or_left (successors g a) left x b (subst (λ v. slice_get (successors g v) left ≡ Some x) (sym top.0) e) top.1))
          (λ below. inr (inl (inr below)))
          some)
          (λ taken. absurd taken)
          other)
          (h.edge a b q o i);
      path = (h.path.0, h.path.1, h.path.2, omega (arith, h.path.3), h.path.4);
    }

-- the edge that was taken is settled
pub settling : (g : List (List ℕ)) (v x : ℕ) (s : State) → Searching g (Some (v, x)) s → ((p : ℕ) → slice_get s.marks v ≡ Some (Open p) → IsSettled s p x) → Searching g None s
settling g v x s h settled =
    record {
      size = h.size;
      waiting = h.waiting;
      reach = h.reach;
      falls = h.falls;
      rooted = h.rooted;
      begins = h.begins;
      path = h.path;
      done_edge = h.done_edge;
      done_reach = h.done_reach;
      done_below = h.done_below;
      edge = λ a b q o i.
          ⊎_elim
          (λ is. inl is)
          (λ other. ⊎_elim
          (λ left. inr (inl left))
          (λ (taken : (a ≡ v) × (b ≡ x)). inl (subst (λ y. IsSettled s q y) (sym taken.1) (settled q (subst (λ y. slice_get s.marks y ≡ Some (Open q)) taken.0 o))))
          other)
          (h.edge a b q o i);
    }

fewer : (most p q : ℕ) (ks : List ℕ) → NotBehind ks p q → NotBehind (up_to most ks) p q
fewer most p q ks h k i le = h k (up_to_among most k ks i) le

-- the components from that of x on become one: the top of the path leads to x
pub joining : (g : List (List ℕ)) (taken : Option (ℕ × ℕ)) (f : Frame) (s : State) (x q : ℕ) → Searching g taken (led_by f s) → IsEdge g f.node x → slice_get s.marks x ≡ Some (Open q) → Searching g taken (joined (led_by f s) q)
joining g taken f s x q h edge is =
    record {
      size = h.size;
      waiting = h.waiting;
      path = h.path;
      falls = up_to_falls q s.begins h.falls;
      done_edge = h.done_edge;
      done_reach = h.done_reach;
      done_below = h.done_below;
      begins = λ k i. h.begins k (up_to_among q k s.begins i);
      edge = λ a b p o i.
          ⊎_elim
          (λ settled. inl (⊎_elim (λ d. inl d) (λ (w : (r : ℕ) × (slice_get s.marks b ≡ Some (Open r)) × NotBehind s.begins p r). inr (w.0, w.1, fewer q p w.0 s.begins w.2)) settled))
          (λ other. inr other)
          (h.edge a b p o i);
      rooted = λ a p o.
          let r = h.rooted a p o in
          ⊎_elim
          (λ lt. let u = h.rooted x q is in (u.0, among_up_to q u.0 s.begins u.1 u.2, omega (arith, u.2, r.2, lt)))
          (λ le. (r.0, among_up_to q r.0 s.begins r.1 le, r.2))
          (cases_lt q r.0);
      reach = λ a b p r oa ob behind.
          ⊎_elim
          (λ (before : NotBehind s.begins p r). h.reach a b p r oa ob before)
          (λ (between : (k : ℕ) × Among k s.begins × (k ≤ p) × (r < k)).
          let past : q < between.0 = ⊎_elim (λ lt. lt) (λ le. absurd (let bad = behind between.0 (among_up_to q between.0 s.begins between.1 le) between.2 in omega (arith, bad, between.3))) (cases_lt q between.0) in
          reaches_on g a f.node b
          (h.reach a f.node p h.path.0 oa h.path.1 (λ k i le. top_within g taken f s h.path.0 h h.path.1 k i))
          (reaches_on g f.node x b
          (reaches_by_edge g f.node x edge)
          (h.reach x b q r is ob (λ k i le. behind k (among_up_to q k s.begins i le) (omega (arith, past, between.2, le))))))
          (behind_or_not s.begins p r);
    }

-- a mark that isn't New stays when a new node is marked
stays : (marks : List Mark) (x a : ℕ) (y m : Mark) → slice_get marks x ≡ Some New → (m ≡ New → ⊥) → slice_get marks a ≡ Some m → slice_get (set marks x y) a ≡ Some m
stays marks x a y m new other e =
    ⊎_elim
    (λ same. absurd (other (same_Some m New (sym e ∙ (ap (slice_get marks) same ∙ new)))))
    (λ differs. at_set_other marks x a y differs ∙ e)
    (cases_eq a x)

pub stays_open_at : (marks : List Mark) (x a p : ℕ) (y : Mark) → slice_get marks x ≡ Some New → slice_get marks a ≡ Some (Open p) → slice_get (set marks x y) a ≡ Some (Open p)
stays_open_at marks x a p y new e = stays marks x a y (Open p) new (λ k. cc) e

pub stays_done_at : (marks : List Mark) (x a n : ℕ) (y : Mark) → slice_get marks x ≡ Some New → slice_get marks a ≡ Some (Done n) → slice_get (set marks x y) a ≡ Some (Done n)
stays_done_at marks x a n y new e = stays marks x a y (Done n) new (λ k. cc) e

pub done_was : (marks : List Mark) (x a p n : ℕ) → slice_get (set marks x (Open p)) a ≡ Some (Done n) → slice_get marks a ≡ Some (Done n)
done_was marks x a p n e = ⊎_elim (λ (new : (a ≡ x) × (Open p ≡ Done n)). cc) (λ old. old.1) (at_set marks x a (Open p) (Done n) e)

open_was : (marks : List Mark) (x a p q : ℕ) → slice_get (set marks x (Open p)) a ≡ Some (Open q) → ((a ≡ x) × (p ≡ q)) ⊎ (slice_get marks a ≡ Some (Open q))
open_was marks x a p q e =
    ⊎_elim (λ (new : (a ≡ x) × (Open p ≡ Open q)). let same : p ≡ q = (let k = new.1 in cc) in inl (new.0, same)) (λ old. inr old.1) (at_set marks x a (Open p) (Open q) e)

path_at : (g : List (List ℕ)) (marks : List Mark) (x : ℕ) (y : Mark) (limit : ℕ) (path : List Frame) → slice_get marks x ≡ Some New → IsPath g marks limit path → IsPath g (set marks x y) limit path
path_at g marks x y limit [] new h = tt
path_at g marks x y limit (f ∷ rest) new h = (h.0, stays_open_at marks x f.node h.0 y new h.1, h.2, h.3, path_at g marks x y h.0 rest new h.4)

on_path_at : (marks : List Mark) (x : ℕ) (y : Mark) (k : ℕ) (path : List Frame) → slice_get marks x ≡ Some New → IsOnPath marks path k → IsOnPath (set marks x y) path k
on_path_at marks x y k [] new i = i
on_path_at marks x y k (f ∷ rest) new (inl e) = inl (stays_open_at marks x f.node k y new e)
on_path_at marks x y k (f ∷ rest) new (inr i) = inr (on_path_at marks x y k rest new i)

settled_at : (s : State) (x edges p b : ℕ) → slice_get s.marks x ≡ Some New → p < length s.waiting → IsSettled s p b → IsSettled (entered s x edges) p b
settled_at s x edges p b new lt (inl d) = inl (d.0, stays_done_at s.marks x b d.0 (Open (length s.waiting)) new d.1)
settled_at s x edges p b new lt (inr w) =
    inr (w.0, stays_open_at s.marks x b w.0 (Open (length s.waiting)) new w.1, λ k i le. ⊎_elim (λ e. absurd (omega (arith, e, lt, le))) (λ older. w.2 k older le) i)

-- a new node is reached, from each node that waits
pub entering : (g : List (List ℕ)) (taken : Option (ℕ × ℕ)) (s : State) (x edges : ℕ) → Searching g taken s → slice_get s.marks x ≡ Some New → edges ≡ length (successors g x)
    → ((a p : ℕ) → slice_get s.marks a ≡ Some (Open p) → Reaches g a x) → Searching g taken (entered s x edges)
entering g taken s x edges h new all leads =
    let n : ℕ = length s.waiting in
    let here : slice_get (set s.marks x (Open (length s.waiting))) x ≡ Some (Open (length s.waiting)) = at_set_same s.marks x (Open (length s.waiting)) (slice_get_within s.marks x New new) in
    record {
      size = length-set s.marks x (Open (length s.waiting)) ∙ h.size;
      waiting = record {
        waits = λ a p o. ⊎_elim (λ now. inl (now.0, sym now.1)) (λ was. inr (h.waiting.waits a p was)) (open_was s.marks x a (length s.waiting) p o);
        marked = λ a p w.
            ⊎_elim
            (λ (now : (a ≡ x) × (p ≡ length s.waiting)). subst (λ v. slice_get (set s.marks x (Open (length s.waiting))) v ≡ Some (Open p)) (sym now.0) (here ∙ ap (λ k. Some (Open k)) (sym now.1)))
            (λ was. stays_open_at s.marks x a p (Open (length s.waiting)) new (h.waiting.marked a p was))
            w;
      };
      reach = λ a b p q oa ob behind.
          ⊎_elim
          (λ (nb : (b ≡ x) × (length s.waiting ≡ q)). ⊎_elim
          (λ (na : (a ≡ x) × (length s.waiting ≡ p)). inl (na.0 ∙ sym nb.0))
          (λ wa. subst (λ v. Reaches g a v) (sym nb.0) (leads a p wa))
          (open_was s.marks x a (length s.waiting) p oa))
          (λ wb. ⊎_elim
          (λ (na : (a ≡ x) × (length s.waiting ≡ p)). absurd (let k = behind (length s.waiting) (inl refl) (omega (arith, na.1)) in let lt = waits_within s.waiting q b (h.waiting.waits b q wb) in omega (arith, k, lt)))
          (λ wa. h.reach a b p q wa wb (λ k i le. behind k (inr i) le))
          (open_was s.marks x a (length s.waiting) p oa))
          (open_was s.marks x b (length s.waiting) q ob);
      edge = λ a b p o i.
          ⊎_elim
          (λ (now : (a ≡ x) × (length s.waiting ≡ p)). inr (inl (inl (now.0, subst (λ xs. Among b xs) (sym (take_all edges (successors g a) (omega (arith, all, ap (λ v. length (successors g v)) now.0)))) i))))
          (λ was. ⊎_elim
          (λ settled. inl (settled_at s x edges p b new (waits_within s.waiting p a (h.waiting.waits a p was)) settled))
          (λ other. ⊎_elim (λ left. inr (inl (inr left))) (λ taking. inr (inr taking)) other)
          (h.edge a b p was i))
          (open_was s.marks x a (length s.waiting) p o);
      path = (length s.waiting, here, omega arith, omega (arith, all), path_at g s.marks x (Open (length s.waiting)) (length s.waiting) s.path new h.path);
      begins = λ k i.
          ⊎_elim
          (λ e. inl (here ∙ ap (λ j. Some (Open j)) (sym e)))
          (λ older. inr (on_path_at s.marks x (Open (length s.waiting)) k s.path new (h.begins k older)))
          i;
      falls = (λ j i. on_path_within g s.marks (length s.waiting) j s.path h.path (h.begins j i), h.falls);
      rooted = λ a p o.
          ⊎_elim
          (λ now. (length s.waiting, inl refl, omega (arith, now.1)))
          (λ was. let r = h.rooted a p was in (r.0, inr r.1, r.2))
          (open_was s.marks x a (length s.waiting) p o);
      done_edge = λ a b m d i.
          let r = h.done_edge a b m (done_was s.marks x a (length s.waiting) m d) i in
          (r.0, stays_done_at s.marks x b r.0 (Open (length s.waiting)) new r.1, r.2);
      done_reach = λ a b m da db. h.done_reach a b m (done_was s.marks x a (length s.waiting) m da) (done_was s.marks x b (length s.waiting) m db);
      done_below = λ a m d. h.done_below a m (done_was s.marks x a (length s.waiting) m d);
    }
