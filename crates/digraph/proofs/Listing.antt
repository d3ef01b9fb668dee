-- What each step keeps of the order, and how much work it takes.
use Rattle.std.proofs.Common.{◌≡◌, ℕ, zero, suc, ◌+◌, ◌<◌, ◌≤◌, ◌⊎◌, inl, inr, ⊎_elim, List, [], ◌∷◌, ◌++◌, Some, slice_get, set, get_or, length, map, sum_by, refl, sym, ap, ◌∙◌, subst, arith, length-append}
use Rattle.std.specs.Prelude.{option_map, nat_lt, cond}
use Rattle.std.proofs.lemmas.Bool.{cases_lt, ltb-true}
use Rattle.std.proofs.lemmas.Option.{slice_get_within, same_Some, slice_get-map, get_or_from_slice_get}
use Rattle.std.proofs.lemmas.List.Sums.{sum_by-cons, sum_by-set, get_or-le-sum_by}
use Rattle.digraph.specs.declared.search.Mark.{Mark}
use Rattle.digraph.specs.declared.search.Mark.TheVariants.{New, Open, Done}
use Rattle.digraph.specs.declared.search.Frame.{Frame}
use Rattle.digraph.specs.Graphs.{Among, successors}
use Rattle.digraph.specs.Components.{Rises, StandOnce}
use Rattle.digraph.specs.internal.Search.{State, entered, joined, closed, led_by, shut, shed, Waits, AreWaiting, IsListed, number_of, mark_weight, frame_weight, work}
use Rattle.digraph.proofs.Marking.{by_test, done_before, stays_done, is_ended, waits_within, shed_waits, waits_shed, shut_weights}
use Rattle.digraph.proofs.Turning.{stays_done_at, done_was}

pub among_left : (x : ℕ) (xs ys : List ℕ) → Among x xs → Among x (xs ++ ys)
among_left x [] ys i = absurd i
among_left x (y ∷ rest) ys (inl e) = inl e
among_left x (y ∷ rest) ys (inr i) = inr (among_left x rest ys i)

pub among_right : (x : ℕ) (xs ys : List ℕ) → Among x ys → Among x (xs ++ ys)
among_right x [] ys i = i
among_right x (y ∷ rest) ys i = inr (among_right x rest ys i)

pub among_append : (x : ℕ) (xs ys : List ℕ) → Among x (xs ++ ys) → Among x xs ⊎ Among x ys
among_append x [] ys i = inr i
among_append x (y ∷ rest) ys (inl e) = inl (inl e)
among_append x (y ∷ rest) ys (inr i) = ⊎_elim (λ l. inl (inr l)) (λ r. inr r) (among_append x rest ys i)

pub among_at : (xs : List ℕ) (k x : ℕ) → slice_get xs k ≡ Some x → Among x xs
among_at [] k x e = cc
among_at (y ∷ ys) zero x e = inl (sym (same_Some y x e))
among_at (y ∷ ys) (suc k) x e = inr (among_at ys k x e)

abbrev place_of : Mark → ℕ
place_of New = 0
place_of (Open place) = place
place_of (Done number) = 0

length-shed : (k : ℕ) (waiting : List ℕ) → k < length waiting → 0 < length (shed k waiting)
length-shed k [] h = absurd (omega arith)
length-shed k (x ∷ rest) h =
    by_test (nat_lt (length rest) k)
    (λ t. absurd (omega (arith, ltb-true (length rest) k t)))
    (λ t. subst (λ b. 0 < length (cond b [] (x ∷ shed k rest))) (sym t) (omega arith))

-- the number that is told of a node
pub number_at : (marks : List Mark) (a n : ℕ) → slice_get marks a ≡ Some (Done n) → get_or (map number_of marks) a 0 ≡ n
number_at marks a n e = get_or_from_slice_get (map number_of marks) a n 0 (slice_get-map number_of marks a ∙ ap (option_map number_of) e)

rises_same : (old new xs : List ℕ) → ((a : ℕ) → Among a xs → get_or old a 0 ≡ get_or new a 0) → Rises old xs → Rises new xs
rises_same old new [] same h = tt
rises_same old new (x ∷ xs) same h =
    (λ b i. let p = same x (inl refl) in let q = same b (inr i) in omega (arith, p, q, h.0 b i), rises_same old new xs (λ a i. same a (inr i)) h.1)

rises_level : (numbers xs : List ℕ) (n : ℕ) → ((a : ℕ) → Among a xs → get_or numbers a 0 ≡ n) → Rises numbers xs
rises_level numbers [] n h = tt
rises_level numbers (x ∷ xs) n h =
    (λ b i. let p = h x (inl refl) in let q = h b (inr i) in omega (arith, p, q), rises_level numbers xs n (λ a i. h a (inr i)))

rises_append : (numbers xs ys : List ℕ) → Rises numbers xs → Rises numbers ys → ((a b : ℕ) → Among a xs → Among b ys → get_or numbers a 0 ≤ get_or numbers b 0) → Rises numbers (xs ++ ys)
rises_append numbers [] ys hx hy le = hy
rises_append numbers (x ∷ xs) ys hx hy le = (
  λ b i. ⊎_elim (λ l. hx.0 b l) (λ r. le x b (inl refl) r) (among_append b xs ys i),
  rises_append numbers xs ys hx.1 hy (λ a b l r. le a b (inr l) r),
)

once_append : (xs ys : List ℕ) → StandOnce xs → StandOnce ys → ((a : ℕ) → Among a xs → Among a ys → ⊥) → StandOnce (xs ++ ys)
once_append [] ys hx hy apart = hy
once_append (x ∷ xs) ys hx hy apart =
    (λ i. ⊎_elim hx.0 (apart x (inl refl)) (among_append x xs ys i), once_append xs ys hx.1 hy (λ a i. apart a (inr i)))

-- nodes that wait at one place each stand once among those that a closed component takes
once_shed : (k : ℕ) (waiting : List ℕ) → ((a p q : ℕ) → Waits waiting p a → Waits waiting q a → p ≡ q) → StandOnce (shed k waiting)
once_shed k [] one = tt
once_shed k (x ∷ rest) one =
    by_test (nat_lt (length rest) k)
    (λ t. subst (λ b. StandOnce (cond b [] (x ∷ shed k rest))) (sym t) tt)
    (λ t. subst (λ b. StandOnce (cond b [] (x ∷ shed k rest))) (sym t) (
      λ i.
          let q = shed_waits k rest x i in
          let within = waits_within rest q.0 x q.1 in
          let same = one x (length rest) q.0 (inl (refl, refl)) (inr q.1) in
          absurd (omega (arith, within, same)),
      once_shed k rest (λ a p q h i. one a p q (inr h) (inr i)),
    ))

-- an open node waits at one place
one_place : (s : State) → AreWaiting s.marks s.waiting → (a p q : ℕ) → Waits s.waiting p a → Waits s.waiting q a → p ≡ q
one_place s w a p q at other =
    let same : Some (Open p) ≡ Some (Open q) = sym (w.marked a p at) ∙ w.marked a q other in
    ap place_of (same_Some (Open p) (Open q) same)

pub listed_on : (s : State) (f : Frame) → IsListed s → IsListed (led_by f s)
listed_on s f l = record { few = l.few; done = l.done; listed = l.listed; used = l.used; once = l.once; rises = l.rises }

pub listed_under : (s : State) (f : Frame) → IsListed (led_by f s) → IsListed s
listed_under s f l = record { few = l.few; done = l.done; listed = l.listed; used = l.used; once = l.once; rises = l.rises }

pub listed_joined : (s : State) (q : ℕ) → IsListed s → IsListed (joined s q)
listed_joined s q l = record { few = l.few; done = l.done; listed = l.listed; used = l.used; once = l.once; rises = l.rises }

pub listed_entered : (s : State) (x edges : ℕ) → IsListed s → slice_get s.marks x ≡ Some New → IsListed (entered s x edges)
listed_entered s x edges l new =
    record {
      few = l.few;
      done = λ a i. let d = l.done a i in (d.0, stays_done_at s.marks x a d.0 (Open (length s.waiting)) new d.1);
      listed = λ a n d. l.listed a n (done_was s.marks x a (length s.waiting) n d);
      used = λ n lt. let u = l.used n lt in (u.0, stays_done_at s.marks x u.0 n (Open (length s.waiting)) new u.1);
      once = l.once;
      rises = rises_same (map number_of s.marks) (map number_of (set s.marks x (Open (length s.waiting)))) s.order
          (λ a i. let d = l.done a i in
          number_at s.marks a d.0 d.1 ∙ sym (number_at (set s.marks x (Open (length s.waiting))) a d.0 (stays_done_at s.marks x a d.0 (Open (length s.waiting)) new d.1)))
          l.rises;
    }

pub listed_closed : (s : State) (node p : ℕ) → AreWaiting s.marks s.waiting → ((a n : ℕ) → slice_get s.marks a ≡ Some (Done n) → n < s.count) → IsListed s → slice_get s.marks node ≡ Some (Open p) → IsListed (closed s p)
listed_closed s node p w below l is =
    let now : (a : ℕ) → Among a (shed p s.waiting) → slice_get (map (shut p s.count) s.marks) a ≡ Some (Done s.count) =
    λ a i. let q = shed_waits p s.waiting a i in is_ended p s.count s.marks a q.0 (w.marked a q.0 q.1) q.2 in
    let was : (a : ℕ) → Among a s.order → (n : ℕ) × (slice_get (map (shut p s.count) s.marks) a ≡ Some (Done n)) × (slice_get s.marks a ≡ Some (Done n)) =
    λ a i. let d = l.done a i in (d.0, stays_done p s.count s.marks a d.0 d.1, d.1) in
    record {
      few = let more = length-shed p s.waiting (waits_within s.waiting p node (w.waits node p is)) in omega (arith, length-append s.order (shed p s.waiting), more, l.few);
      done = λ a i. ⊎_elim (λ old. let d = was a old in (d.0, d.1)) (λ new. (s.count, now a new)) (among_append a s.order (shed p s.waiting) i);
      listed = λ a n d.
          ⊎_elim
          (λ old. among_left a s.order (shed p s.waiting) (l.listed a n old))
          (λ (new : (s.count ≡ n) × ((q : ℕ) × (slice_get s.marks a ≡ Some (Open q)) × (p ≤ q))). among_right a s.order (shed p s.waiting) (waits_shed p s.waiting new.1.0 a (w.waits a new.1.0 new.1.1) new.1.2))
          (done_before p s.count s.marks a n d);
      used = λ n lt.
          ⊎_elim
          (λ old. let u = l.used n old in (u.0, stays_done p s.count s.marks u.0 n u.1))
          (λ ge. let same : s.count ≡ n = omega arith in (node, is_ended p s.count s.marks node p is (omega arith) ∙ ap (λ k. Some (Done k)) same))
          (cases_lt n s.count);
      once = once_append s.order (shed p s.waiting) l.once (once_shed p s.waiting (one_place s w))
          (λ a old new.
          let d = l.done a old in
          let q = shed_waits p s.waiting a new in
          let bad : Some (Done d.0) ≡ Some (Open q.0) = sym d.1 ∙ w.marked a q.0 q.1 in cc);
      rises = rises_append (map number_of (map (shut p s.count) s.marks)) s.order (shed p s.waiting)
          (rises_same (map number_of s.marks) (map number_of (map (shut p s.count) s.marks)) s.order
          (λ a i. let d = was a i in number_at s.marks a d.0 d.2 ∙ sym (number_at (map (shut p s.count) s.marks) a d.0 d.1))
          l.rises)
          (rises_level (map number_of (map (shut p s.count) s.marks)) (shed p s.waiting) s.count
          (λ a i. number_at (map (shut p s.count) s.marks) a s.count (now a i)))
          (λ a b i j. let d = was a i in
          let x = number_at (map (shut p s.count) s.marks) a d.0 d.1 in
          let y = number_at (map (shut p s.count) s.marks) b s.count (now b j) in
          let lt = below a d.0 d.2 in
          omega (arith, x, y, lt));
    }

-- the work that is left
pub lighter_closed : (g : List (List ℕ)) (f : Frame) (s : State) (p : ℕ) → work g (closed s p) < work g (led_by f s)
lighter_closed g f s p =
    let m = shut_weights (sum_by length g) p s.count s.marks in
    let c = sum_by-cons frame_weight f s.path in
    omega (arith, m, c)

pub lighter_left : (g : List (List ℕ)) (f : Frame) (s : State) → work g s < work g (led_by f s)
lighter_left g f s = let c = sum_by-cons frame_weight f s.path in omega (arith, c)

pub lighter_taken : (g : List (List ℕ)) (node left : ℕ) (s : State) → work g (led_by (record { node = node; left = left }) s) < work g (led_by (record { node = node; left = suc left }) s)
lighter_taken g node left s =
    let c = sum_by-cons frame_weight (record { node = node; left = left }) s.path in
    let d = sum_by-cons frame_weight (record { node = node; left = suc left }) s.path in
    omega (arith, c, d)

pub lighter_entered : (g : List (List ℕ)) (node left x : ℕ) (s : State) → slice_get s.marks x ≡ Some New → x < length g
    → work g (entered (led_by (record { node = node; left = left }) s) x (length (successors g x))) < work g (led_by (record { node = node; left = suc left }) s)
lighter_entered g node left x s new within =
    let c = sum_by-cons frame_weight (record { node = node; left = left }) s.path in
    let d = sum_by-cons frame_weight (record { node = node; left = suc left }) s.path in
    let e = sum_by-cons frame_weight (record { node = x; left = length (successors g x) }) (record { node = node; left = left } ∷ s.path) in
    let most = get_or-le-sum_by length g x [] within in
    let w = sum_by-set (mark_weight (sum_by length g)) s.marks x (Open (length s.waiting)) New (slice_get_within s.marks x New new) in
    let was : mark_weight (sum_by length g) (get_or s.marks x New) ≡ sum_by length g + 2 = ap (mark_weight (sum_by length g)) (get_or_from_slice_get s.marks x New New new) in
    omega (arith, c, d, e, most, w, was)
