-- The loop that closes a component, node by node.
use Rattle.std.proofs.Common.{◌≡◌, ℕ, suc, ◌+◌, ◌<◌, ◌≤◌, inl, inr, ⊎_elim, List, [], ◌∷◌, ◌++◌, Some, slice_get, set, length, drop, map, refl, sym, ap, ◌∙◌, arith, append_assoc}
use Rattle.std.proofs.lemmas.Option.{get_or_from_slice_get}
use Rattle.std.proofs.lemmas.List.{map-set, set-get_or, append-nil}
use Rattle.digraph.specs.declared.search.Mark.{Mark}
use Rattle.digraph.specs.declared.search.Mark.TheVariants.{New, Open, Done}
use Rattle.digraph.specs.declared.search.Frame.{Frame}
use Rattle.digraph.specs.internal.Search.{State, closed, shut, kept, shed, AreWaiting}
use Rattle.digraph.proofs.Marking.{at_set, at_set_other, is_ended, waits_within, shed_first, shed_none, shut_kept}

pub first_waits : (marks : List Mark) (x : ℕ) (rest : List ℕ) → AreWaiting marks (x ∷ rest) → slice_get marks x ≡ Some (Open (length rest))
first_waits marks x rest w = w.marked x (length rest) (inl (refl, refl))

pub pop_waiting : (marks : List Mark) (x n : ℕ) (rest : List ℕ) → AreWaiting marks (x ∷ rest) → AreWaiting (set marks x (Done n)) rest
pop_waiting marks x n rest w =
    record {
      waits = λ a p o.
          ⊎_elim
          (λ (now : (a ≡ x) × (Done n ≡ Open p)). absurd (let e = now.1 in cc))
          (λ was. ⊎_elim (λ first. absurd (was.0 first.0)) (λ later. later) (w.waits a p was.1))
          (at_set marks x a (Done n) (Open p) o);
      marked = λ a p r.
          let was = w.marked a p (inr r) in
          at_set_other marks x a (Done n) (λ same. let lt = waits_within rest p a r in
          let e : Some (Open p) ≡ Some (Open (length rest)) = sym was ∙ (ap (slice_get marks) same ∙ first_waits marks x rest w) in
          let one : p ≡ length rest = cc in let bad : ⊥ = omega (arith, one, lt) in bad) ∙ was;
    }

pub popped_marks : (begin m n x place : ℕ) (marks : List Mark) → m ≡ n → slice_get marks x ≡ Some (Open place) → begin ≤ place → map (shut begin n) (set marks x (Done m)) ≡ map (shut begin n) marks
popped_marks begin m n x place marks same e le =
    map-set (shut begin n) marks x (Done m)
    ∙ (ap (λ y. set (map (shut begin n) marks) x y) (ap Done same ∙ sym (get_or_from_slice_get (map (shut begin n) marks) x (Done n) New (is_ended begin n marks x place e le)))
    ∙ set-get_or (map (shut begin n) marks) x New)

all_kept : (begin n : ℕ) (marks : List Mark) → ((a p : ℕ) → slice_get marks a ≡ Some (Open p) → p < begin) → map (shut begin n) marks ≡ marks
all_kept begin n [] h = refl
all_kept begin n (New ∷ marks) h = ap (λ more. New ∷ more) (all_kept begin n marks (λ a p e. h (suc a) p e))
all_kept begin n (Done d ∷ marks) h = ap (λ more. Done d ∷ more) (all_kept begin n marks (λ a p e. h (suc a) p e))
all_kept begin n (Open q ∷ marks) h =
    ap (λ m. m ∷ map (shut begin n) marks) (shut_kept begin n q (h 0 q refl)) ∙ ap (λ more. Open q ∷ more) (all_kept begin n marks (λ a p e. h (suc a) p e))

pub popped_order : (begin x : ℕ) (order rest : List ℕ) → begin ≤ length rest → (order ++ x ∷ []) ++ shed begin rest ≡ order ++ shed begin (x ∷ rest)
popped_order begin x order rest le = append_assoc order (x ∷ []) (shed begin rest) ∙ ap (λ more. order ++ more) (sym (shed_first begin x rest le).1)

same_states : (m m' : List Mark) (w w' b b' o o' : List ℕ) (p p' : List Frame) (n n' : ℕ) → m ≡ m' → w ≡ w' → b ≡ b' → p ≡ p' → o ≡ o' → n ≡ n'
    → (let s : State = record { marks = m; waiting = w; begins = b; path = p; order = o; count = n } in let t : State = record { marks = m'; waiting = w'; begins = b'; path = p'; order = o'; count = n' } in s ≡ t)
same_states m m' w w' b b' o o' p p' n n' em ew eb ep eo en = cc

pub closed_now : (old : State) (begin : ℕ) (s : State) → AreWaiting s.marks s.waiting → length s.waiting ≤ begin → map (shut begin old.count) s.marks ≡ map (shut begin old.count) old.marks → kept begin s.waiting ≡ kept begin old.waiting
    → s.order ++ shed begin s.waiting ≡ old.order ++ shed begin old.waiting → s.begins ≡ drop 1 old.begins → s.path ≡ old.path → s.count ≡ old.count + 1 → s ≡ closed old begin
closed_now old begin s w le marks kept_same order begins path count =
    same_states s.marks (map (shut begin old.count) old.marks) s.waiting (kept begin old.waiting) s.begins (drop 1 old.begins) s.order (old.order ++ shed begin old.waiting) s.path old.path s.count (old.count + 1)
    (sym (all_kept begin old.count s.marks (λ a p e. let lt = waits_within s.waiting p a (w.waits a p e) in omega (arith, lt, le))) ∙ marks)
    (sym (shed_none begin s.waiting le).0 ∙ kept_same)
    begins path
    (sym (append-nil s.order) ∙ (ap (λ more. s.order ++ more) (sym (shed_none begin s.waiting le).1) ∙ order))
    count
