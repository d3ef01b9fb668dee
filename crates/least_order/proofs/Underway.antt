-- What is true while marks are listed.
use Rattle.std.proofs.Common.{◌≡◌, ℕ, zero, suc, ◌+◌, ◌<◌, ◌≤◌, ◌⊎◌, inl, inr, ⊎_elim, Bool, true, false, List, [], ◌∷◌, ◌++◌, Option, Some, None, get_or, set, length, refl, sym, ap, ◌∙◌, subst, arith}
use Rattle.std.proofs.lemmas.Bool.{cases_eq, cases_lt, cases_Bool}
use Rattle.std.proofs.lemmas.List.{get_or-set_same, get_or-set_other, length-set}
use Rattle.digraph.specs.Graphs.{Among, successors, IsEdge, Reaches, Walk, WalkTo, Edge, Onward}
use Rattle.digraph.proofs.Walking.{reaches_on, reaches_by_edge}
use Rattle.least_order.specs.Orders.{Precedes}
use Rattle.least_order.specs.internal.Steps.{IsFree, AreSteps}
use Rattle.least_order.specs.internal.Counts.{occurs, owing}
use Rattle.least_order.specs.internal.Listing.{mark_of, IsMark, MarkReaches, IsMarked}
use Rattle.least_order.proofs.Members.{among_append, among_front, among_behind}
use Rattle.least_order.proofs.Ready.{Ascends}
use Rattle.least_order.proofs.Owing.{owing_less, all_taken, some_owing}
use Rattle.least_order.proofs.Stepping.{steps_more}

-- a free node with this mark waits
abbrev pub WaitsBy : Option ℕ → List ℕ → List ℕ → ℕ → Type 0
WaitsBy None gates ready b = Among b gates
WaitsBy (Some x) gates ready b = Among x ready

abbrev pub AnyNode : ℕ → Type 0
AnyNode b = Unit {0}

-- a node that was seen is free, wasn't taken, and has this mark
pub record IsOpen (g : List (List ℕ)) (marks : List (Option ℕ)) (taken : List Bool) (owed : List ℕ) (Seen : ℕ → Type 0) (m : Option ℕ) (b : ℕ) : Type 0 where
  pub within : b < length g
  pub seen : Seen b
  pub untaken : get_or taken b false ≡ false
  pub none : get_or owed b 0 ≡ 0
  pub mark : mark_of marks b ≡ m

-- what is kept of the edges, but for edges to these nodes, and of the free nodes among those that were seen
pub record Books (g : List (List ℕ)) (marks : List (Option ℕ)) (taken : List Bool) (left : List ℕ) (Seen : ℕ → Type 0) (owed gates ready : List ℕ) : Type 0 where
  pub len_taken : length taken ≡ length g
  pub len_owed : length owed ≡ length g
  pub owes : (b : ℕ) → b < length g → get_or owed b 0 ≡ owing g taken b + occurs b left
  pub free : (b : ℕ) → b < length g → Seen b → get_or taken b false ≡ false → get_or owed b 0 ≡ 0 → WaitsBy (mark_of marks b) gates ready b
  pub gate : (b : ℕ) → Among b gates → IsOpen g marks taken owed Seen None b
  pub mark : (x : ℕ) → Among x ready → (b : ℕ) × IsOpen g marks taken owed Seen (Some x) b
  pub once : (b : ℕ) → Precedes b b gates → ⊥
  pub ascends : Ascends ready

-- what was taken, and listed
pub record Listed (g : List (List ℕ)) (marks : List (Option ℕ)) (taken : List Bool) (order : List ℕ) : Type 0 where
  pub back : (a b : ℕ) → get_or taken b false ≡ true → IsEdge g a b → get_or taken a false ≡ true
  pub out : (b x : ℕ) → get_or taken b false ≡ true → mark_of marks b ≡ Some x → Among x order
  pub from : (x : ℕ) → Among x order → (b : ℕ) × (get_or taken b false ≡ true) × (mark_of marks b ≡ Some x)
  pub steps : AreSteps (IsMark g marks) (MarkReaches g marks) [] order

pub some_is : (x y : ℕ) → Some x ≡ Some y → x ≡ y
some_is x y e = cc

pub not_both : {P : Type 0} (b : Bool) → b ≡ true → b ≡ false → P
not_both true e f = absurd (let bad : true ≡ false = f in cc)
not_both false e f = absurd (let bad : false ≡ true = e in cc)

pub none_some : {P : Type 0} (m : Option ℕ) (x : ℕ) → m ≡ None → m ≡ Some x → P
none_some None x e f = absurd (let bad : None ≡ Some x = f in cc)
none_some (Some y) x e f = absurd (let bad : Some y ≡ None = e in cc)

-- two nodes with one mark are the same
pub one_home : (g : List (List ℕ)) (marks : List (Option ℕ)) (homes : List ℕ) (a b x : ℕ) → IsMarked g marks homes → mark_of marks a ≡ Some x → mark_of marks b ≡ Some x → a ≡ b
one_home g marks homes a b x h e f = sym (h.home a x e).1 ∙ (h.home b x f).1

-- what leads to a node whose predecessors were taken was taken
walk_taken : (g : List (List ℕ)) (taken : List Bool) (a c : ℕ) → ((x y : ℕ) → get_or taken y false ≡ true → IsEdge g x y → get_or taken x false ≡ true) → ((d : ℕ) → IsEdge g d a → get_or taken d false ≡ true) → WalkTo g a c → get_or taken c false ≡ true
walk_taken g taken a c back first (Edge e i) = first e i
walk_taken g taken a c back first (Onward e d i rest) = back e d (walk_taken g taken a d back first rest) i

-- a node that wasn't taken is reached from one that is free
pub root : (g : List (List ℕ)) (marks : List (Option ℕ)) (homes : List ℕ) (taken : List Bool) (n b : ℕ) → IsMarked g marks homes → length g ≤ b + n → b < length g → get_or taken b false ≡ false
    → (r : ℕ) × (r < length g) × (get_or taken r false ≡ false) × (owing g taken r ≡ 0) × Reaches g r b
root g marks homes taken zero b h le lt un = absurd (omega (arith, le, lt))
root g marks homes taken (suc n) b h le lt un =
    ⊎_elim
    (λ some.
    let a = some_owing g taken b some in
    let falls = h.falls a.0 b a.2 in
    let r = root g marks homes taken n a.0 h (omega (arith, falls, le)) a.1 a.3 in
    (r.0, r.1, r.2, r.3, reaches_on g r.0 a.0 b r.4 (reaches_by_edge g a.0 b a.2)))
    (λ none. (b, lt, un, omega (arith, none), inl refl))
    (cases_lt 0 (owing g taken b))

module _ (g : List (List ℕ)) (marks : List (Option ℕ)) (homes : List ℕ) (is_marked : IsMarked g marks homes) where
  -- a node is taken, and its edges are to be taken
  pub take_books : (taken : List Bool) (owed gates ready gates2 ready2 : List ℕ) (a : ℕ) → Books g marks taken [] AnyNode owed gates ready
      → a < length g → get_or taken a false ≡ false
      → ((c : ℕ) → (c ≡ a → ⊥) → WaitsBy (mark_of marks c) gates ready c → WaitsBy (mark_of marks c) gates2 ready2 c)
      → ((c : ℕ) → Among c gates2 → Among c gates × (c ≡ a → ⊥))
      → ((x : ℕ) → Among x ready2 → Among x ready × (mark_of marks a ≡ Some x → ⊥))
      → ((b : ℕ) → Precedes b b gates2 → ⊥) → Ascends ready2
      → Books g marks (set taken a true) (successors g a) AnyNode owed gates2 ready2
  take_books taken owed gates ready gates2 ready2 a h lt un keeps older known once ascends =
      record {
        len_taken = length-set taken a true ∙ h.len_taken;
        len_owed = h.len_owed;
        owes = λ b less. let o = h.owes b less in let l = owing_less g taken a b lt h.len_taken un in omega (arith, o, l);
        free = λ b less seen un_b none.
            ⊎_elim
            (λ same. not_both (get_or (set taken a true) b false) (taken_at b same) un_b)
            (λ differs. keeps b differs (h.free b less (cc) (sym (get_or-set_other taken a b true false differs) ∙ un_b) none))
            (cases_eq b a);
        gate = λ b i. let o = older b i in let was = h.gate b o.0 in still None b was o.1;
        mark = λ x i.
            let o = known x i in
            let was = h.mark x o.0 in
            (was.0, still (Some x) was.0 was.1 (λ e. o.1 (subst (λ z. mark_of marks z ≡ Some x) e was.1.mark)));
        once = once;
        ascends = ascends;
      }
    where
      within : a < length taken
      within = let each = h.len_taken in omega (arith, lt, each)

      taken_at : (b : ℕ) → b ≡ a → get_or (set taken a true) b false ≡ true
      taken_at b e = subst (λ z. get_or (set taken a true) z false ≡ true) (sym e) (get_or-set_same taken a true false within)

      still : (m : Option ℕ) (b : ℕ) → IsOpen g marks taken owed AnyNode m b → (b ≡ a → ⊥) → IsOpen g marks (set taken a true) owed AnyNode m b
      still m b was differs = record {
        within = was.within;
        seen = cc;
        untaken = get_or-set_other taken a b true false differs ∙ was.untaken;
        none = was.none;
        mark = was.mark;
      }

  marked : (taken : List Bool) (a b : ℕ) → get_or (set taken a true) b false ≡ true → (b ≡ a) ⊎ (get_or taken b false ≡ true)
  marked taken a b e = ⊎_elim (λ same. inl same) (λ differs. inr (sym (get_or-set_other taken a b true false differs) ∙ e)) (cases_eq b a)

  stays : (taken : List Bool) (a b : ℕ) → a < length taken → get_or taken b false ≡ true → get_or (set taken a true) b false ≡ true
  stays taken a b lt e =
      ⊎_elim (λ same. subst (λ y. get_or (set taken a true) y false ≡ true) (sym same) (get_or-set_same taken a true false lt)) (λ differs. get_or-set_other taken a b true false differs ∙ e) (cases_eq b a)

  -- a node without a mark is taken
  pub take_gate : (taken : List Bool) (order : List ℕ) (a : ℕ) → Listed g marks taken order → a < length taken → owing g taken a ≡ 0 → mark_of marks a ≡ None → Listed g marks (set taken a true) order
  take_gate taken order a h lt none mark =
      record {
        back = λ c b e edge. ⊎_elim (λ same. stays taken a c lt (all_taken g taken c a none (subst (λ z. IsEdge g c z) same edge))) (λ was. stays taken a c lt (h.back c b was edge)) (marked taken a b e);
        out = λ b x e m. ⊎_elim (λ same. none_some (mark_of marks a) x mark (subst (λ z. mark_of marks z ≡ Some x) same m)) (λ was. h.out b x was m) (marked taken a b e);
        from = λ x i. let f = h.from x i in (f.0, stays taken a f.0 lt f.1, f.2);
        steps = h.steps;
      }

  -- the least mark is taken
  pub take_mark : (taken : List Bool) (owed ready order : List ℕ) (a x : ℕ) → Books g marks taken [] AnyNode owed [] (x ∷ ready) → Listed g marks taken order → a < length g → get_or taken a false ≡ false → owing g taken a ≡ 0 → mark_of marks a ≡ Some x → Listed g marks (set taken a true) (order ++ x ∷ [])
  take_mark taken owed ready order a x books h lt un none mark =
      record {
        back = λ c b e edge. ⊎_elim (λ same. stays taken a c within (all_taken g taken c a none (subst (λ z. IsEdge g c z) same edge))) (λ was. stays taken a c within (h.back c b was edge)) (marked taken a b e);
        out = λ b y e m.
            ⊎_elim
            (λ same. among_behind order (x ∷ []) y (inl (some_is y x (sym m ∙ (ap (λ z. mark_of marks z) same ∙ mark)))))
            (λ was. among_front order (x ∷ []) y (h.out b y was m))
            (marked taken a b e);
        from = λ y i.
            ⊎_elim
            (λ old. let f = h.from y old in (f.0, stays taken a f.0 within f.1, f.2))
            (λ new. ⊎_elim (λ e. (a, get_or-set_same taken a true false within, subst (λ z. mark_of marks a ≡ Some z) (sym e) mark)) (λ no. absurd no) new)
            (among_append order (x ∷ []) y i);
        steps = steps_more (IsMark g marks) (MarkReaches g marks) [] order x h.steps (record {
          one = (a, lt, mark);
          fresh = fresh;
          free = λ z one reach. let c = reach in free_of z c.0 c.1 c.2 c.3 c.4;
          least = least;
        });
      }
    where
      within : a < length taken
      within = let each = books.len_taken in omega (arith, lt, each)

      fresh : Among x order → ⊥
      fresh i = let f = h.from x i in not_both (get_or taken a false) (subst (λ z. get_or taken z false ≡ true) (one_home g marks homes f.0 a x is_marked f.2 mark) f.1) un

      free_of : (z c b : ℕ) → mark_of marks c ≡ Some z → mark_of marks b ≡ Some x → Walk g c b → Among z order
      free_of z c b e f walk =
          h.out c z (walk_taken g taken a c h.back (λ d i. all_taken g taken d a none i) (subst (λ w. Walk g c w) (one_home g marks homes b a x is_marked f mark) walk)) e

      waiting : (m : Option ℕ) (r : ℕ) → WaitsBy m [] (x ∷ ready) r → (w : ℕ) × (m ≡ Some w) × Among w (x ∷ ready)
      waiting None r i = absurd i
      waiting (Some w) r i = (w, refl, i)

      least : (y : ℕ) → IsMark g marks y → (Among y order → ⊥) → IsFree (IsMark g marks) (MarkReaches g marks) order y → x ≤ y
      least y one apart frees =
          let un_b = ⊎_elim (λ t. absurd (apart (h.out one.0 y t one.2))) (λ f. f) (cases_Bool (get_or taken one.0 false)) in
          let r = root g marks homes taken (length g) one.0 is_marked (omega arith) one.1 un_b in
          let owes = books.owes r.0 r.1 in
          let w = waiting (mark_of marks r.0) r.0 (books.free r.0 r.1 (cc) r.2 (omega (arith, owes, r.3))) in
          let le : x ≤ w.0 = ⊎_elim (λ e. omega (arith, e)) (λ i. let lt = books.ascends.0 w.0 i in omega (arith, lt)) w.2 in
          ⊎_elim
          (λ same. let e = some_is w.0 y (sym w.1 ∙ (ap (λ z. mark_of marks z) same ∙ one.2)) in omega (arith, e, le))
          (λ walk.
          let i = frees w.0 (r.0, r.1, w.1) (r.0, one.0, w.1, one.2, walk) in
          let f = h.from w.0 i in
          not_both (get_or taken r.0 false) (subst (λ z. get_or taken z false ≡ true) (one_home g marks homes f.0 r.0 w.0 is_marked f.2 w.1) f.1) r.2)
          r.4

  -- where nothing waits, all marks were listed
  pub all_listed : (taken : List Bool) (owed order : List ℕ) (x : ℕ) → Books g marks taken [] AnyNode owed [] [] → Listed g marks taken order → IsMark g marks x → Among x order
  all_listed taken owed order x books h one =
      ⊎_elim
      (λ t. h.out one.0 x t one.2)
      (λ un.
      let r = root g marks homes taken (length g) one.0 is_marked (omega arith) one.1 un in
      let owes = books.owes r.0 r.1 in
      absurd (nothing (mark_of marks r.0) r.0 (books.free r.0 r.1 (cc) r.2 (omega (arith, owes, r.3)))))
      (cases_Bool (get_or taken one.0 false))
    where
      nothing : (m : Option ℕ) (r : ℕ) → WaitsBy m [] [] r → ⊥
      nothing None r i = i
      nothing (Some w) r i = i
