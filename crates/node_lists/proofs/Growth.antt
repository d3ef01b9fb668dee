-- One more node is one more tree, the earlier trees keep their places, and a node's tree is over the trees of the list.
use Rattle.std.proofs.Common.{◌≡◌, ℕ, zero, suc, ◌+◌, ◌<◌, List, [], ◌∷◌, ◌++◌, length, get_or, refl, sym, ap, subst, ◌∙◌, arith, length-append}
use Rattle.std.proofs.Math.ListN.{get_or-append}
use Rattle.std.proofs.Math.Seq.{get_or-append_seam}
use Rattle.node_lists.specs.Trees.{tree_at, grow, AllInOrder, KeepsPlaces, Adds}

-- one tree behind others

module _ {T : Type 0} (none : T) where
  pub at_front : (trees : List T) (tree : T) → KeepsPlaces none trees (trees ++ tree ∷ [])
  at_front trees tree i h = get_or-append trees (tree ∷ []) none i h

  pub at_end : (trees : List T) (tree : T) (i : ℕ) → i ≡ length trees → tree_at none (trees ++ tree ∷ []) i ≡ tree
  at_end trees tree i e = ap (λ k. get_or (trees ++ tree ∷ []) k none) e ∙ get_or-append_seam trees tree [] none

pub longer : {T : Type 0} (trees : List T) (tree : T) → length (trees ++ tree ∷ []) ≡ suc (length trees)
longer trees tree = omega (arith, length-append trees (tree ∷ []))

module _ {T : Type 0} (old new : List T) (i : ℕ) (tree : T) (adds : Adds old new i tree) where
  pub adds_len : length new ≡ suc (length old)
  adds_len = ap length adds.trees ∙ longer old tree

  pub adds_place : i < length new
  adds_place = omega (arith, adds.last, adds_len)

  pub adds_keeps : (none : T) → KeepsPlaces none old new
  adds_keeps none k h = ap (λ l. tree_at none l k) adds.trees ∙ at_front none old tree k h

  pub adds_tree : (none : T) → tree_at none new i ≡ tree
  adds_tree none = ap (λ l. tree_at none l i) adds.trees ∙ at_end none old tree i adds.last

-- the trees of a list of nodes

module _ {N T : Type 0} (tree_of : List T → N → T) where
  pub grow_more : (ts : List T) (ns : List N) (n : N) → grow tree_of ts (ns ++ n ∷ []) ≡ grow tree_of ts ns ++ tree_of (grow tree_of ts ns) n ∷ []
  grow_more ts [] n = refl
  grow_more ts (x ∷ ns) n = grow_more (ts ++ tree_of ts x ∷ []) ns n

  pub grow_length : (ts : List T) (ns : List N) → length (grow tree_of ts ns) ≡ length ts + length ns
  grow_length ts [] = omega arith
  grow_length ts (x ∷ ns) = omega (arith, grow_length (ts ++ tree_of ts x ∷ []) ns, longer ts (tree_of ts x))

  pub count : (ns : List N) → length (grow tree_of [] ns) ≡ length ns
  count ns = omega (arith, grow_length [] ns)

  pub adds_one : (ns : List N) (n : N) (i : ℕ) → i ≡ length ns → Adds (grow tree_of [] ns) (grow tree_of [] (ns ++ n ∷ [])) i (tree_of (grow tree_of [] ns) n)
  adds_one ns n i e = record { last = omega (arith, count ns); trees = grow_more [] ns n }

  pub grow_keeps : (none : T) (ts : List T) (ns : List N) → KeepsPlaces none ts (grow tree_of ts ns)
  grow_keeps none ts [] i h = refl
  grow_keeps none ts (x ∷ ns) i h =
      grow_keeps none (ts ++ tree_of ts x ∷ []) ns i (omega (arith, longer ts (tree_of ts x))) ∙ at_front none ts (tree_of ts x) i h

-- order

module _ {N : Type 0} (InOrder : ℕ → N → Type 0) where
  pub order_more : (k : ℕ) (ns : List N) (n : N) → AllInOrder InOrder k ns → InOrder (k + length ns) n → AllInOrder InOrder k (ns ++ n ∷ [])
  order_more k [] n o h = let e : k + 0 ≡ k = omega arith in (subst (λ j. InOrder j n) e h, tt)
  order_more k (x ∷ ns) n o h =
      let e : k + suc (length ns) ≡ suc k + length ns = omega arith in (o.0, order_more (suc k) ns n o.1 (subst (λ j. InOrder j n) e h))

  order_behind : (k i : ℕ) (ns : List N) (d : N) → AllInOrder InOrder k ns → i < length ns → InOrder (k + i) (get_or ns i d)
  order_behind k i [] d o h = absurd (omega arith)
  order_behind k zero (x ∷ ns) d o h = let e : k + 0 ≡ k = omega arith in subst (λ j. InOrder j x) (sym e) o.0
  order_behind k (suc i) (x ∷ ns) d o h =
      let e : k + suc i ≡ suc k + i = omega arith in subst (λ j. InOrder j (get_or ns i d)) (sym e) (order_behind (suc k) i ns d o.1 (omega arith))

  pub order_at : (i : ℕ) (ns : List N) (d : N) → AllInOrder InOrder 0 ns → i < length ns → InOrder i (get_or ns i d)
  order_at i ns d o h = let e : 0 + i ≡ i = omega arith in subst (λ j. InOrder j (get_or ns i d)) e (order_behind 0 i ns d o h)

pub one_more_in_order : {N T : Type 0} (tree_of : List T → N → T) (InOrder : ℕ → N → Type 0) (ns : List N) (n : N) → AllInOrder InOrder 0 ns → InOrder (length (grow tree_of [] ns)) n → AllInOrder InOrder 0 (ns ++ n ∷ [])
one_more_in_order tree_of InOrder ns n o h =
    let e : length (grow tree_of [] ns) ≡ 0 + length ns = omega (arith, count tree_of ns) in order_more InOrder 0 ns n o (subst (λ k. InOrder k n) e h)

-- what holds of each node in order holds of the list
pub order_wider : {N : Type 0} (P Q : ℕ → N → Type 0) → ((k : ℕ) (n : N) → P k n → Q k n) → (k : ℕ) (ns : List N) → AllInOrder P k ns → AllInOrder Q k ns
order_wider P Q wider k [] o = tt
order_wider P Q wider k (n ∷ ns) o = (wider k n o.0, order_wider P Q wider (suc k) ns o.1)

pub grow_same : {N T : Type 0} (InOrder : ℕ → N → Type 0) (f g : List T → N → T) → ((k : ℕ) (ts : List T) (n : N) → InOrder k n → f ts n ≡ g ts n) → (k : ℕ) (ts : List T) (ns : List N) → AllInOrder InOrder k ns → grow f ts ns ≡ grow g ts ns
grow_same InOrder f g same k ts [] o = refl
grow_same InOrder f g same k ts (n ∷ ns) o =
    ap (λ t. grow f (ts ++ t ∷ []) ns) (same k ts n o.0) ∙ grow_same InOrder f g same (suc k) (ts ++ g ts n ∷ []) ns o.1

-- the tree at a place

-- the tree of a node in order depends on no trees but those of its children
abbrev pub OfChildren : {N T : Type 0} → T → (List T → N → T) → (ℕ → N → Type 0) → Type 0
OfChildren {N = N} {T = T} none tree_of InOrder =
    (k : ℕ) (ts us : List T) (n : N) → InOrder k n → ((i : ℕ) → i < k → tree_at none ts i ≡ tree_at none us i) → tree_of ts n ≡ tree_of us n

module _ {N T : Type 0} (none : T) (tree_of : List T → N → T) (InOrder : ℕ → N → Type 0) (of_children : OfChildren none tree_of InOrder) where
  grown_at : (ts : List T) (ns : List N) (k i : ℕ) (d : N) → k ≡ length ts → AllInOrder InOrder k ns → i < length ns → tree_at none (grow tree_of ts ns) (k + i) ≡ tree_of (grow tree_of ts ns) (get_or ns i d)
  grown_at ts [] k i d e o h = absurd (omega arith)
  grown_at ts (x ∷ ns) k zero d e o h =
      let ts' = ts ++ tree_of ts x ∷ [] in
      let z : k + 0 ≡ k = omega arith in
      let one : length ts' ≡ suc (length ts) = longer ts (tree_of ts x) in
      ap (tree_at none (grow tree_of ts' ns)) z
      ∙ grow_keeps tree_of none ts' ns k (omega arith)
      ∙ at_end none ts (tree_of ts x) k e
      ∙ of_children k ts (grow tree_of ts' ns) x o.0 (λ j lt. sym (grow_keeps tree_of none ts (x ∷ ns) j (omega arith)))
  grown_at ts (x ∷ ns) k (suc i) d e o h =
      let z : k + suc i ≡ suc k + i = omega arith in
      let one : length (ts ++ tree_of ts x ∷ []) ≡ suc (length ts) = longer ts (tree_of ts x) in
      ap (tree_at none (grow tree_of ts (x ∷ ns))) z ∙ grown_at (ts ++ tree_of ts x ∷ []) ns (suc k) i d (omega arith) o.1 (omega arith)

  pub node_tree : (ns : List N) (i : ℕ) (n : N) → AllInOrder InOrder 0 ns → i < length (grow tree_of [] ns) → n ≡ get_or ns i n → (tree_at none (grow tree_of [] ns) i ≡ tree_of (grow tree_of [] ns) n) × InOrder i n
  node_tree ns i n o h e =
      let below : i < length ns = omega (arith, count tree_of ns) in
      let z : 0 + i ≡ i = omega arith in (
        ap (tree_at none (grow tree_of [] ns)) (sym z) ∙ grown_at [] ns 0 i n refl o below ∙ ap (tree_of (grow tree_of [] ns)) (sym e),
        subst (λ m. InOrder i m) (sym e) (order_at InOrder i ns n o below),
      )
