-- How the marks of a graph without cycles are listed.
use Rattle.std.specs.Prelude.{◌≡◌, ℕ, zero, suc, ◌+◌, ◌-◌, ◌<◌, ◌⊎◌, ◌==◌, List, [], ◌∷◌, ◌++◌, length, Option, Some, None, slice_index, slice_index_or, slice_set, fold, sum_by, if◌then◌else◌}
use Rattle.std.specs.BTreeSet.{insert_key}
use Rattle.std.specs.Ordering.{nat_cmp}
use Rattle.digraph.specs.Graphs.{Walk, IsEdge}
use Rattle.least_order.specs.internal.Counts.{owing}

-- how many edges lead to each node from nodes that weren't taken; the free nodes without a mark; the marks of free nodes,
-- ascending; and the marks of the nodes that were taken, in order
pub record Progress : Type 0 where
  pub owed : List ℕ
  pub gates : List ℕ
  pub ready : List ℕ
  pub order : List ℕ

-- the mark of a node, if it has one
abbrev pub mark_of : List (Option ℕ) → ℕ → Option ℕ
mark_of marks b = slice_index_or marks b None

-- a node with this mark is free
abbrev pub released : Progress → ℕ → Option ℕ → Progress
released p b None = record p { gates = p.gates ++ b ∷ [] }
released p b (Some x) = record p { ready = insert_key nat_cmp p.ready x }

-- so many edges lead to it
abbrev pub owed_now : ℕ → Progress → ℕ → Option ℕ → Progress
owed_now n p b mark =
    if n == 0 then released (record p { owed = slice_set p.owed b n }) b mark else record p { owed = slice_set p.owed b n }

-- one edge to it is taken
abbrev pub paid : List (Option ℕ) → Progress → ℕ → Progress
paid marks p b = owed_now (slice_index p.owed b - 1) p b (mark_of marks b)

abbrev pub paid_all : List (Option ℕ) → Progress → List ℕ → Progress
paid_all marks p targets = fold (paid marks) p targets

-- a node is looked at before any is taken
abbrev pub looked_at : List (Option ℕ) → Progress → ℕ → Progress
looked_at marks p b = if slice_index p.owed b == 0 then released p b (mark_of marks b) else p

-- the first n nodes are looked at
abbrev pub begun : List (Option ℕ) → Progress → ℕ → Progress
begun marks p zero = p
begun marks p (suc n) = looked_at marks (begun marks p n) n

-- no node was looked at
pub record IsStart (g : List (List ℕ)) (p : Progress) : Type 0 where
  pub each : length p.owed ≡ length g
  pub owes : (b : ℕ) → b < length g → slice_index p.owed b ≡ owing g [] b
  pub gates : p.gates ≡ []
  pub ready : p.ready ≡ []
  pub order : p.order ≡ []

-- a node was taken off: one without a mark, or, where there is none, the one with the least mark, which was listed
abbrev pub IsTaken : List ℕ → Progress → Progress → ℕ → Type 0
IsTaken homes old new a =
    (old ≡ record new { gates = new.gates ++ a ∷ [] })
    ⊎ ((x : ℕ) × (a ≡ slice_index homes x) × (old.gates ≡ []) × (old.ready ≡ x ∷ new.ready) × (new ≡ record { owed = old.owed; gates = []; ready = new.ready; order = old.order ++ x ∷ [] }))

-- how much work is left
abbrev pub is_owed : ℕ → ℕ
is_owed n = if n == 0 then 0 else 1

abbrev pub work_of : Progress → ℕ
work_of p = length p.gates + length p.ready + sum_by is_owed p.owed

-- x is a mark of a node
abbrev pub IsMark : List (List ℕ) → List (Option ℕ) → ℕ → Type 0
IsMark g marks x = (b : ℕ) × (b < length g) × (mark_of marks b ≡ Some x)

-- a walk leads from the node with mark x to the one with mark y
abbrev pub MarkReaches : List (List ℕ) → List (Option ℕ) → ℕ → ℕ → Type 0
MarkReaches g marks x y =
    (a : ℕ) × (b : ℕ) × (mark_of marks a ≡ Some x) × (mark_of marks b ≡ Some y) × Walk g a b

-- edges lead to lesser nodes, each node may have a mark, and it is known which node has a mark
pub record IsMarked (g : List (List ℕ)) (marks : List (Option ℕ)) (homes : List ℕ) : Type 0 where
  pub falls : (a b : ℕ) → IsEdge g a b → b < a
  pub each : length marks ≡ length g
  pub home : (b x : ℕ) → mark_of marks b ≡ Some x → (x < length homes) × (slice_index homes x ≡ b)
