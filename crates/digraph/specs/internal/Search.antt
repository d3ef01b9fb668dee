-- What a depth-first search for components knows.
use Rattle.std.specs.Prelude.{◌≡◌, ℕ, ◌+◌, ◌<◌, ◌≤◌, ◌⊎◌, List, [], ◌∷◌, ◌++◌, Option, Some, None, length, map, drop, take, replicate, slice_get, slice_set, nat_le, nat_lt, if◌then◌else◌, sum_by}
use Rattle.digraph.specs.declared.search.Mark.{Mark}
use Rattle.digraph.specs.declared.search.Mark.TheVariants.{New, Open, Done}
use Rattle.digraph.specs.declared.search.Frame.{Frame}
use Rattle.digraph.specs.Graphs.{Among, successors, IsEdge, Reaches}
use Rattle.digraph.specs.Components.{Rises, StandOnce}

-- the marks of the nodes; the nodes whose components aren't whole yet, the last reached first; the places at which
-- components begin among these; the nodes on the path, the last first; the nodes of whole components; and how many
-- components are whole
pub record State : Type 0 where
  pub marks : List Mark
  pub waiting : List ℕ
  pub begins : List ℕ
  pub path : List Frame
  pub order : List ℕ
  pub count : ℕ

abbrev pub fresh : ℕ → State
fresh nodes = record { marks = replicate nodes New; waiting = []; begins = []; path = []; order = []; count = 0 }

-- a node is reached, with so many edges to take
abbrev pub entered : State → ℕ → ℕ → State
entered s node edges = record s {
  marks = slice_set s.marks node (Open (length s.waiting));
  waiting = node ∷ s.waiting;
  begins = length s.waiting ∷ s.begins;
  path = record { node = node; left = edges } ∷ s.path;
}

-- what the mark of a node is
abbrev pub IsNew : List Mark → ℕ → Type 0
IsNew marks a = slice_get marks a ≡ Some New

abbrev pub IsOpen : List Mark → ℕ → ℕ → Type 0
IsOpen marks a place = slice_get marks a ≡ Some (Open place)

abbrev pub IsDone : List Mark → ℕ → ℕ → Type 0
IsDone marks a number = slice_get marks a ≡ Some (Done number)

-- the numbers from the first one on that isn't greater
abbrev pub up_to : ℕ → List ℕ → List ℕ
up_to most [] = []
up_to most (k ∷ ks) = if nat_le k most then k ∷ ks else up_to most ks

-- the component of the node at a place and all later ones become one
abbrev pub joined : State → ℕ → State
joined s place = record s { begins = up_to place s.begins }

-- the search comes to a node of this mark, which has so many edges
abbrev pub came_by : Option Mark → State → ℕ → ℕ → State
came_by None s node edges = s
came_by (Some New) s node edges = entered s node edges
came_by (Some (Open place)) s node edges = joined s place
came_by (Some (Done number)) s node edges = s

abbrev pub came_to : State → ℕ → ℕ → State
came_to s node edges = came_by (slice_get s.marks node) s node edges

-- the mark of a node, once the component that begins at a place is whole
abbrev pub shut : ℕ → ℕ → Mark → Mark
shut begin number New = New
shut begin number (Open place) = if nat_lt place begin then Open place else Done number
shut begin number (Done other) = Done other

-- the nodes that waited before the place, and those that didn't
abbrev pub kept : ℕ → List ℕ → List ℕ
kept begin [] = []
kept begin (a ∷ rest) = if nat_lt (length rest) begin then a ∷ rest else kept begin rest

abbrev pub shed : ℕ → List ℕ → List ℕ
shed begin [] = []
shed begin (a ∷ rest) = if nat_lt (length rest) begin then [] else a ∷ shed begin rest

-- the last component, which begins at a place, is whole
abbrev pub closed : State → ℕ → State
closed s begin = record s {
  marks = map (shut begin s.count) s.marks;
  waiting = kept begin s.waiting;
  begins = drop 1 s.begins;
  order = s.order ++ shed begin s.waiting;
  count = s.count + 1;
}

-- a node is left: the component that begins with it is whole
pub data HasLeft (old : State) (node : ℕ) (new : State) : Type 0 where
  Closes : (p : ℕ) (ks : List ℕ) → IsOpen old.marks node p → old.begins ≡ p ∷ ks → new ≡ closed old p
      → HasLeft old node new
  Stays : (p : ℕ) → IsOpen old.marks node p → ((ks : List ℕ) → old.begins ≡ p ∷ ks → ⊥) → new ≡ old
      → HasLeft old node new

-- a node on top of the path
abbrev pub led_by : Frame → State → State
led_by f s = record s { path = f ∷ s.path }

-- the node waits at the place
abbrev pub Waits : List ℕ → ℕ → ℕ → Type 0
Waits [] place a = ⊥
Waits (x ∷ rest) place a = ((a ≡ x) × (place ≡ length rest)) ⊎ Waits rest place a

-- the nodes that are open wait at their places
pub record AreWaiting (marks : List Mark) (waiting : List ℕ) : Type 0 where
  pub waits : (a p : ℕ) → IsOpen marks a p → Waits waiting p a
  pub marked : (a p : ℕ) → Waits waiting p a → IsOpen marks a p

-- the component of the node that waits at p isn't behind that of the node that waits at q
abbrev pub NotBehind : List ℕ → ℕ → ℕ → Type 0
NotBehind begins p q = (k : ℕ) → Among k begins → k ≤ p → k ≤ q

-- the component of node b is whole, or isn't in front of that of the node that waits at a place
abbrev pub IsSettled : State → ℕ → ℕ → Type 0
IsSettled s place b =
    ((n : ℕ) × (IsDone s.marks b n))
    ⊎ ((q : ℕ) × (IsOpen s.marks b q) × NotBehind s.begins place q)

-- the edge from a to b is still to be taken
abbrev pub IsLeft : List (List ℕ) → List Frame → ℕ → ℕ → Type 0
IsLeft g [] a b = ⊥
IsLeft g (f ∷ rest) a b = ((a ≡ f.node) × Among b (take f.left (successors g a))) ⊎ IsLeft g rest a b

-- the edge that is being taken
abbrev pub IsTaken : Option (ℕ × ℕ) → ℕ → ℕ → Type 0
IsTaken None a b = ⊥
IsTaken (Some edge) a b = (a ≡ edge.0) × (b ≡ edge.1)

-- the nodes on the path wait, each in front of the ones above it
abbrev pub IsPath : List (List ℕ) → List Mark → ℕ → List Frame → Type 0
IsPath g marks limit [] = Unit {0}
IsPath g marks limit (f ∷ rest) =
    (p : ℕ) × (IsOpen marks f.node p) × (p < limit) × (f.left ≤ length (successors g f.node)) × IsPath g marks p rest

-- a node on the path waits at the place
abbrev pub IsOnPath : List Mark → List Frame → ℕ → Type 0
IsOnPath marks [] place = ⊥
IsOnPath marks (f ∷ rest) place = (IsOpen marks f.node place) ⊎ IsOnPath marks rest place

-- each number is greater than all that stand behind it
abbrev pub Falls : List ℕ → Type 0
Falls [] = Unit {0}
Falls (k ∷ ks) = ((j : ℕ) → Among j ks → j < k) × Falls ks

-- what is true between any two steps, but for the edge that is being taken
pub record Searching (g : List (List ℕ)) (taken : Option (ℕ × ℕ)) (s : State) : Type 0 where
  pub size : length s.marks ≡ length g
  pub waiting : AreWaiting s.marks s.waiting
  pub reach : (a b p q : ℕ) → IsOpen s.marks a p → IsOpen s.marks b q → NotBehind s.begins p q
      → Reaches g a b
  pub edge : (a b p : ℕ) → IsOpen s.marks a p → IsEdge g a b
      → IsSettled s p b ⊎ (IsLeft g s.path a b ⊎ IsTaken taken a b)
  pub path : IsPath g s.marks (length s.waiting) s.path
  pub begins : (k : ℕ) → Among k s.begins → IsOnPath s.marks s.path k
  pub falls : Falls s.begins
  pub rooted : (a p : ℕ) → IsOpen s.marks a p → (k : ℕ) × Among k s.begins × (k ≤ p)
  pub done_edge : (a b n : ℕ) → IsDone s.marks a n → IsEdge g a b
      → (m : ℕ) × (IsDone s.marks b m) × (m ≤ n)
  pub done_reach : (a b n : ℕ) → IsDone s.marks a n → IsDone s.marks b n → Reaches g a b
  pub done_below : (a n : ℕ) → IsDone s.marks a n → n < s.count

-- how much work is left
abbrev pub mark_weight : ℕ → Mark → ℕ
mark_weight edges New = edges + 2
mark_weight edges (Open place) = 0
mark_weight edges (Done number) = 0

abbrev pub frame_weight : Frame → ℕ
frame_weight f = f.left + 1

abbrev pub work : List (List ℕ) → State → ℕ
work g s = sum_by (mark_weight (sum_by length g)) s.marks + sum_by frame_weight s.path

-- the number of a node's component
abbrev pub number_of : Mark → ℕ
number_of New = 0
number_of (Open place) = 0
number_of (Done number) = number

-- what is true of the order between any two steps
pub record IsListed (s : State) : Type 0 where
  pub few : s.count ≤ length s.order
  pub done : (a : ℕ) → Among a s.order → (n : ℕ) × (IsDone s.marks a n)
  pub listed : (a n : ℕ) → IsDone s.marks a n → Among a s.order
  pub used : (n : ℕ) → n < s.count → (a : ℕ) × (IsDone s.marks a n)
  pub once : StandOnce s.order
  pub rises : Rises (map number_of s.marks) s.order

-- a turn of the search
pub record IsTurn (g : List (List ℕ)) (old new : State) : Type 0 where
  pub searching : Searching g None new
  pub listed : IsListed new
  pub reached : (a : ℕ) → IsNew new.marks a → IsNew old.marks a
  pub lighter : work g new < work g old

-- what a search from a node keeps
pub record IsVisit (g : List (List ℕ)) (old new : State) (root : ℕ) : Type 0 where
  pub searching : Searching g None new
  pub listed : IsListed new
  pub reached : (a : ℕ) → IsNew new.marks a → IsNew old.marks a
  pub root_reached : IsNew new.marks root → ⊥
