-- The parameters of all actions as numbers, and where they are passed on.
use Rattle.std.specs.Prelude.{◌≡◌, ℕ, ◌+◌, Bool, true, false, ◌||◌, ◌&&◌, List, [], ◌∷◌, ◌++◌, length, map, flat_map, replicate, slice_get, slice_index, slice_index_or, slice_set, Option, Some, None, if◌then◌else◌}
use Rattle.std.specs.List.{list_any}
use Rattle.digraph.specs.Graphs.{Among, IsEdge}
use Rattle.p414_syntax.specs.declared.actions.Action.{Action}
use Rattle.p414_syntax.specs.declared.syntax.Decl.{Decl}
use Rattle.p414_syntax.specs.declared.place.ArgumentPlace.{ArgumentPlace}
use Rattle.p414_syntax.specs.declared.place.ArgumentPlace.TheVariants as place
use Rattle.p414_syntax.specs.Primitives.{primitive_places}
use Rattle.p414_syntax.specs.Uses.{first_place, further_places}
use Rattle.p414_syntax.specs.Arguments.{Argument, parameter_argument, Invocation, invocations_of, actions, action_number}
use Rattle.p414_action_check.specs.internal.Counted.{action_graph}
use Rattle.p414_expanded_check.specs.declared.flow.Pass.{Pass}
use Rattle.p414_expanded_check.specs.internal.Passing.{refuses}

-- each of these stands behind what it leads to
abbrev pub Ordered : List (List ℕ) → List ℕ → List ℕ → Type 0
Ordered g before [] = Unit {0}
Ordered g before (n ∷ rest) = ((k : ℕ) → IsEdge g n k → Among k before) × Ordered g (n ∷ before) rest

-- the places by their numbers
abbrev pub place_number : ArgumentPlace → ℕ
place_number place.Target = 0
place_number place.Source = 1
place_number place.Unsigned = 2
place_number place.Header = 3
place_number place.Stack = 4
place_number place.Elements = 5
place_number place.Counter = 6
place_number place.Register = 7
place_number place.Meter = 8
place_number place.Calculation = 9
place_number place.List = 10

-- the number of the first parameter of each action, behind those of the places, and how many numbers there are

abbrev pub starts_from : ℕ → List Action → List ℕ
starts_from first [] = []
starts_from first (a ∷ rest) = first ∷ starts_from (first + length a.parameters) rest

abbrev pub end_from : ℕ → List Action → ℕ
end_from first [] = first
end_from first (a ∷ rest) = end_from (first + length a.parameters) rest

abbrev pub starts : List Decl → List ℕ
starts ds = starts_from 11 (actions ds)

abbrev pub count : List Decl → ℕ
count ds = end_from 11 (actions ds)

-- what comes to a number comes also to another: an argument that is a parameter, in an action whose parameters begin here
abbrev pub pass_of : ℕ → ℕ → Argument → List Pass
pass_of from here (parameter_argument m) = record { from = from; to = here + m } ∷ []
pass_of from here _ = []

-- arguments of a call of an action, whose parameters have the numbers from this one on
abbrev pub passes_on : ℕ → ℕ → List Argument → List Pass
passes_on from here [] = []
passes_on from here (x ∷ xs) = pass_of from here x ++ passes_on (from + 1) here xs

-- arguments of a call of a primitive

abbrev pub first_pass : ℕ → Option ArgumentPlace → Argument → List Pass
first_pass here (Some p) x = pass_of (place_number p) here x
first_pass here None x = []

abbrev pub passes_at : ℕ → List ArgumentPlace → List Argument → List Pass
passes_at here ps [] = []
passes_at here ps (x ∷ xs) = first_pass here (first_place ps) x ++ passes_at here (further_places ps) xs

-- a call, by the number of the action that is called; the calls of an action; those of the actions in this order

abbrev pub passes_by : List ℕ → ℕ → Invocation → Option ℕ → List Pass
passes_by begins here i (Some k) = passes_on (slice_index begins k) here i.arguments
passes_by begins here i None = passes_at here (primitive_places i.callee) i.arguments

abbrev pub passes_in : List Decl → List ℕ → ℕ → Invocation → List Pass
passes_in ds begins here i = passes_by begins here i (action_number ds i.callee)

abbrev pub passes_of : List Decl → List ℕ → List (List Invocation) → ℕ → List Pass
passes_of ds begins calls n = flat_map (passes_in ds begins (slice_index begins n)) (slice_index_or calls n [])

abbrev pub all_passes : List Decl → List ℕ → List (List Invocation) → List ℕ → List Pass
all_passes ds begins calls order = flat_map (passes_of ds begins calls) order

-- which numbers are come to, one pass after another

abbrev pub is_set : List Bool → ℕ → Bool
is_set flags at = slice_index_or flags at false

abbrev pub with_pass : List Bool → Pass → List Bool
with_pass flags pass = if is_set flags pass.from then slice_set flags pass.to true else flags

abbrev pub with_passes : List Bool → List Pass → List Bool
with_passes flags [] = flags
with_passes flags (pass ∷ rest) = with_passes (with_pass flags pass) rest

-- at first only that of a place is
abbrev pub flags_at : ℕ → ArgumentPlace → List Pass → List Bool
flags_at n p passes = with_passes (slice_set (replicate n false) (place_number p) true) passes

-- an argument is given for a parameter whose number is set, and isn't taken at the place

abbrev pub refused_from : ArgumentPlace → List Bool → ℕ → List Argument → Bool
refused_from p flags from [] = false
refused_from p flags from (x ∷ xs) = (is_set flags from && refuses p x) || refused_from p flags (from + 1) xs

abbrev pub refused_by : ArgumentPlace → List Bool → List ℕ → Invocation → Option ℕ → Bool
refused_by p flags begins i (Some k) = refused_from p flags (slice_index begins k) i.arguments
refused_by p flags begins i None = false

abbrev pub refused_in : List Decl → ArgumentPlace → List Bool → List ℕ → Invocation → Bool
refused_in ds p flags begins i = refused_by p flags begins i (action_number ds i.callee)

abbrev pub some_refused : List Decl → ArgumentPlace → List Bool → List ℕ → List (List Invocation) → Bool
some_refused ds p flags begins calls = list_any (list_any (refused_in ds p flags begins)) calls

-- an order of the actions in which each stands behind those that it calls
pub record IsOrder (ds : List Decl) (order : List ℕ) : Type 0 where
  pub behind : Ordered (action_graph ds) [] order
  pub each : (n : ℕ) (a : Action) → slice_get (actions ds) n ≡ Some a → Among n order

-- these are all passes, in such an order
pub record ArePasses (ds : List Decl) (passes : List Pass) : Type 0 where
  pub order : List ℕ
  pub ordered : IsOrder ds order
  pub are : passes ≡ all_passes ds (starts ds) (map invocations_of (actions ds)) order

-- the number behind the parameters of an action, if a declaration is one
abbrev pub IsBegun : List ℕ → List ℕ → ℕ → Option Action → ℕ → Type 0
IsBegun old new first None next = (new ≡ old) × (next ≡ first)
IsBegun old new first (Some a) next = (new ≡ old ++ first ∷ []) × (next ≡ first + length a.parameters)
