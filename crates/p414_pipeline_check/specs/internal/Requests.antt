-- Which actions come to requests that are made in one pipeline alone, and which tables list such actions.
use Rattle.std.specs.Prelude.{◌≡◌, ℕ, ◌<◌, ◌↔◌, Bool, true, false, not, ◌&&◌, ◌||◌, cond, is_none, nat_lt, List, length, map, slice_index, slice_index_or}
use Rattle.std.specs.Bool.{MatchBool}
use Rattle.std.specs.List.{list_any}
use Rattle.std.specs.Option.{option_map_or}
use Rattle.p414_syntax.specs.declared.tables.Table.{Table}
use Rattle.p414_syntax.specs.declared.syntax.Decl.{Decl}
use Rattle.p414_syntax.specs.Names.{Name}
use Rattle.p414_syntax.specs.Arguments.{Invocation, invocations_of, actions, action_number}
use Rattle.p414_syntax.specs.ActionExpansion.{called_in}
use Rattle.p414_syntax.specs.Tables.{tables, listed_in}
use Rattle.p414_syntax.specs.Pipelines.{ingress_requests, egress_requests, is_call_of, ListsRequest}
use Rattle.p414_pipeline_check.specs.declared.requests.Kind.{Kind}
use Rattle.p414_pipeline_check.specs.declared.requests.Kind.TheVariants.{OfIngress, OfEgress}

-- the primitives that make the requests of a pipeline
abbrev pub primitives_of : Kind → List Name
primitives_of OfIngress = ingress_requests
primitives_of OfEgress = egress_requests

-- a call of one of these primitives, which isn't one of an action
abbrev pub is_request : List Decl → List Name → Invocation → Bool
is_request ds primitives i = is_none (action_number ds i.callee) && is_call_of primitives i

-- 1 for such a call, and else 0
abbrev pub request_weight : List Decl → List Name → Invocation → ℕ
request_weight ds primitives i = cond (is_request ds primitives i) 1 0

-- 1 where there is one among these calls, and else 0
abbrev pub any_request : List Decl → List Name → List Invocation → ℕ
any_request ds primitives calls = cond (list_any (is_request ds primitives) calls) 1 0

-- the same of the calls of each action
abbrev pub own_requests : List Decl → List Name → List (List Invocation) → List ℕ
own_requests ds primitives calls = map (any_request ds primitives) calls

-- the calls of all actions
abbrev pub all_calls : List Decl → List (List Invocation)
all_calls ds = map invocations_of (actions ds)

-- the actions that each action calls
abbrev pub action_graph : List Decl → List (List ℕ)
action_graph ds = map (called_in ds) (actions ds)

-- a name is that of an action that comes to a request, where these are the sizes of the actions
abbrev pub names_request : List Decl → List ℕ → Name → Bool
names_request ds sizes name = option_map_or (λ n. nat_lt 0 (slice_index sizes n)) (action_number ds name) false

-- a table lists such an action
abbrev pub lists_request : List Decl → List ℕ → Table → Bool
lists_request ds sizes t = list_any (names_request ds sizes) (listed_in t)

abbrev pub tables_with_requests : List Decl → List ℕ → List Bool
tables_with_requests ds sizes = map (lists_request ds sizes) (tables ds)

-- these say of each table whether it lists an action that comes to one of these primitives
pub record AreListed (ds : List Decl) (primitives : List Name) (listed : List Bool) : Type 0 where
  pub each : length listed ≡ length (tables ds)
  pub exact : (t : ℕ) → t < length (tables ds) → (slice_index_or listed t false ≡ true) ↔ ListsRequest ds t primitives

-- what is known of each table: which pipelines apply it, and of which pipelines it lists requests
pub record Marks : Type 0 where
  pub ingress : List Bool
  pub egress : List Bool
  pub of_ingress : List Bool
  pub of_egress : List Bool

-- a place is marked
abbrev pub is_marked : List Bool → ℕ → Bool
is_marked marks k = slice_index_or marks k false

-- a table lists a request of the pipeline that it isn't in
abbrev pub is_misplaced : Marks → ℕ → Bool
is_misplaced m k =
    is_marked m.egress k && is_marked m.of_ingress k || (is_marked m.ingress k || not (is_marked m.egress k)) && is_marked m.of_egress k

abbrev pub IsSomeMisplaced : Bool → Marks → Type 0
IsSomeMisplaced some m =
    MatchBool some ((k : ℕ) × (k < length m.ingress) × (is_misplaced m k ≡ true)) ((k : ℕ) → k < length m.ingress → is_misplaced m k ≡ true → ⊥)
