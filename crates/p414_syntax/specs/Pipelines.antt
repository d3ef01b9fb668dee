-- C17: a table is applied in both pipelines. C22: resubmit or a clone from ingress to egress is reached from egress,
-- or recirculate or a clone from egress to egress from ingress; a table that neither pipeline applies counts as
-- ingress (P4_14 1.0.5, "Packet Processing and Control Flow", "Primitive Actions"; that a table belongs to one
-- pipeline is this project's own). A pipeline applies what it and the controls that it calls apply, and reaches the
-- primitives that the actions come to which its tables list.
use Rattle.std.specs.Prelude.{◌≡◌, ℕ, ◌⊎◌, Bool, List, [], ◌∷◌, flat_map, filter_map, slice_get, Contains, Some, codes, IsTrue}
use Rattle.std.specs.List.{list_any}
use Rattle.std.specs.Option.{option_map_or}
use Rattle.p414_syntax.specs.declared.syntax.Decl.{Decl}
use Rattle.p414_syntax.specs.Tree.{Stmt, apply, apply_branches}
use Rattle.p414_syntax.specs.Subtrees.{subtrees}
use Rattle.p414_syntax.specs.Views.{ControlTree}
use Rattle.p414_syntax.specs.Names.{Name, has_name}
use Rattle.p414_syntax.specs.Walks.{IsWalk}
use Rattle.p414_syntax.specs.Arguments.{Invocation, action_number}
use Rattle.p414_syntax.specs.ActionExpansion.{ActionExpands}
use Rattle.p414_syntax.specs.Tables.{table_number, listed_by}
use Rattle.p414_syntax.specs.ControlExpansion.{controls, control_number, controls_called_by, ingress, egress}

-- the tables that a control applies by itself, by their numbers, in order

abbrev pub own_table : Stmt → List Name
own_table (apply t) = t ∷ []
own_table (apply_branches t bs) = t ∷ []
own_table _ = []

abbrev pub applied_in : List Decl → ControlTree → List ℕ
applied_in ds c = filter_map (table_number ds) (flat_map own_table (subtrees c.body))

abbrev pub applied_by : List Decl → ℕ → List ℕ
applied_by ds n = option_map_or (applied_in ds) (slice_get (controls ds) n) []

-- a walk by calls of controls that begins in this pipeline
pub record IsPipelineWalk (ds : List Decl) (pipeline : Name) (walk : List ℕ) : Type 0 where
  pub first : ℕ
  pub rest : List ℕ
  pub start : control_number ds pipeline ≡ Some first
  pub begins : walk ≡ first ∷ rest
  pub walks : IsWalk (controls_called_by ds) walk

-- the pipeline, or a control that it calls, through others or directly, applies the table with this number
pub record IsApplied (ds : List Decl) (pipeline : Name) (table : ℕ) : Type 0 where
  pub walk : List ℕ
  pub from_pipeline : IsPipelineWalk ds pipeline walk
  pub applied : Contains (flat_map (applied_by ds) walk) table

-- C17
abbrev pub IsTableShared : List Decl → Type 0
IsTableShared ds = (table : ℕ) × IsApplied ds ingress table × IsApplied ds egress table

-- requests that are made in one pipeline alone

abbrev pub ingress_requests : List Name
ingress_requests = codes "resubmit" ∷ codes "clone_ingress_pkt_to_egress" ∷ codes "clone_i2e" ∷ []

abbrev pub egress_requests : List Name
egress_requests = codes "recirculate" ∷ codes "clone_egress_pkt_to_egress" ∷ codes "clone_e2e" ∷ []

abbrev pub is_call_of : List Name → Invocation → Bool
is_call_of primitives i = has_name primitives i.callee

-- the table with this number lists an action that comes to one of these primitives
pub record ListsRequest (ds : List Decl) (table : ℕ) (primitives : List Name) : Type 0 where
  pub action : ℕ
  pub all : List Invocation
  pub listed : Contains (filter_map (action_number ds) (listed_by ds table)) action
  pub expands : ActionExpands ds action all
  pub called : IsTrue (list_any (is_call_of primitives) all)

-- the table counts as one of ingress: ingress applies it, or neither pipeline does
abbrev pub CountsAsIngress : List Decl → ℕ → Type 0
CountsAsIngress ds table =
    IsApplied ds ingress table ⊎ ((IsApplied ds ingress table → ⊥) × (IsApplied ds egress table → ⊥))

-- C22

abbrev pub RequestsInEgress : List Decl → Type 0
RequestsInEgress ds = (table : ℕ) × IsApplied ds egress table × ListsRequest ds table ingress_requests

abbrev pub RequestsInIngress : List Decl → Type 0
RequestsInIngress ds = (table : ℕ) × CountsAsIngress ds table × ListsRequest ds table egress_requests

abbrev pub HasMisplacedRequest : List Decl → Type 0
HasMisplacedRequest ds = RequestsInEgress ds ⊎ RequestsInIngress ds
