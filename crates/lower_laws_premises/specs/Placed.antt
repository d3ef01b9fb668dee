-- In which pipeline an action stands: a table of that pipeline lists it. A table that no pipeline applies counts as one
-- of ingress (this project's own; P4_14 1.0.5, "Table Declarations", "Packet Processing and Control Flow";
-- `v1model.p4`, `V1Switch`).
use Rattle.std.specs.Prelude.{ℕ, Bool, true, false, List, [], ◌∷◌, filter_map, Contains}
use Rattle.p414_syntax.specs.declared.syntax.Decl.{Decl}
use Rattle.p414_syntax.specs.Arguments.{action_number}
use Rattle.p414_syntax.specs.ControlExpansion.{egress}
use Rattle.p414_syntax.specs.Pipelines.{IsApplied, CountsAsIngress}
use Rattle.p414_syntax.specs.Tables.{listed_by}

-- an action stands in egress, or in ingress: a table of it lists the action
abbrev pub StandsIn : List Decl → Bool → ℕ → Type 0
StandsIn ds true action = (table : ℕ) × IsApplied ds egress table × Contains (filter_map (action_number ds) (listed_by ds table)) action
StandsIn ds false action = (table : ℕ) × CountsAsIngress ds table × Contains (filter_map (action_number ds) (listed_by ds table)) action

-- the place of the pipeline's block in `main`
abbrev pub block_place : Bool → List ℕ
block_place true = 3 ∷ []
block_place false = 2 ∷ []
