-- The controls of a program as a graph, and what is counted of their statements.
use Rattle.std.specs.Prelude.{ℕ, ◌+◌, min, slice_index, List, map, sum_by}
use Rattle.std.specs.Option.{option_map_or}
use Rattle.p414_syntax.specs.declared.syntax.Decl.{Decl}
use Rattle.p414_syntax.specs.Subtrees.{subtrees}
use Rattle.p414_syntax.specs.Views.{ControlTree}
use Rattle.p414_syntax.specs.Names.{Name}
use Rattle.p414_syntax.specs.ControlExpansion.{controls, control_number, calls_in, ingress, egress}
use Rattle.p414_syntax.specs.Controls.{own_count}

-- the numbers of the controls that each control calls, in order
abbrev pub control_graph : List Decl → List (List ℕ)
control_graph ds = map (calls_in ds) (controls ds)

-- what the statements of a control count together, but at most the limit
abbrev pub capped_count : ℕ → ControlTree → ℕ
capped_count limit c = min limit (sum_by own_count (subtrees c.body))

abbrev pub own_counts : ℕ → List Decl → List ℕ
own_counts limit ds = map (capped_count limit) (controls ds)

-- the size of a pipeline, given that of each control; 0 where there is none, and that of both together
abbrev pub pipeline_size : List Decl → List ℕ → Name → ℕ
pipeline_size ds sizes name = option_map_or (slice_index sizes) (control_number ds name) 0

abbrev pub pipelines_size : List Decl → List ℕ → ℕ
pipelines_size ds sizes = pipeline_size ds sizes ingress + pipeline_size ds sizes egress
