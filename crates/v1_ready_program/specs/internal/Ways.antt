-- Ways as a list of steps, each over ways before it.
use Rattle.std.specs.Prelude.{ℕ, ◌<◌, List}
use Rattle.node_lists.specs.Trees.{tree_at}
use Rattle.v1_ready_forms.specs.Ways.{Way, its_value, its_validity, through_member, through_element, through_told}
use Rattle.v1_ready_program.specs.declared.ways.Step.{Step}
use Rattle.v1_ready_program.specs.declared.ways.Step.TheVariants as step

abbrev pub way_at : List Way → ℕ → Way
way_at = tree_at its_value

abbrev pub way_of : List Way → Step → Way
way_of ways step.Value = its_value
way_of ways step.Validity = its_validity
way_of ways (step.Member word w) = through_member word.now (way_at ways w)
way_of ways (step.Element number w) = through_element number (way_at ways w)
way_of ways (step.Told which w) = through_told which (way_at ways w)

-- the way behind a step stands before it
abbrev pub IsStep : ℕ → Step → Type 0
IsStep n step.Value = Unit {0}
IsStep n step.Validity = Unit {0}
IsStep n (step.Member word w) = w < n
IsStep n (step.Element number w) = w < n
IsStep n (step.Told which w) = w < n
