-- What a field list keeps of metadata, by the numbers in its slots (this project's own).
use Rattle.std.specs.Prelude.{ℕ, ◌+◌, if◌then◌else◌, List, [], ◌∷◌}
use Rattle.v1_core.specs.Cells.{Cells, slot_value}
use Rattle.v1_pass_slots.specs.Lists.{is_listed}

-- what a list keeps of the slots from one on, which are in these lists: 0 in place of the others
abbrev pub kept_from : Cells → ℕ → List (List ℕ) → ℕ → List ℕ
kept_from c slot [] list = []
kept_from c slot (lists ∷ more) list =
    (if is_listed list lists then slot_value c slot else 0) ∷ kept_from c (slot + 1) more list
