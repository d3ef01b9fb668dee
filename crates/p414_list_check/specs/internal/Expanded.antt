-- The field lists of a program as a graph, and what is counted of their items.
use Rattle.std.specs.Prelude.{ℕ, ◌+◌, min, List, [], ◌∷◌, map, flat_map, sum_by, slice_index, Option, Some, None}
use Rattle.digraph.specs.Graphs.{with_edge}
use Rattle.p414_syntax.specs.declared.calculations.Calc.{Calc}
use Rattle.p414_syntax.specs.declared.calculations.CalculatedField.{CalculatedField}
use Rattle.p414_syntax.specs.declared.calculations.FieldList.{FieldList}
use Rattle.p414_syntax.specs.declared.calculations.Item.{Item}
use Rattle.p414_syntax.specs.declared.syntax.Decl.{Decl}
use Rattle.p414_syntax.specs.Expansion.{lists, list_number, inner_numbers}
use Rattle.p414_syntax.specs.Lists.{calculated_fields, input_of}

-- the numbers of the lists that stand in a list, and all lists with these
abbrev pub list_row : List Decl → FieldList → List ℕ
list_row ds l = inner_numbers ds l.items

abbrev pub list_graph : List Decl → List (List ℕ)
list_graph ds = map (list_row ds) (lists ds)

-- what is counted of each item of a list together, but at most the limit
abbrev pub capped_count : ℕ → (Item → ℕ) → FieldList → ℕ
capped_count limit own l = min limit (sum_by own l.items)

abbrev pub own_counts : ℕ → (Item → ℕ) → List Decl → List ℕ
own_counts limit own ds = map (capped_count limit own) (lists ds)

-- what the lists with these numbers come to together, but at most the limit; nothing where one has no number
abbrev pub total_from : ℕ → List ℕ → ℕ → List (Option ℕ) → Option ℕ
total_from limit sizes so_far [] = Some so_far
total_from limit sizes so_far (None ∷ rest) = None
total_from limit sizes so_far (Some l ∷ rest) = total_from limit sizes (min limit (so_far + slice_index sizes l)) rest

-- a graph with further edges from its last node
abbrev pub with_edges : List (List ℕ) → List ℕ → List (List ℕ)
with_edges g [] = g
with_edges g (target ∷ targets) = with_edges (with_edge g target) targets

-- the numbers of the lists that an entry's calculation takes, and of those of all entries
abbrev pub entry_numbers : List Decl → Calc → List (Option ℕ)
entry_numbers ds entry = map (list_number ds) (input_of ds entry)

abbrev pub field_numbers : List Decl → CalculatedField → List (Option ℕ)
field_numbers ds c = flat_map (entry_numbers ds) c.entries

abbrev pub input_numbers : List Decl → List (Option ℕ)
input_numbers ds = flat_map (field_numbers ds) (calculated_fields ds)
