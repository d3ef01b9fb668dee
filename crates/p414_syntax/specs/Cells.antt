-- C23: a counter that isn't direct, a meter or a register has no `instance_count` or one outside 1 to 1,048,576, or
-- all of them have over 4,194,304 cells together; a table has two direct counters (P4_14 1.0.5, "Counters",
-- "Meters", "Registers"; the limits are this project's own). Meters and registers are judged also where they are
-- direct; the `instance_count` of a direct counter isn't looked at.
use Rattle.std.specs.Prelude.{ℕ, Bool, true, ◌||◌, nat_lt, is_some, if◌then◌else◌, List, [], ◌∷◌, flat_map, option_to_list, sum_by, Option, Some, None}
use Rattle.std.specs.List.{list_any}
use Rattle.std.specs.Option.{option_map_or}
use Rattle.p414_syntax.specs.declared.lexeme.Literal.{Literal}
use Rattle.p414_syntax.specs.declared.objects.StateAttr.{StateAttr}
use Rattle.p414_syntax.specs.declared.syntax.Decl.{Decl}
use Rattle.p414_syntax.specs.declared.syntax.Decl.TheVariants as decl
use Rattle.p414_syntax.specs.Attributes.{direct_table_of, instance_count_of}
use Rattle.p414_syntax.specs.Names.{Name, repeats}

-- the numbers of cells that counters, meters and registers declare, each of which has to be there

abbrev pub cells_of_counter : List StateAttr → List (Option Literal)
cells_of_counter attributes =
    if is_some (direct_table_of attributes) then [] else instance_count_of attributes ∷ []

abbrev pub cells_in : Decl → List (Option Literal)
cells_in (decl.Counter x) = cells_of_counter x.attributes
cells_in (decl.Meter x) = instance_count_of x.attributes ∷ []
cells_in (decl.Register x) = instance_count_of x.attributes ∷ []
cells_in _ = []

abbrev pub cells : List Decl → List (Option Literal)
cells ds = flat_map cells_in ds

abbrev pub is_bad_cell_count : Option Literal → Bool
is_bad_cell_count None = true
is_bad_cell_count (Some n) = nat_lt n.value 1 || nat_lt 1048576 n.value

abbrev pub literal_value : Literal → ℕ
literal_value n = n.value

abbrev pub cell_count : Option Literal → ℕ
cell_count count = option_map_or literal_value count 0

-- the tables that direct counters belong to
abbrev pub direct_in : Decl → List Name
direct_in (decl.Counter x) = option_to_list (direct_table_of x.attributes)
direct_in _ = []

abbrev pub has_bad_cells : List Decl → Bool
has_bad_cells ds =
    list_any is_bad_cell_count (cells ds)
    || (nat_lt 4194304 (sum_by cell_count (cells ds)) || repeats (flat_map direct_in ds))
