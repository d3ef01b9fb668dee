-- The copies of actions, by the names that came before: those of each pipeline, and those of the table (this project's
-- own; P4_14 1.0.5, "Actions", "Table Declarations", "Counters"; `v1model.p4`, `direct_counter`).
use Rattle.std.specs.Prelude.{◌≡◌, ℕ, ◌+◌, ◌<◌, Bool, false, not, ◌&&◌, if◌then◌else◌, List, [], ◌∷◌, ◌++◌, length, slice_index_or, Option, Some, None, unwrap_or}
use Rattle.p414_syntax.specs.declared.syntax.Decl.{Decl}
use Rattle.p414_syntax.specs.declared.syntax.Decl.TheVariants as decl
use Rattle.p414_syntax.specs.declared.syntax.Sort.TheVariants as sort
use Rattle.p414_syntax.specs.declared.tables.Table.{Table}
use Rattle.p414_syntax.specs.Attributes.{direct_table_of}
use Rattle.p414_syntax.specs.Names.{Name, has_name, number_of}
use Rattle.p414_syntax.specs.Tables.{tables, listed_in}
use Rattle.lower_laws_names.specs.Reaches.{outer_name}
use Rattle.lower_laws_names.specs.Copies.{Listing, lines_from, Copy, plain_copy, counted_copy, one_if}
use Rattle.lower_names.specs.Picked.{with_name, picked_from}
use Rattle.lower_copies.specs.declared.copies.ActionCopy.{ActionCopy}
use Rattle.lower_copies.specs.declared.copies.Lister.{Lister}

-- a copy as it is handed on, with the number and the new name of its action
abbrev pub action_copy : List Decl → Copy → ActionCopy
action_copy ds c = record {
  action = unwrap_or (number_of sort.Action ds c.action) 0;
  egress = c.in_egress;
  table = c.table;
  name = outer_name ds c.outer;
}

-- the flags tell which tables stand in egress
abbrev pub StandsBy : List Decl → (ℕ → Bool) → List Bool → Type 0
StandsBy ds egress flags = (table : ℕ) → table < length (tables ds) → slice_index_or flags table false ≡ egress table

-- a line, and the lines of a table, of which the first has this number
abbrev pub listing_of : Lister → ℕ → Name → Listing
listing_of at number name =
    record { table = at.table; number = number; action = name; is_counted = at.is_counted; in_egress = at.in_egress }

-- the lines of a table, of which the first has this number
abbrev pub lines_of : Lister → ℕ → List Name → List Listing
lines_of at first names = lines_from at.is_counted at.in_egress at.table first names

-- the tables whose entries are counted
abbrev pub direct_in : Decl → Option Name
direct_in (decl.Counter x) = direct_table_of x.attributes
direct_in _ = None

-- the tables whose entries are counted, each once, behind those that were found
abbrev pub directs_from : List Name → List Decl → List Name
directs_from found ds = picked_from direct_in found ds

-- the copies of a line, and of lines of one table
abbrev pub line_copies : List Name → List Name → Listing → List Copy
line_copies pipeline own l =
    one_if (not (has_name pipeline l.action)) (plain_copy l)
    ++ one_if (l.is_counted && not (has_name own l.action)) (counted_copy l)

-- the copies of the lines of a table, by the names that its pipeline and it had before
abbrev pub table_copies : List Name → List Name → List Listing → List Copy
table_copies pipeline own [] = []
table_copies pipeline own (l ∷ ls) =
    line_copies pipeline own l ++ table_copies (with_name pipeline l.action) (with_name own l.action) ls

-- the names behind these lines
abbrev pub names_behind : List Name → List Listing → List Name
names_behind names [] = names
names_behind names (l ∷ ls) = names_behind (with_name names l.action) ls

-- the lines of a table, by its number and that of its first line
abbrev pub lines_at : List Name → List Bool → ℕ → ℕ → Table → List Listing
lines_at counted flags table number t =
    lines_from (has_name counted t.name) (slice_index_or flags table false) table number (listed_in t)

-- the copies of these tables, of which the first has this number, by the names of ingress and of egress
abbrev pub copies_from : List Name → List Bool → List Name → List Name → ℕ → ℕ → List Table → List Copy
copies_from counted flags ingress egress table number [] = []
copies_from counted flags ingress egress table number (t ∷ ts) =
    table_copies (if slice_index_or flags table false then egress else ingress) [] (lines_at counted flags table number t)
    ++ copies_from counted flags
    (if slice_index_or flags table false then ingress else names_behind ingress (lines_at counted flags table number t))
    (if slice_index_or flags table false then names_behind egress (lines_at counted flags table number t) else egress)
    (table + 1) (number + length (listed_in t)) ts
