-- What is gathered of a program before its signature is put together.
use Rattle.std.specs.Prelude.{◌≡◌, ℕ, List, length, map, filter_map, fold, slice_get, Option, None, option_and_then, option_map, unwrap_or}
use Rattle.std.specs.BTreeSet.{insert_key}
use Rattle.std.specs.Cmp.Lexicographic.{slice_cmp}
use Rattle.std.specs.Option.{option_map_or}
use Rattle.std.specs.Ordering.{nat_cmp}
use Rattle.state_store.specs.declared.shapes.Shape.{Shape}
use Rattle.state_store.specs.declared.shapes.Shape.TheVariants as shape
use Rattle.p414_syntax.specs.declared.syntax.Decl.{Decl}
use Rattle.p414_syntax.specs.declared.syntax.Decl.TheVariants as decl
use Rattle.p414_syntax.specs.declared.syntax.Sort.TheVariants as sort
use Rattle.p414_syntax.specs.declared.tables.Table.{Table}
use Rattle.p414_syntax.specs.Attributes.{direct_table_of}
use Rattle.p414_syntax.specs.References.{referred}
use Rattle.p414_syntax.specs.Names.{Name, declaration_of, find_name, names_in}
use Rattle.p414_syntax.specs.Tables.{table_in}
use Rattle.p414_sem.specs.Operations.{in_order}
use Rattle.p414_sem.specs.Signatures.{shape_in}
use Rattle.p414_signature.specs.declared.directs.Objects.{Objects}

-- a name is put at its place among names in order, unless it is there; and so are these names one after another

abbrev pub put_in_order : List Name → Name → List Name
put_in_order names name = insert_key (slice_cmp nat_cmp) names name

abbrev pub put_all : List Name → List Name → List Name
put_all names more = fold put_in_order names more

-- the counters that count the entries of tables: their tables, and their names, both in the order of the text

abbrev pub counted_table : Decl → Option Name
counted_table (decl.Counter x) = direct_table_of x.attributes
counted_table _ = None

abbrev pub named_by : Name → Name → Name
named_by name table = name

abbrev pub counting_name : Decl → Option Name
counting_name (decl.Counter x) = option_map (named_by x.name) (direct_table_of x.attributes)
counting_name _ = None

abbrev pub counting_tables : List Decl → List Name
counting_tables ds = filter_map counted_table ds

abbrev pub counting_names : List Decl → List Name
counting_names ds = filter_map counting_name ds

-- the number of a name among these, or how many there are
abbrev pub number_in : List Name → Name → ℕ
number_in names name = unwrap_or (find_name names name) (length names)

-- these are the objects of the program
pub record AreObjects (ds : List Decl) (o : Objects) : Type 0 where
  pub numbers : o.numbers ≡ in_order (names_in sort.Object ds)
  pub tables : o.tables ≡ counting_tables ds
  pub counters : map referred o.counters.items ≡ counting_names ds

-- the number of the counter that counts the entries of a table
abbrev pub direct_in : Objects → Name → Option ℕ
direct_in o table =
    option_map (number_in o.numbers) (option_and_then (slice_get (map referred o.counters.items)) (find_name o.tables table))

-- the shape of the object with a name
abbrev pub named_shape : List Decl → Name → Shape
named_shape ds name = option_map_or shape_in (declaration_of sort.Object ds name) (shape.Meter 0)

-- the table that is declared by a name
abbrev pub declared_table : List Decl → Name → Option Table
declared_table ds name = option_and_then table_in (declaration_of sort.Table ds name)
