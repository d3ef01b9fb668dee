-- C11: a key of kind valid isn't a header or has a mask, a key of another kind isn't a field, a kind is none of
-- exact, ternary, lpm, range and valid, or a table has over 64 keys. C12: a table has two lpm keys. C24: a default
-- action isn't among the table's actions, or has a wrong number of arguments; without parentheses it has none (P4_14
-- 1.0.5, "Table Declarations"; the limit, and that a table has one lpm key, are this project's own).
use Rattle.std.specs.Prelude.{ℕ, Bool, true, false, not, ◌||◌, nat_lt, nat_eq, is_some, if◌then◌else◌, List, [], ◌∷◌, length, filter_map, slice_get, count_by, Option, Some, None, codes}
use Rattle.std.specs.List.{list_any}
use Rattle.std.specs.Option.{option_map_or}
use Rattle.std.specs.Str.{bytes_eq}
use Rattle.p414_syntax.specs.declared.parts.Number.{Number}
use Rattle.p414_syntax.specs.declared.actions.Action.{Action}
use Rattle.p414_syntax.specs.declared.tables.ReadKey.{ReadKey}
use Rattle.p414_syntax.specs.declared.tables.ReadKey.TheVariants as read_key
use Rattle.p414_syntax.specs.declared.tables.Read.{Read}
use Rattle.p414_syntax.specs.declared.tables.Table.{Table}
use Rattle.p414_syntax.specs.declared.syntax.Decl.{Decl}
use Rattle.p414_syntax.specs.declared.syntax.Decl.TheVariants as decl
use Rattle.p414_syntax.specs.declared.syntax.Sort.TheVariants as sort
use Rattle.p414_syntax.specs.Attributes.{reads_of, actions_of, default_action_of, default_arguments_of}
use Rattle.p414_syntax.specs.Names.{Name, has_name, number_of}
use Rattle.p414_syntax.specs.Fields.{is_header}
use Rattle.p414_syntax.specs.Arguments.{action_of}

-- the tables of a program, in order

abbrev pub table_in : Decl → Option Table
table_in (decl.Table x) = Some x
table_in _ = None

abbrev pub tables : List Decl → List Table
tables ds = filter_map table_in ds

-- the number of the table with this name
abbrev pub table_number : List Decl → Name → Option ℕ
table_number ds name = number_of sort.Table ds name

-- the names of the actions that a table lists, and of those that the table with this number lists
abbrev pub listed_in : Table → List Name
listed_in t = actions_of t.attributes

abbrev pub listed_by : List Decl → ℕ → List Name
listed_by ds n = option_map_or listed_in (slice_get (tables ds) n) []

-- keys

-- the kinds by which a field is matched
abbrev pub field_kinds : List Name
field_kinds = codes "exact" ∷ codes "ternary" ∷ codes "lpm" ∷ codes "range" ∷ []

abbrev pub is_header_key : List Decl → ReadKey → Bool
is_header_key ds (read_key.Instance i) = is_header ds i.name
is_header_key ds (read_key.Field r) = false

abbrev pub is_field_key : ReadKey → Bool
is_field_key (read_key.Instance i) = false
is_field_key (read_key.Field r) = true

abbrev pub is_bad_key : List Decl → Read → Bool
is_bad_key ds r =
    if bytes_eq r.kind (codes "valid") then not (is_header_key ds r.key) || is_some r.mask
    else not (is_field_key r.key) || not (has_name field_kinds r.kind)

abbrev pub has_bad_keys : List Decl → Table → Bool
has_bad_keys ds t = list_any (is_bad_key ds) (reads_of t.attributes) || nat_lt 64 (length (reads_of t.attributes))

abbrev pub has_bad_key : List Decl → Bool
has_bad_key ds = list_any (has_bad_keys ds) (tables ds)

abbrev pub is_lpm_key : Read → Bool
is_lpm_key r = bytes_eq r.kind (codes "lpm")

abbrev pub has_two_prefixes : Table → Bool
has_two_prefixes t = nat_lt 1 (count_by is_lpm_key (reads_of t.attributes))

abbrev pub has_two_lpm_keys : List Decl → Bool
has_two_lpm_keys ds = list_any has_two_prefixes (tables ds)

-- default actions

abbrev pub argument_count : Option (List Number) → ℕ
argument_count (Some given) = length given
argument_count None = 0

-- an action has another number of parameters
abbrev pub takes_other_count : ℕ → Action → Bool
takes_other_count given a = not (nat_eq (length a.parameters) given)

abbrev pub is_bad_default : List Decl → Table → Name → Bool
is_bad_default ds t name =
    not (has_name (listed_in t) name)
    || option_map_or (takes_other_count (argument_count (default_arguments_of t.attributes))) (action_of ds name) false

abbrev pub defaults_badly : List Decl → Table → Bool
defaults_badly ds t = option_map_or (is_bad_default ds t) (default_action_of t.attributes) false

abbrev pub has_bad_default : List Decl → Bool
has_bad_default ds = list_any (defaults_badly ds) (tables ds)
