-- The rules that a line is judged by (this project's own). Each is a test of the line and of what was
-- read before it.
use Rattle.std.specs.Prelude.{ℕ, ◌+◌, Bool, true, false, not, ◌||◌, ◌==◌, nat_lt, nat_le, if◌then◌else◌, List, [], ◌∷◌, ◌++◌, map, take, length, position, slice_get, Option, Some, None, is_none, unwrap_or, Result, Ok, Err}
use Rattle.std.specs.Option.{option_map_or, option_and_then}
use Rattle.std.specs.List.{list_any, filter_map}
use Rattle.std.specs.Str.{bytes_eq}
use Rattle.state_store.specs.declared.shapes.Shape.{Shape}
use Rattle.state_store.specs.declared.shapes.Shape.TheVariants.{Counter, Direct, Register, Meter}
use Rattle.state_store.specs.declared.ports.Session.{Session}
use Rattle.state_store.specs.Ports.{greatest_port, greatest_session}
use Rattle.match_core.specs.declared.signatures.KeySpec.{KeySpec}
use Rattle.match_core.specs.declared.signatures.ActionSig.{ActionSig}
use Rattle.match_core.specs.declared.signatures.TableSig.{TableSig}
use Rattle.match_core.specs.declared.signatures.ObjectSig.{ObjectSig}
use Rattle.match_core.specs.declared.signatures.Signature.{Signature}
use Rattle.match_core.specs.declared.entries.Entry.{Entry}
use Rattle.match_core.specs.declared.entries.TableFill.{TableFill}
use Rattle.match_core.specs.Matching.{by_priority}
use Rattle.match_core.specs.Fits.{action_at}
use Rattle.match_core.specs.Identity.{counted_all, identity}
use Rattle.entries_file.specs.declared.calls.Call.{Call}
use Rattle.text_lines.specs.Words.{Word}
use Rattle.entries_file.specs.Numbers.{number_of, number_up_to, fits}
use Rattle.entries_file.specs.KeyForms.{key_of, key_fits, keys_of}
use Rattle.entries_file.specs.Filling.{table_at}

-- names

-- this name stands there
abbrev pub has_name : Word → Option Word → Bool
has_name name None = false
has_name name (Some other) = bytes_eq other name

-- the number of the first that has the name
abbrev pub place_of : List (Option Word) → Word → Option ℕ
place_of names name = position (has_name name) names

-- the name of a table, of an action, and of an object that is a meter
abbrev pub table_name : TableSig → Option Word
table_name table = Some table.name

abbrev pub action_name : ActionSig → Option Word
action_name action = Some action.name

-- of the objects, the meters alone have a name here
abbrev pub named_meter : Word → Shape → Option Word
named_meter name (Counter kind cells) = None
named_meter name (Direct kind cells) = None
named_meter name (Register width cells) = None
named_meter name (Meter cells) = Some name

abbrev pub meter_name : ObjectSig → Option Word
meter_name object = named_meter object.name object.shape

-- the number of the meter of a name
abbrev pub meter_of : Signature → Word → Option ℕ
meter_of g name = place_of (map meter_name g.objects) name

-- E2: the program has no table of that name. E3: the table lists no action of that name.
abbrev pub listed_call : ℕ → Option ℕ → Result Call ℕ
listed_call table None = Err 3
listed_call table (Some action) = Ok (record { table = table; action = action })

-- the call of an action of a table, where there is such a table
abbrev pub table_call : Signature → Word → Option ℕ → Result Call ℕ
table_call g action None = Err 2
table_call g action (Some table) = listed_call table (place_of (map action_name (table_at g table).actions) action)

-- the call that a line names: the number of its table, and that of its action in the table
abbrev pub call_of : Signature → Word → Word → Result Call ℕ
call_of g table action = table_call g action (place_of (map table_name g.tables) table)

-- E4: the number of keys isn't that of the table, or the table has no keys
abbrev pub has_wrong_keys : List KeySpec → List Word → Bool
has_wrong_keys specs words = length specs == 0 || not (length words == length specs)

-- E5: a key isn't of a form of its kind, or its low end is over its high end
abbrev pub has_misformed : List KeySpec → List Word → Bool
has_misformed [] words = false
has_misformed (spec ∷ specs) [] = false
has_misformed (spec ∷ specs) (word ∷ words) = is_none (key_of spec word) || has_misformed specs words

-- E6: a number of a key doesn't fit the key's width, or a prefix is longer than it
abbrev pub is_wide_key : KeySpec → Word → Bool
is_wide_key spec word = option_map_or (λ key. not (key_fits spec.width key)) (key_of spec word) false

-- a key is too wide
abbrev pub has_wide_key : List KeySpec → List Word → Bool
has_wide_key [] words = false
has_wide_key (spec ∷ specs) [] = false
has_wide_key (spec ∷ specs) (word ∷ words) = is_wide_key spec word || has_wide_key specs words

-- E6: one of as many words as the action has arguments is a number that doesn't fit its width
abbrev pub is_wide_argument : ℕ → Word → Bool
is_wide_argument width word = option_map_or (λ number. not (fits width number)) (number_of word) false

-- an argument is too wide
abbrev pub has_wide_argument : List ℕ → List Word → Bool
has_wide_argument [] words = false
has_wide_argument (width ∷ widths) [] = false
has_wide_argument (width ∷ widths) (word ∷ words) = is_wide_argument width word || has_wide_argument widths words

-- a word is no number
abbrev pub is_no_number : Word → Bool
is_no_number word = is_none (number_of word)

-- E7: there are fewer words than arguments, or more than these and so many others, or an argument is no
-- number
abbrev pub has_wrong_arguments : List ℕ → ℕ → List Word → Bool
has_wrong_arguments widths others words =
    nat_lt (length words) (length widths)
    || (nat_lt (length widths + others) (length words) || list_any is_no_number (take (length widths) words))

-- one word may stand behind the arguments where the table has a ternary or a range key: the priority
abbrev pub priority_words : List KeySpec → ℕ
priority_words specs = if by_priority specs then 1 else 0

-- the greatest priority: 2 ^ 31 - 1
abbrev pub greatest_priority : ℕ
greatest_priority = 2147483647

-- the priority behind the arguments, where the table has priorities; it is 0 where it has none
abbrev pub priority_of : List KeySpec → ℕ → List Word → Option ℕ
priority_of specs arguments words =
    if by_priority specs then option_and_then (number_up_to greatest_priority) (slice_get words arguments)
    else Some 0

-- an entry of the table has this priority and these keys
abbrev pub has_same : List KeySpec → TableFill → List ℕ → Bool
has_same specs fill same = list_any (λ (entry : Entry). bytes_eq (identity specs entry) same) fill.entries

-- E8: an entry of the table has the same priority and the same keys, where a value counts on its mask or
-- its prefix
abbrev pub stands_twice : List KeySpec → TableFill → List Word → Option ℕ → Bool
stands_twice specs fill keys None = false
stands_twice specs fill keys (Some priority) = has_same specs fill (priority ∷ counted_all specs (keys_of specs keys))

-- E9: the priority is missing, or isn't a number in its range
abbrev pub lacks_priority : Option ℕ → Bool
lacks_priority priority = is_none priority

-- E12: the table has as many entries as its size already
abbrev pub is_full : TableSig → TableFill → Bool
is_full table fill = nat_le table.size (length fill.entries)

-- a session with this number was given before
abbrev pub has_session : List Session → ℕ → Bool
has_session sessions number = list_any (λ (session : Session). session.number == number) sessions

-- E10: the session isn't a number up to the greatest or was given before, or its port isn't one up to the greatest
abbrev pub is_wrong_session : List Session → Word → Word → Bool
is_wrong_session sessions session port =
    option_map_or (has_session sessions) (number_up_to greatest_session session) true
    || is_none (number_up_to greatest_port port)

-- E11: the program has no meter of that name, or a colour isn't 0, 1 or 2
abbrev pub is_no_colour : Word → Bool
is_no_colour word = is_none (number_up_to 2 word)

-- rules by their numbers, each with whether it is broken
abbrev pub Tests : Type 0
Tests = List (ℕ × Bool)

-- the first that is broken
abbrev pub least_broken : Tests → Option ℕ
least_broken [] = None
least_broken (test ∷ tests) = if test.1 then Some test.0 else least_broken tests

-- the rules of its keys, and those of its arguments, behind which so many other words may stand
abbrev pub key_tests : List KeySpec → List Word → Tests
key_tests specs keys = (5, has_misformed specs keys) ∷ (6, has_wide_key specs keys) ∷ []

abbrev pub argument_tests : List ℕ → ℕ → List Word → Tests
argument_tests widths others words =
    (6, has_wide_argument widths words) ∷ (7, has_wrong_arguments widths others words) ∷ []

-- the rules of a `table_add` whose table and action are known, in order
abbrev pub entry_tests : TableSig → List ℕ → TableFill → List Word → List Word → Tests
entry_tests table widths fill keys behind =
    (4, has_wrong_keys table.keys keys)
    ∷ key_tests table.keys keys
    ++ argument_tests widths (priority_words table.keys) behind
    ++ (8, stands_twice table.keys fill keys (priority_of table.keys (length widths) behind))
    ∷ (9, lacks_priority (priority_of table.keys (length widths) behind))
    ∷ (12, is_full table fill)
    ∷ []

-- the rules of a `table_set_default` whose table and action are known
abbrev pub default_tests : List ℕ → List Word → Tests
default_tests widths arguments = argument_tests widths 0 arguments

abbrev pub session_tests : List Session → Word → Word → Tests
session_tests sessions session port = (10, is_wrong_session sessions session port) ∷ []

abbrev pub colours_tests : Option ℕ → List Word → Tests
colours_tests meter colours = (11, is_none meter) ∷ (11, list_any is_no_colour colours) ∷ []

-- what an unbroken line gives

abbrev pub arguments_of : List ℕ → List Word → List ℕ
arguments_of widths words = filter_map number_of (take (length widths) words)

abbrev pub entry_of : List KeySpec → List ℕ → ℕ → List Word → List Word → Entry
entry_of specs widths action keys behind =
    record {
      keys = keys_of specs keys;
      priority = unwrap_or (priority_of specs (length widths) behind) 0;
      action = action;
      arguments = arguments_of widths behind;
    }

abbrev pub widths_of : Signature → Call → List ℕ
widths_of g call = (action_at (table_at g call.table) call.action).widths
