-- Which rows are ready for the cases of a program's select, whose keys are of these kinds, where the states of the parser have
-- these names (P4_16 1.2, "Select expressions", "Transition statements").
use Rattle.std.specs.Prelude.{ℕ, bit_and, List, [], ◌∷◌, length, map, unwrap_or}
use Rattle.name_numbers.specs.Names.{find_name}
use Rattle.p416_syntax.specs.declared.parsers.Target.{Target}
use Rattle.p416_syntax.specs.declared.parsers.Target.TheVariants as target
use Rattle.p416_syntax.specs.declared.parsers.Simple.{Simple}
use Rattle.p416_syntax.specs.declared.parsers.Simple.TheVariants as simple
use Rattle.p416_syntax.specs.declared.parsers.Keyset.{Keyset}
use Rattle.p416_syntax.specs.declared.parsers.Keyset.TheVariants as keyset
use Rattle.p416_syntax.specs.declared.parsers.SelectCase.{SelectCase}
use Rattle.p416_syntax.specs.Names.{Name}
use Rattle.p416_syntax.specs.Kinds.{Kind}
use Rattle.v1_core.specs.Values.{Value, a_number, a_truth, number_in}
use Rattle.v1_core.specs.Parsing.{keyset_value}
use Rattle.v1_ready_selects.specs.declared.rows.Next.{Next}
use Rattle.v1_ready_selects.specs.declared.rows.Next.TheVariants as next
use Rattle.v1_ready_selects.specs.declared.rows.KeyTest.{KeyTest}
use Rattle.v1_ready_selects.specs.declared.rows.KeyTest.TheVariants as key_test
use Rattle.v1_ready_selects.specs.declared.rows.CaseTest.{CaseTest}
use Rattle.v1_ready_selects.specs.declared.rows.CaseTest.TheVariants as case_test
use Rattle.v1_ready_selects.specs.declared.rows.CaseRow.{CaseRow}

-- the number of the state with a name among these, which is that of no state where none has it
abbrev pub number_of_state : List Name → Name → ℕ
number_of_state names text = unwrap_or (find_name names text) (length names)

abbrev pub next_for : List Name → Target → Next
next_for names (target.State text) = next.State (number_of_state names text)
next_for names target.Accept = next.End
next_for names target.Reject = next.End

-- what is equal to a value
abbrev pub test_of_value : Value → KeyTest
test_of_value (a_number width n) = key_test.Number n
test_of_value (a_truth holds) = key_test.Truth holds
test_of_value _ = key_test.Never

abbrev pub masked : ℕ → ℕ → KeyTest
masked n mask = key_test.Masked mask (bit_and n mask)

abbrev pub test_of_part : Kind → Simple → KeyTest
test_of_part k simple.Default = key_test.Any
test_of_part k simple.Any = key_test.Any
test_of_part k (simple.Mask v mask) = masked (number_in (keyset_value k v)) (number_in (keyset_value k mask))
test_of_part k (simple.Range low high) =
    key_test.Between (number_in (keyset_value k low)) (number_in (keyset_value k high))
test_of_part k (simple.Value v) = test_of_value (keyset_value k v)

-- a part for which there is no key takes none
abbrev pub tests_of_parts : List Kind → List Simple → List KeyTest
tests_of_parts (k ∷ kinds) (part ∷ parts) = test_of_part k part ∷ tests_of_parts kinds parts
tests_of_parts [] (part ∷ parts) = key_test.Never ∷ tests_of_parts [] parts
tests_of_parts kinds [] = []

abbrev pub test_of_keyset : List Kind → Keyset → CaseTest
test_of_keyset kinds (keyset.Tuple parts) = case_test.Each (tests_of_parts kinds parts)
test_of_keyset kinds (keyset.One simple.Default) = case_test.Any
test_of_keyset kinds (keyset.One simple.Any) = case_test.Any
test_of_keyset kinds (keyset.One part) = case_test.Each (tests_of_parts kinds (part ∷ []))

abbrev pub row_of_case : List Name → List Kind → SelectCase → CaseRow
row_of_case names kinds c = record { test = test_of_keyset kinds c.keyset; next = next_for names c.target }

abbrev pub rows_of_cases : List Name → List Kind → List SelectCase → List CaseRow
rows_of_cases names kinds cases = map (row_of_case names kinds) cases
