-- Where a transition leads, whose keys are expressions over slots, headers and stacks (P4_16 1.2, "Transition statements",
-- "Select expressions"). Keys are evaluated from left to right, and the first error ends that. Of the cases the first counts
-- that takes them.
use Rattle.std.specs.Prelude.{ℕ, ◌<◌, Bool, true, false, ◌&&◌, ◌==◌, nat_eq, if◌then◌else◌, bit_and, List, [], ◌∷◌, length, map, All}
use Rattle.v1_core.specs.declared.parser_error.ParserError.{ParserError}
use Rattle.v1_core.specs.declared.parser_error.ParserError.TheVariants.{NoMatch}
use Rattle.v1_core.specs.Values.{Value, a_number, a_truth, number_in}
use Rattle.v1_core.specs.Numbers.{is_equal}
use Rattle.v1_core.specs.Parsing.{is_between}
use Rattle.v1_core.specs.Cells.{Cells}
use Rattle.v1_core.specs.Ready.{Ready, Ended, given, failed, ready_value}
use Rattle.v1_core.specs.Nodes.{ready_at}
use Rattle.v1_ready_selects.specs.declared.rows.Next.{Next}
use Rattle.v1_ready_selects.specs.declared.rows.KeyTest.{KeyTest}
use Rattle.v1_ready_selects.specs.declared.rows.KeyTest.TheVariants as key_test
use Rattle.v1_ready_selects.specs.declared.rows.CaseTest.{CaseTest}
use Rattle.v1_ready_selects.specs.declared.rows.CaseTest.TheVariants as case_test
use Rattle.v1_ready_selects.specs.declared.rows.CaseRow.{CaseRow}
use Rattle.v1_ready_selects.specs.declared.rows.ReadyTransition.{ReadyTransition}
use Rattle.v1_ready_selects.specs.declared.rows.ReadyTransition.TheVariants as ready_transition
use Rattle.v1_ready_selects.specs.declared.rows.Led.{Led}
use Rattle.v1_ready_selects.specs.declared.rows.Led.TheVariants.{To, Failed}

-- keys: their values, or the error that ended their evaluation

pub data Keys : Type 0 where
  all_given : (values : List Value) → Keys
  one_failed : (error : ParserError) → Keys

-- a key in front of others
abbrev pub with_key : Ended → Keys → Keys
with_key (failed e) rest = one_failed e
with_key (given v) (one_failed e) = one_failed e
with_key (given v) (all_given values) = all_given (v ∷ values)

-- where these octets aren't parsed
abbrev pub keys_of : Cells → List ℕ → List Ready → Keys
keys_of c left [] = all_given []
keys_of c left (e ∷ es) = with_key (ready_value c left e) (keys_of c left es)

-- cases

-- bits count by their number, whatever their width
abbrev pub bits_with : ℕ → Value
bits_with n = a_number 0 n

abbrev pub takes : KeyTest → Value → Bool
takes key_test.Any v = true
takes key_test.Never v = false
takes (key_test.Number n) v = is_equal v (bits_with n)
takes (key_test.Truth holds) v = is_equal v (a_truth holds)
takes (key_test.Masked mask value) v = bit_and (number_in v) mask == value
takes (key_test.Between low high) v = is_between (number_in v) low high

-- each part takes the key at its place
abbrev pub takes_each : List KeyTest → List Value → Bool
takes_each (t ∷ tests) (v ∷ values) = takes t v && takes_each tests values
takes_each _ _ = true

abbrev pub takes_keys : CaseTest → List Value → Bool
takes_keys case_test.Any values = true
takes_keys (case_test.Each tests) values = nat_eq (length tests) (length values) && takes_each tests values

-- where the first case leads that takes the keys
abbrev pub row_for : List CaseRow → List Value → Led
row_for [] values = Failed NoMatch
row_for (r ∷ rows) values = if takes_keys r.test values then To r.next else row_for rows values

abbrev pub led_by : List CaseRow → Keys → Led
led_by rows (one_failed e) = Failed e
led_by rows (all_given values) = row_for rows values

-- transitions

pub data Transition : Type 0 where
  go : (next : Next) → Transition
  select : (keys : List Ready) (rows : List CaseRow) → Transition

abbrev pub lead : Cells → List ℕ → Transition → Led
lead c left (go next) = To next
lead c left (select keys rows) = led_by rows (keys_of c left keys)

-- that of a row, whose keys are named by their places among expressions
abbrev pub transition_of : List Ready → ReadyTransition → Transition
transition_of es (ready_transition.Go next) = go next
transition_of es (ready_transition.Select keys rows) = select (map (ready_at es) keys) rows

-- the places are those of so many expressions

abbrev pub ArePlaces : ℕ → List ℕ → Type 0
ArePlaces count places = All (λ place. place < count) places

abbrev pub FitsTransition : ℕ → ReadyTransition → Type 0
FitsTransition count (ready_transition.Go next) = Unit {0}
FitsTransition count (ready_transition.Select keys rows) = ArePlaces count keys
