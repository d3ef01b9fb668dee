-- That rows lead where the cases of the program do (P4_16 1.2, "Select expressions").
-- A state is told by its number among those of its parser.
use Rattle.std.specs.Prelude.{◌≡◌, List, map, slice_get, Option, Some, None}
use Rattle.p416_syntax.specs.declared.parsers.Target.{Target}
use Rattle.p416_syntax.specs.declared.parsers.SelectCase.{SelectCase}
use Rattle.p416_syntax.specs.declared.parsers.State.{State}
use Rattle.p416_syntax.specs.Names.{Name}
use Rattle.p416_syntax.specs.Kinds.{Kind}
use Rattle.v1_core.specs.declared.parser_error.ParserError.TheVariants.{NoMatch}
use Rattle.v1_core.specs.Values.{Value}
use Rattle.v1_core.specs.Parsing.{Key, first_match, state_called}
use Rattle.v1_ready_selects.specs.declared.rows.Led.{Led}
use Rattle.v1_ready_selects.specs.declared.rows.Led.TheVariants.{To, Failed}
use Rattle.v1_ready_selects.specs.Selects.{row_for}
use Rattle.v1_ready_selects.specs.Rows.{number_of_state, next_for, rows_of_cases}

abbrev pub key_kinds : List Key → List Kind
key_kinds keys = map (λ k. k.kind) keys

abbrev pub key_values : List Key → List Value
key_values keys = map (λ k. k.value) keys

abbrev pub state_names : List State → List Name
state_names states = map (λ x. x.name) states

-- where a case leads, if one was found
abbrev pub led_to : List Name → Option Target → Led
led_to names None = Failed NoMatch
led_to names (Some t) = To (next_for names t)

abbrev pub RowsLeadAlike : Type 0
RowsLeadAlike =
    (names : List Name) (keys : List Key) (cases : List SelectCase)
    → row_for (rows_of_cases names (key_kinds keys) cases) (key_values keys) ≡ led_to names (first_match keys cases)

-- and that the state with a name has its number
abbrev pub NumbersTellStates : Type 0
NumbersTellStates =
    (states : List State) (text : Name)
    → slice_get states (number_of_state (state_names states) text) ≡ state_called states text
