-- The parser of a program, made ready, does what that of the program does.
use Rattle.std.proofs.Common.{◌≡◌, ℕ, ◌≤◌, Option, Some, None, IfSome, List, [], ◌∷◌, refl, subst, arith}
use Rattle.std.specs.Prelude.{flat_map, codes}
use Rattle.p416_syntax.specs.declared.parsers.State.{State as Written}
use Rattle.p416_syntax.specs.declared.parsers.Parser16.{Parser16}
use Rattle.p416_syntax.specs.Names.{Name}
use Rattle.p416_syntax.specs.Scopes.{Scope}
use Rattle.p416_syntax.specs.Statements.{behind}
use Rattle.p416_syntax.specs.Declarations.{layouts_of}
use Rattle.p416_syntax.specs.Breaks.{BreaksNone, program_rules}
use Rattle.v1_core.specs.Slots.{variable_kinds, state_kinds}
use Rattle.v1_core.specs.Surroundings as meaning
use Rattle.v1_core.specs.Surroundings.{Setting}
use Rattle.v1_core.specs.Numbered.{Variable, nobody}
use Rattle.v1_core.specs.Parsing.{parser_of}
use Rattle.v1_core.specs.Programs.{part_seat}
use Rattle.v1_ready_forms.specs.Named.{NamedSeat}
use Rattle.v1_ready_selects.specs.Rows.{number_of_state}
use Rattle.v1_ready_selects.specs.Selects.{Transition}
use Rattle.v1_ready_selects.specs.Transitions.{transition_ready}
use Rattle.v1_ready_selects.specs.Matching.{state_names}
use Rattle.v1_ready_blocks.specs.declared.places.Range.{Range}
use Rattle.v1_ready_blocks.specs.Statements.{Statement}
use Rattle.v1_ready_states.specs.States.{State}
use Rattle.v1_block_laws.specs.Standing.{AreOfKinds}
use Rattle.v1_block_laws.specs.Keeping.{Each, StateKeeps}
use Rattle.v1_block_laws.specs.Variables.{scope_in_parser, states_from, parser_variables, parser_seats}
use Rattle.v1_block_laws.proofs.Standing.{apart}
use Rattle.v1_block_laws.proofs.Blocks.{parser_kept}
use Rattle.v1_parser_laws.specs.Ranges.{error_part, headers_seat}
use Rattle.v1_parser_laws.specs.States.{StateShows, StatesShow, ParserIsMade, parser_world}
use Rattle.v1_parser_laws.proofs.States.{made_states_show}
use Rattle.v1_parser_laws.proofs.Begins.{emptied_headers}
use Rattle.v1_parser_laws.proofs.Parsers.{made_parser_shows}
use Rattle.v1_place_laws.specs.Places.{range_of}
use Rattle.v1_ready_statements.specs.Around.{Around, slot_of_seat}
use Rattle.v1_ready_statements.specs.Given.{cons_option}
use Rattle.v1_ready_statements.specs.Statements.{number_behind, seats_behind, ready_of_statement}
use Rattle.v1_statement_laws.proofs.Starting.{range_is}
use Rattle.v1_program_laws.specs.Parsers.{bare, variables_of_parser, with_transition, state_ready, states_ready, states_of_parser, with_states, ready_parser}
use Rattle.v1_program_laws.proofs.Kept.{StateMeets, parser_meets}
use Rattle.v1_program_laws.proofs.States.{states_stand, state_made}
use Rattle.v1_program_laws.proofs.Errors.{error_put}
use Rattle.v1_program_laws.proofs.Variables.{variables_begin}
use Rattle.v1_program_laws.specs.ParserLaws.{ReadyParserIsMade, ReadyParserShows}

at_some : {A : Type 0} (B : A → Type 0) (o : Option A) (x : A) → o ≡ Some x → IfSome o B → B x
at_some {A = A} B o x is h = subst (λ (p : Option A). IfSome p B) is h

module _ (c : Setting) (p : Parser16) (accepted : BreaksNone c.syntax program_rules) (found : parser_of c.syntax ≡ Some p) where
  abbrev b : Around
  b = bare c.syntax

  abbrev s : Scope
  s = scope_in_parser c.syntax p

  abbrev w : meaning.World
  w = parser_world c p

  abbrev vars : List Variable
  vars = parser_variables c.syntax p

  abbrev seats : List NamedSeat
  seats = parser_seats c.syntax p

  -- states

  one_state : (n : ℕ) (names : List Name) (x : Written) → states_from c.syntax p ≤ n → AreOfKinds (variable_kinds c.syntax) n (state_kinds s x) → StateMeets s x → StateKeeps s x → IfSome (state_ready b s seats n names x) (StateShows c.syntax w vars names x)
  one_state n names x above are meets keeps = by (ready_of_statement b s seats n x.body) (transition_ready (behind x.body s) (seats_behind b s n x.body seats) names x.transition) refl refl where
    by : (o : Option Statement) (q : Option Transition) → ready_of_statement b s seats n x.body ≡ o → transition_ready (behind x.body s) (seats_behind b s n x.body seats) names x.transition ≡ q → IfSome (with_transition o q) (StateShows c.syntax w vars names x)
    by None None is leads = tt
    by None (Some t) is leads = tt
    by (Some body) None is leads = tt
    by (Some body) (Some t) is leads =
        made_states_show c.syntax w vars names x (record { body = body; transition = t }) accepted
        (state_made c p accepted found n names x body t above are meets keeps.1 is leads)

  both : (names : List Name) (x : Written) (states : List Written) (o : Option State) (q : Option (List State)) → IfSome o (StateShows c.syntax w vars names x) → IfSome q (StatesShow c.syntax w vars names states) → IfSome (cons_option o q) (StatesShow c.syntax w vars names (x ∷ states))
  both names x states None None f g = tt
  both names x states None (Some rows) f g = tt
  both names x states (Some r) None f g = tt
  both names x states (Some r) (Some rows) f g = (f, g)

  all_states : (n : ℕ) (names : List Name) (states : List Written) → states_from c.syntax p ≤ n → AreOfKinds (variable_kinds c.syntax) n (flat_map (state_kinds s) states) → Each (StateMeets s) states → Each (StateKeeps s) states → IfSome (states_ready b s seats n names states) (StatesShow c.syntax w vars names states)
  all_states n names [] above are meets keeps = tt
  all_states n names (x ∷ states) above are meets keeps =
      let two = apart (variable_kinds c.syntax) n (state_kinds s x) (flat_map (state_kinds s) states) are in
      both names x states (state_ready b s seats n names x) (states_ready b s seats (number_behind s x.body n) names states)
      (one_state n names x above two.0 meets.0 keeps.0)
      (all_states (number_behind s x.body n) names states (omega (arith, above)) two.1 meets.1 keeps.1)

  states_show : IfSome (states_of_parser c.syntax p) (StatesShow c.syntax w vars (state_names p.states) p.states)
  states_show =
      all_states (states_from c.syntax p) (state_names p.states) p.states (omega arith) (states_stand c p accepted found)
      (parser_meets c.syntax p accepted found).1 (parser_kept c.syntax p accepted found).1

  -- the parser

  abbrev headers : Range
  headers = range_of (layouts_of c.syntax.decls) (headers_seat c.syntax)

  abbrev first : ℕ
  first = number_of_state (state_names p.states) (codes "start")

  of_parts : (a : Option ℕ) (o : Option Statement) (q : Option (List State)) → slot_of_seat (part_seat c.syntax error_part) ≡ a → variables_of_parser c.syntax p ≡ o → IfSome q (StatesShow c.syntax w vars (state_names p.states) p.states) → IfSome (with_states headers first a o q) (ParserIsMade c p vars)
  of_parts None None None there is shows = tt
  of_parts None None (Some rows) there is shows = tt
  of_parts None (Some v) None there is shows = tt
  of_parts None (Some v) (Some rows) there is shows = tt
  of_parts (Some slot) None None there is shows = tt
  of_parts (Some slot) None (Some rows) there is shows = tt
  of_parts (Some slot) (Some v) None there is shows = tt
  of_parts (Some slot) (Some v) (Some rows) there is shows = record {
    headers = λ m n h. emptied_headers c nobody headers m n (range_is (layouts_of c.syntax.decls) (headers_seat c.syntax)) h;
    variables = λ m n h runs. variables_begin c p accepted found v is m n h runs;
    states = shows;
    first = refl;
    error = λ m n e h. error_put c slot accepted there m n e h;
  }

  made : IfSome (ready_parser c.syntax p) (ParserIsMade c p vars)
  made = of_parts (slot_of_seat (part_seat c.syntax error_part)) (variables_of_parser c.syntax p) (states_of_parser c.syntax p) refl refl states_show

pub ready_parser_is_made : ReadyParserIsMade
ready_parser_is_made c p r accepted found is = at_some (ParserIsMade c p (parser_variables c.syntax p)) (ready_parser c.syntax p) r is (made c p accepted found)

pub ready_parser_shows : ReadyParserShows
ready_parser_shows c p r m n accepted found is h runs = made_parser_shows c p (parser_variables c.syntax p) r m n found (ready_parser_is_made c p r accepted found is) h runs
