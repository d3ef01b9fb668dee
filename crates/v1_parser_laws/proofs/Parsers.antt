-- A ready parser as a whole does what that of the program does.
use Rattle.std.proofs.Common.{◌≡◌, ℕ, suc, ◌+◌, ◌*◌, List, [], ◌∷◌, length, Option, Some, None, refl, sym, ap, ◌∙◌, subst}
use Rattle.std.specs.Prelude.{codes, unwrap_or}
use Rattle.p416_syntax.specs.declared.program.Syntax16.{Syntax16}
use Rattle.p416_syntax.specs.declared.parsers.State.{State}
use Rattle.p416_syntax.specs.declared.parsers.Parser16.{Parser16}
use Rattle.p416_syntax.specs.Names.{Name}
use Rattle.v1_core.specs.declared.parser_error.ParserError.{ParserError}
use Rattle.v1_core.specs.declared.parser_error.ParserError.TheVariants.{NoError}
use Rattle.v1_core.specs.Values.{no_members}
use Rattle.v1_core.specs.Frames as sem
use Rattle.v1_core.specs.Surroundings.{Setting, World}
use Rattle.v1_core.specs.Numbered.{Variable, InScope, nobody}
use Rattle.v1_core.specs.Blocks.{begun, ended}
use Rattle.v1_core.specs.Parsing as parsing
use Rattle.v1_core.specs.Parsing.{parse16}
use Rattle.v1_ready_selects.specs.Rows.{number_of_state}
use Rattle.v1_ready_selects.specs.Matching.{state_names}
use Rattle.v1_ready_blocks.specs.Moments as blocks
use Rattle.v1_ready_blocks.specs.Blocks.{parser_run}
use Rattle.v1_ready_states.specs.States as ready
use Rattle.v1_parser_laws.specs.Shown.{Shows, in_block, ShowsIn}
use Rattle.v1_parser_laws.specs.States.{StatesShow, ParserIsMade, parser_world}
use Rattle.v1_parser_laws.specs.Laws.{ParseShows, MadeParserShows}
use Rattle.v1_parser_laws.proofs.States.{parses}

-- the variables of a block end with it
block_ends : (syntax : Syntax16) (vars inner : List Variable) (m : sem.Moment) (n : blocks.Moment) → Shows syntax (in_block vars inner) m n → Shows syntax nobody (ended m) n
block_ends syntax vars inner m n h = record {
  frame = ap (λ (f : sem.Frame). record f { variables = no_members; inner = no_members }) h.frame;
  whole = h.whole;
  store = h.store;
  unparsed = h.unparsed;
  emitted = h.emitted;
  work = h.work;
  stopped = h.stopped;
  hit = h.hit;
}

-- there are as many states
as_many : (syntax : Syntax16) (w : World) (vars : List Variable) (names : List Name) (states : List State) (rows : List ready.State) → StatesShow syntax w vars names states rows → length states ≡ length rows
as_many syntax w vars names [] [] h = refl
as_many syntax w vars names [] (r ∷ rows) h = absurd h
as_many syntax w vars names (x ∷ states) [] h = absurd h
as_many syntax w vars names (x ∷ states) (r ∷ rows) h = ap suc (as_many syntax w vars names states rows h.1)

end_by : (c : Setting) (p : Parser16) (vars : List Variable) (r : ready.Parser) (made : ParserIsMade c p vars r) (m : sem.Moment) (n : blocks.Moment) (o : Option ParserError) → Shows c.syntax nobody m n → Shows c.syntax nobody (parsing.with_error o m) (ready.with_error r.error o n)
end_by c p vars r made m n None h = h
end_by c p vars r made m n (Some e) h = made.error m n e h

parse_ends : (c : Setting) (p : Parser16) (vars : List Variable) (r : ready.Parser) (made : ParserIsMade c p vars r) (m : sem.Moment) (n : blocks.Moment) → Shows c.syntax nobody m n → ParseShows c.syntax (parsing.parse_ended m) (ready.parse_ended r.error n)
parse_ends c p vars r made m n h = record {
  error = ap (λ (o : Option ParserError). unwrap_or o NoError) h.stopped;
  moment =
      subst (λ (o : Option ParserError). Shows c.syntax nobody (parsing.with_error m.stopped m) (ready.with_error r.error o n)) h.stopped
      (end_by c p vars r made m n m.stopped h);
}

module _ (c : Setting) (p : Parser16) (vars : List Variable) (r : ready.Parser) (made : ParserIsMade c p vars r) (m : sem.Moment) (n : blocks.Moment) (h : Shows c.syntax nobody m n) (unstopped : m.stopped ≡ None) where
  begins : Shows c.syntax nobody (parsing.without_headers c m) (ready.with_headers_empty r.headers n)
  begins = made.headers m n h

  most_is : parsing.most_states p.states (parsing.without_headers c m) ≡ ready.most_states r.states (ready.with_headers_empty r.headers n)
  most_is =
      ap (λ (k : ℕ). (k + 1) * (length p.states + 1)) (ap length begins.unparsed)
      ∙ ap (λ (k : ℕ). (length (ready.with_headers_empty r.headers n).unparsed + 1) * (k + 1)) (as_many c.syntax (parser_world c p) vars (state_names p.states) p.states r.states made.states)

  runs : ShowsIn c.syntax vars (parsing.parse_from (parser_world c p) p.states (parsing.most_states p.states (parsing.without_headers c m)) (codes "start") (begun (parser_world c p) p.vars (parsing.without_headers c m))) (ready.run_states r (ready.with_headers_empty r.headers n))
  runs =
      subst (λ (k : ℕ). ShowsIn c.syntax vars (parsing.parse_from (parser_world c p) p.states (parsing.most_states p.states (parsing.without_headers c m)) (codes "start") (begun (parser_world c p) p.vars (parsing.without_headers c m))) (ready.parse_from r.states (ready.most_states r.states (ready.with_headers_empty r.headers n)) k (parser_run r.variables (ready.with_headers_empty r.headers n)))) (sym made.first)
      (subst (λ (k : ℕ). ShowsIn c.syntax vars (parsing.parse_from (parser_world c p) p.states (parsing.most_states p.states (parsing.without_headers c m)) (codes "start") (begun (parser_world c p) p.vars (parsing.without_headers c m))) (ready.parse_from r.states k (number_of_state (state_names p.states) (codes "start")) (parser_run r.variables (ready.with_headers_empty r.headers n)))) most_is
      (parses c.syntax (parser_world c p) vars p.states r.states made.states (parsing.most_states p.states (parsing.without_headers c m)) (codes "start") (begun (parser_world c p) p.vars (parsing.without_headers c m)) (parser_run r.variables (ready.with_headers_empty r.headers n))
      ([], made.variables (parsing.without_headers c m) (ready.with_headers_empty r.headers n) begins unstopped)))

  whole : ParseShows c.syntax (parsing.parse_ended (parsing.run_states (parser_world c p) p (parsing.without_headers c m))) (ready.ready_parse r n)
  whole = parse_ends c p vars r made _ _ (block_ends c.syntax vars runs.0 _ _ runs.1)

pub made_parser_shows : MadeParserShows
unfolding parse16
made_parser_shows c p vars r m n is made h unstopped =
    subst (λ (o : Option Parser16). ParseShows c.syntax (parsing.parse_ended (parsing.run_parser c o m)) (ready.ready_parse r n)) (sym is)
    (whole c p vars r made m n h unstopped)
