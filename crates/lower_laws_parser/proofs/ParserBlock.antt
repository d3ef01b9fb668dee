-- The law of the parser, as the passes ask for it.
use Rattle.std.proofs.Common.{ap, ℕ, ◌≢◌, inl, inr, ◌∙◌, arith, ◌≡◌, Some, List, [], length, refl, sym, subst}
use Rattle.std.specs.Prelude.{codes}
use Rattle.p414_syntax.specs.declared.syntax.Decl.{Decl}
use Rattle.p414_syntax.specs.Names.{Name}
use Rattle.p414_syntax.specs.ParserGraph.{states as states14}
use Rattle.p414_sem.specs.Effects.{Moment as Moment14}
use Rattle.p414_sem.specs.Parsing.{parsed}
use Rattle.p416_syntax.specs.declared.parsers.Parser16.{Parser16}
use Rattle.v1_core.specs.Frames.{Moment, error_number}
use Rattle.v1_core.specs.Surroundings.{Setting, quiet_world}
use Rattle.v1_core.specs.Parsing.{around_parser, parser_of, state_called, parse16}
use Rattle.agreement_of_meanings.proofs.Written.{requests_by16}
use Rattle.lower_laws_base.specs.Context.{StateLayout, Stands, Lowering}
use Rattle.lower_laws_base.specs.Between.{quiet, Beside, error_of}
use Rattle.lower_laws_base.specs.Blocks.{ParserEnds}
use Rattle.lower_laws_base.specs.Types.{DeclsShown, ZerosAlike}
use Rattle.lower_laws_parser.specs.Parsing.{with_store, parser_words, Going, StateFits, Parses, HasStates, NeverStopped}
use Rattle.lower_laws_parser.specs.Starts.{headers_off, Begins}
use Rattle.lower_laws_parser.proofs.Off.{off_going, origin}
use Rattle.lower_laws_parser.proofs.Whole.{Told, plain_parses, initialized_parses}
use Rattle.lower_laws_parser.proofs.Named.{has_states, has_plainly}
use Rattle.lower_laws_parser.specs.Words.{ParserWords, next_by, state_of}
use Rattle.p414_syntax.specs.declared.parsers.Parser.{Parser}
use Rattle.p414_sem.specs.Parsing.{state_named}
use Rattle.p416_syntax.specs.declared.parsers.Target.TheVariants as target
use Rattle.v1_core.specs.Parsing.{without_headers}
use Rattle.std.proofs.lemmas.List.{length-map}

module _ (c : Lowering) (ds : List Decl) (packet : Name) (state : Name → Name) (setting : Setting) (q : Parser16) (world : c.world ≡ quiet_world (around_parser setting q)) (parses : Parses c ds packet c.world.around.scope) (vars : q.vars ≡ []) (main : parser_of setting.syntax ≡ Some q) (shown : DeclsShown c.layout ds) (zeros : ZerosAlike c.layout setting.syntax) (never : NeverStopped ds) (differ : (a b : Name) → a ≢ b → state a ≢ state b) (fits : (called : Name) (y : Parser) → state_named ds called ≡ Some y → StateFits c ds (parser_words c packet state) y) where
  abbrev p : ParserWords
  p = parser_words c packet state

  module _ (sum : ℕ) (x : Moment14) (m : Moment) (beside : Beside c.layout 0 sum x m) where
    begins : Going c (origin sum x m) (headers_off ds x.state) (without_headers setting m)
    begins = off_going c ds setting shown zeros sum x m (subst (λ (g : StateLayout). Stands g [] [] (quiet 0 sum) x m) (sym parses.whole) beside)

    told : Begins c ds p q.states → Told c (origin sum x m) (parsed ds x.state) (parse16 setting m)
    told (inl some) =
        let has = subst (HasStates c ds p) (sym some.written) (has_states ds p differ c some.start fits) in
        initialized_parses c ds packet state setting q world parses has vars main (origin sum x m) refl x.state m begins never
        (ap (λ l. state_called l (codes "start")) some.written) some.fits (omega (arith, ap length some.written, length-map (states14 ds) (state_of ds p)))
    told (inr none) =
        let has = subst (HasStates c ds p) (sym none.written) (has_plainly ds p differ c fits) in
        plain_parses c ds packet state setting q world parses has vars main (origin sum x m) refl x.state m begins never
        (ap (λ b. next_by ds p b (codes "start")) none.there ∙ ap (λ (z : Name). target.State z) none.start) (none.none x.state) (omega (arith, ap length none.written, length-map (states14 ds) (state_of ds p)))

    pub parser_ends : Begins c ds p q.states → ParserEnds c.layout sum x.store m (parsed ds x.state) (parse16 setting m)
    parser_ends starts =
        let so = told starts in
        let e = parsed ds x.state in
        let r = parse16 setting m in
        record {
          error = so.error;
          beside = subst (λ (g : StateLayout). Stands g [] [] (quiet (error_number (error_of e.end)) sum) (with_store e.state x.store) r.moment) parses.whole so.stands;
          requests = λ kind. requests_by16 r.moment.frame m.frame so.requests.clone_i2e so.requests.clone_e2e so.requests.resubmit so.requests.recirculate kind;
          events = so.requests.events;
        }
