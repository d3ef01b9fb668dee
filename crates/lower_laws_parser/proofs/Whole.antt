-- The parser as a whole.
use Rattle.p414_sem.specs.Effects.{Moment as Moment14}
use Rattle.v1_core.specs.Frames.{Owner, of_headers, of_metadata, of_standard, of_variables, of_inner, of_nothing, owned}
use Rattle.v1_core.specs.Parsing.{Parsed as Parsed16}
use Rattle.agreement_of_meanings.proofs.Names.{is_there}
use Rattle.lower_laws_base.specs.Context.{StateLayout, HasRoot, HasMembers, HasVariables, Aside, Stands, Lowering}
use Rattle.lower_laws_base.proofs.States.{variables_left, members_put}
use Rattle.lower_laws_base.proofs.Writes.{apart_error}
use Rattle.lower_laws_base.specs.Between.{error_of}
use Rattle.lower_laws_parser.specs.Words.{ParserWords, next_of}
use Rattle.lower_laws_parser.specs.Parsing.{Origin, with_store, SameRequests, Going, Halted, parser_words, Parses, HasStates, NeverStopped, ParseStands}
use Rattle.lower_laws_parser.specs.Starts.{headers_off, all_initials, start_state, DeclsFit}
use Rattle.lower_laws_parser.proofs.Extracts.{going_ticked}
use Rattle.lower_laws_parser.proofs.States.{inner_same}
use Rattle.lower_laws_parser.proofs.Starts.{decls_do}
use Rattle.lower_laws_parser.proofs.Walk.{walks}
use Rattle.std.proofs.Common.{◌≡◌, ℕ, suc, ◌+◌, ◌-◌, ◌*◌, ◌≤◌, ◌<◌, true, cond, Option, Some, None, List, [], length, refl, sym, ap, ap₂, ◌∙◌, subst, arith}
use Rattle.std.specs.Prelude.{codes, is_some, unwrap_or}
use Rattle.p414_syntax.specs.declared.syntax.Decl.{Decl}
use Rattle.p414_syntax.specs.declared.syntax.Sort.TheVariants as sort
use Rattle.p414_syntax.specs.Names.{Name, declared_in}
use Rattle.p414_syntax.specs.ParserGraph.{states as states14}
use Rattle.p414_sem.specs.declared.parsed.Parsed.{Parsed}
use Rattle.p414_sem.specs.declared.parsed.Parsed.TheVariants.{Accepted, OutOfPacket, OutOfBounds, UnhandledSelect}
use Rattle.p414_sem.specs.State.{State, request_of as request14}
use Rattle.p414_sem.specs.Parsing.{Parse, begun as begun14, parse_from as parse_from14, parsed}
use Rattle.p416_syntax.specs.declared.parsers.Transition.TheVariants as transition
use Rattle.p416_syntax.specs.declared.parsers.Target.TheVariants as target
use Rattle.p416_syntax.specs.declared.parsers.State.{State as State16}
use Rattle.p416_syntax.specs.declared.parsers.Parser16.{Parser16}
use Rattle.p416_syntax.specs.Tree.{no_statements}
use Rattle.p416_syntax.specs.Scopes.{Scope}
use Rattle.p416_syntax.specs.Statements.{behind}
use Rattle.v1_core.specs.declared.parser_error.ParserError.{ParserError}
use Rattle.v1_core.specs.declared.parser_error.ParserError.TheVariants.{NoError}
use Rattle.v1_core.specs.Values.{an_error, no_members, member_in, with_member, with_part, to_member, fitted}
use Rattle.v1_core.specs.Frames.{Frame, Moment, error_number, ticked, with_standard}
use Rattle.v1_core.specs.Surroundings.{Setting, World, quiet_world}
use Rattle.v1_core.specs.Statements.{no_label, run}
use Rattle.v1_core.specs.Blocks.{begun, ended, with_variables}
use Rattle.v1_core.specs.Parsing.{finished, to_target, followed, from_state, passed, state_called, parse_from, most_states, parser_of, around_parser, without_headers, run_states, run_parser, with_error, parse_ended, parse16}
use Rattle.agreement_of_meanings.specs.Shown.{standard_word, shown_at}
use Rattle.agreement_of_meanings.specs.Agrees.{NewNames, Agrees, RequestsAgree, stop_of}
use Rattle.agreement_of_meanings.proofs.Names.{is_there, part_is, put_is, member_same, member_other, differ_names}
use Rattle.agreement_of_meanings.proofs.Written.{requests_by16, shown_stays}

-- `parser_error` is written

abbrev error_text : Name
error_text = codes "parser_error"

error_set : (f : Frame) (k j : ℕ) → member_in f.standard (codes "parser_error") ≡ an_error k → (with_standard (codes "parser_error") (an_error j) f).standard ≡ with_member f.standard (codes "parser_error") (an_error j)
error_set f k j was =
    let there : is_there (member_in f.standard (codes "parser_error")) ≡ true = ap is_there was in
    ap (λ v. with_part f.standard (to_member (codes "parser_error")) (fitted v (an_error j))) (part_is f.standard (codes "parser_error") there ∙ was)
    ∙ put_is f.standard (codes "parser_error") (an_error j) there

pub error_agrees : (names : NewNames) (s : State) (f : Frame) (k j : ℕ) → member_in f.standard (codes "parser_error") ≡ an_error k → Agrees names s f → Agrees names s (with_standard (codes "parser_error") (an_error j) f)
error_agrees names s f k j was agrees =
    let g = with_standard (codes "parser_error") (an_error j) f in
    record {
      instances = record {
        count = agrees.instances.count;
        each = λ i lt. shown_stays f g (shown_at names.instances i) _ refl refl (agrees.instances.each i lt);
      };
      standard = λ which.
          ap (λ v. member_in v (standard_word which)) (error_set f k j was)
          ∙ member_other f.standard (codes "parser_error") (standard_word which) (an_error j) (λ e. apart_error which (sym e)) ∙ agrees.standard which;
      requests = λ kind. subst (λ q. RequestsAgree names.marks (request14 s kind) q) (requests_by16 f g refl refl refl refl kind) (agrees.requests kind);
    }

-- an error is written to it
abbrev pub put_error : ℕ → Moment → Moment
put_error j m = record m { frame = with_standard (codes "parser_error") (an_error j) m.frame; stopped = None }

abbrev pub with_wrong : Aside → ℕ → Aside
with_wrong k j = record { error = j; checksum = k.checksum; emitted = k.emitted; hit = k.hit }

pub error_stands : (g : StateLayout) (k : Aside) (x : Moment14) (m : Moment) (j : ℕ) → Stands g [] [] k x m → Stands g [] [] (with_wrong k j) x (put_error j m)
error_stands g k x m j stands =
    let put = error_set m.frame k.error j stands.error in
    record {
      both = record {
        packet = record {
          agrees = error_agrees g.names x.state m.frame k.error j stands.error stands.both.packet.agrees;
          unparsed = stands.both.packet.unparsed;
          events = stands.both.packet.events;
          runs = refl;
        };
        store = stands.both.store;
      };
      shaped = stands.shaped;
      stored = stands.stored;
      inner = stands.inner;
      count = refl;
      variables = variables_left g [] [] k g.variables m.frame (put_error j m).frame refl stands.variables;
      members = members;
      error = ap (λ v. member_in v (codes "parser_error")) put ∙ member_same m.frame.standard (codes "parser_error") (an_error j) (ap is_there stands.error);
      checksum = ap (λ v. member_in v (codes "checksum_error")) put ∙ member_other m.frame.standard (codes "parser_error") (codes "checksum_error") (an_error j) (differ_names (codes "parser_error") (codes "checksum_error") refl) ∙ stands.checksum;
      emitted = stands.emitted;
      hit = stands.hit;
    } where
      members : (o : Owner) → HasRoot g o → HasMembers (g.members o) (owned (put_error j m).frame o)
      members of_headers is = stands.members of_headers is
      members of_metadata is = stands.members of_metadata is
      members of_standard is = members_put (g.members of_standard) m.frame.standard (codes "parser_error") _ (stands.members of_standard is)
      members of_variables is = absurd is
      members of_inner is = absurd is
      members of_nothing is = absurd is

-- an end as it is told: the error stands in `parser_error`, and nothing is stopped any more
pub record Told (c : Lowering) (o : Origin) (e : Parse) (r : Parsed16) : Type 0 where
  pub error : r.error ≡ error_of e.end
  pub stands : Stands c.layout [] [] (with_wrong o.aside (error_number (error_of e.end))) (with_store e.state o.store) r.moment
  pub requests : SameRequests o.frame r.moment.frame

module _ (c : Lowering) (o : Origin) (calm : o.aside.error ≡ 0) where
  told_right : (s : State) (m : Moment) → Going c o s m → (n : Moment) → n ≡ m → Told c o (record { end = Accepted; state = s }) (parse_ended n)
  told_right s m going n is =
      let runs : n.stopped ≡ None = ap (λ (z : Moment). z.stopped) is ∙ going.stands.both.packet.runs in
      let same : m ≡ (parse_ended n).moment = sym (ap (λ (e : Option ParserError). with_error e n) runs ∙ is) in
      record {
        error = ap (λ (e : Option ParserError). unwrap_or e NoError) runs;
        stands = subst (λ j. Stands c.layout [] [] (with_wrong o.aside j) (with_store s o.store) (parse_ended n).moment) calm (subst (λ (z : Moment). Stands c.layout [] [] o.aside (with_store s o.store) z) same going.stands);
        requests = subst (λ (z : Moment). SameRequests o.frame z.frame) same going.requests;
      }

  told_wrong : (end : Parsed) (e : ParserError) → stop_of end ≡ Some e → (s : State) (m : Moment) → Going c o s m → (n : Moment) → n ≡ record m { stopped = stop_of end } → Told c o (record { end = end; state = s }) (parse_ended n)
  told_wrong end e stop s m going n is =
      let now : n ≡ record m { stopped = Some e } = is ∙ ap (λ (z : Option ParserError). let k : Moment = record m { stopped = z } in k) stop in
      let same : put_error (error_number e) m ≡ (parse_ended n).moment = sym (ap (λ (z : Moment). with_error z.stopped z) now) in
      let which : e ≡ error_of end = ap (λ (z : Option ParserError). unwrap_or z NoError) (sym stop) in
      record {
        error = ap (λ (z : Moment). unwrap_or z.stopped NoError) now ∙ which;
        stands = subst (λ (z : ParserError). Stands c.layout [] [] (with_wrong o.aside (error_number z)) (with_store s o.store) (parse_ended n).moment) which
            (subst (λ (z : Moment). Stands c.layout [] [] (with_wrong o.aside (error_number e)) (with_store s o.store) z) same (error_stands c.layout o.aside (with_store s o.store) m (error_number e) going.stands));
        requests = subst (λ (z : Moment). SameRequests o.frame z.frame) same (record { clone_i2e = going.requests.clone_i2e; clone_e2e = going.requests.clone_e2e; resubmit = going.requests.resubmit; recirculate = going.requests.recirculate; events = going.requests.events });
      }

  pub told : (e : Parse) (n : Moment) → Halted c o e.end e.state n → Told c o e (parse_ended n)
  told e n halted = by e.end halted where
    by : (end : Parsed) → Halted c o end e.state n → Told c o (record { end = end; state = e.state }) (parse_ended n)
    by Accepted h = told_right e.state h.moment h.going n (h.is ∙ ap (λ (z : Option ParserError). let k : Moment = record (h.moment) { stopped = z } in k) (sym h.going.stands.both.packet.runs))
    by OutOfPacket h = told_wrong OutOfPacket _ refl e.state h.moment h.going n h.is
    by OutOfBounds h = told_wrong OutOfBounds _ refl e.state h.moment h.going n h.is
    by UnhandledSelect h = told_wrong UnhandledSelect _ refl e.state h.moment h.going n h.is

-- the whole

module _ (c : Lowering) (ds : List Decl) (packet : Name) (state : Name → Name) (setting : Setting) (q : Parser16) (world : c.world ≡ quiet_world (around_parser setting q)) (parses : Parses c ds packet c.world.around.scope) (has : HasStates c ds (parser_words c packet state) q.states) (vars : q.vars ≡ []) (main : parser_of setting.syntax ≡ Some q) where
  abbrev p : ParserWords
  p = parser_words c packet state

  abbrev s : Scope
  s = c.world.around.scope

  same_begun : (m : Moment) → m.frame.variables ≡ no_members → m.frame.inner ≡ no_members → with_variables no_members m ≡ m
  same_begun m none inner = ap₂ (λ v u. let k : Moment = record m { frame = record m.frame { variables = v; inner = u } } in k) (sym none) (sym inner)

  none_there : (o : Origin) (t : State) (m : Moment) → Going c o t m → m.frame.variables ≡ no_members
  none_there o t m going = (subst (λ (g : StateLayout). HasVariables g.variables m.frame) parses.whole going.stands.variables).is

  -- as the statements of the parser begin, the headers of both are invalid and agree
  module _ (o : Origin) (calm : o.aside.error ≡ 0) (t : State) (m : Moment) (begins : Going c o (headers_off ds t) (without_headers setting m)) where
    abbrev n : Moment
    n = without_headers setting m

    parse_is : (parse16 setting m) ≡ parse_ended (ended (parse_from c.world q.states (most_states q.states n) (codes "start") n))
    unfolding parse16
    parse_is =
        ap (λ (x : Option Parser16). parse_ended (run_parser setting x m)) main
        ∙ ap (λ (w : World). parse_ended (run_states w q n)) (sym world)
        ∙ ap (λ vs. parse_ended (ended (parse_from c.world q.states (most_states q.states n) (codes "start") (begun c.world vs n)))) vars
        ∙ ap (λ k. parse_ended (ended (parse_from c.world q.states (most_states q.states n) (codes "start") k))) (same_begun n (none_there o (headers_off ds t) n begins) begins.stands.inner)

    finish : (e : Parse) (k : Moment) → ParseStands c o e k → Told c o e (parse_ended (ended k))
    finish e k there =
        let same : ended k ≡ k = same_begun k (ap (λ (z : Moment). z.frame.variables) there.is ∙ none_there o e.state there.moment there.going) (ap (λ (z : Moment). z.frame.inner) there.is ∙ there.going.stands.inner) in
        subst (λ z. Told c o e (parse_ended z)) (sym same) (told c o calm e k there)

    -- without initial values `start` is that of P4_14
    pub plain_parses : NeverStopped ds → next_of ds p (codes "start") ≡ target.State (codes "start") → begun14 ds t ≡ headers_off ds t → length (states14 ds) ≤ length q.states → Told c o (parsed ds t) (parse16 setting m)
    plain_parses never start plain count =
        let b = most_states q.states n in
        let walk = walks c ds packet state s parses refl o q.states has b (codes "start") (headers_off ds t) n begins in
        subst (λ (e : Parse). Told c o e (parse16 setting m)) (never t b (enough (length t.unparsed) (length (states14 ds)) (length n.unparsed) (length q.states) (ap length begins.stands.both.packet.unparsed) count))
        (subst (Told c o (parse_from14 ds b (codes "start") (begun14 ds t))) (sym parse_is)
        (subst (λ u. Told c o (parse_from14 ds b (codes "start") u) (parse_ended (ended (parse_from c.world q.states b (codes "start") n)))) (sym plain)
        (finish _ _ (subst (λ z. ParseStands c o (parse_from14 ds b (codes "start") (headers_off ds t)) (followed (parse_from c.world q.states b) (to_target z n))) start walk))))
      where
        enough : (u a v b : ℕ) → v ≡ u → a ≤ b → (u + 1) * (a + 1) ≤ (v + 1) * (b + 1)
        enough u a v b same le = subst (λ z. (u + 1) * (a + 1) ≤ (z + 1) * (b + 1)) (sym same) (more u a b le) where
          more : (u a b : ℕ) → a ≤ b → (u + 1) * (a + 1) ≤ (u + 1) * (b + 1)
          more u a b le = grind arith

    -- the state that writes initial values leads to the first one of P4_14
    begins_with : (b : ℕ) → state_called q.states (codes "start") ≡ Some (start_state ds p) → DeclsFit c ds (declared_in sort.Instance ds) → (k : Moment) × (Going c o (begun14 ds t) k × (parse_from c.world q.states (suc b) (codes "start") n ≡ followed (parse_from c.world q.states b) (to_target (next_of ds p (codes "start")) k)))
    begins_with b start fits =
        let body = all_initials ds p no_statements (declared_in sort.Instance ds) in
        let done = decls_do c ds packet state s parses o n (declared_in sort.Instance ds) (headers_off ds t) no_statements fits (record { stays = refl; going = begins }) in
        let k = run c.world s no_label body n in
        let step = followed (parse_from c.world q.states b) in (
          ticked k,
          (
            going_ticked c o (begun14 ds t) k done.going,
            ap (λ z. cond z n (step (from_state c.world (state_called q.states (codes "start")) n))) (ap is_some begins.stands.both.packet.runs)
                ∙ ap (λ (y : Option State16). step (from_state c.world y n)) start
                ∙ ap (λ (y : Moment). step (passed c.world (behind body s) (transition.Go (next_of ds p (codes "start"))) (run c.world s no_label body y))) (inner_same c ds packet state s parses o n begins.stands.inner)
                ∙ ap (λ z. step (cond z (finished k) (to_target (next_of ds p (codes "start")) (ticked k)))) (ap is_some done.going.stands.both.packet.runs),
          ),
        )

    -- with some, a state that writes them stands before it
    pub initialized_parses : NeverStopped ds → state_called q.states (codes "start") ≡ Some (start_state ds p) → DeclsFit c ds (declared_in sort.Instance ds) → length (states14 ds) < length q.states → Told c o (parsed ds t) (parse16 setting m)
    initialized_parses never start fits count =
        let b = (length n.unparsed + 1) * (length q.states + 1) - 1 in
        let same : length n.unparsed ≡ length t.unparsed = ap length begins.stands.both.packet.unparsed in
        let first = begins_with b start fits in
        subst (λ (e : Parse). Told c o e (parse16 setting m)) (never t b (less (length t.unparsed) (length (states14 ds)) (length n.unparsed) (length q.states) same count))
        (subst (Told c o (parse_from14 ds b (codes "start") (begun14 ds t))) (sym parse_is)
        (finish _ _
        (subst (λ z. ParseStands c o (parse_from14 ds b (codes "start") (begun14 ds t)) (parse_from c.world q.states z (codes "start") n)) (one_less (length n.unparsed) (length q.states))
        (subst (ParseStands c o (parse_from14 ds b (codes "start") (begun14 ds t))) (sym first.1.1)
        (walks c ds packet state s parses refl o q.states has b (codes "start") (begun14 ds t) first.0 first.1.0)))))
      where
        one_less : (v b : ℕ) → suc ((v + 1) * (b + 1) - 1) ≡ (v + 1) * (b + 1)
        one_less v b = grind arith

        less : (u a v b : ℕ) → v ≡ u → a < b → (u + 1) * (a + 1) ≤ (v + 1) * (b + 1) - 1
        less u a v b same lt = subst (λ z. (u + 1) * (a + 1) ≤ (z + 1) * (b + 1) - 1) (sym same) (more u a b lt) where
          more : (u a b : ℕ) → a < b → (u + 1) * (a + 1) ≤ (u + 1) * (b + 1) - 1
          more u a b lt = grind arith
