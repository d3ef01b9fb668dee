-- A state of a parser whose statements and transition are made ready.
use Rattle.std.proofs.Common.{◌≡◌, ℕ, ◌+◌, ◌≤◌, Bool, false, Option, Some, None, IfSome, List, [], ◌++◌, length, map, refl, subst, arith, append-nil}
use Rattle.std.specs.Prelude.{flat_map}
use Rattle.std.proofs.lemmas.List.{length-map}
use Rattle.p416_syntax.specs.declared.node.CaseLabel.{CaseLabel}
use Rattle.p416_syntax.specs.declared.parsers.State.{State}
use Rattle.p416_syntax.specs.declared.parsers.Parser16.{Parser16}
use Rattle.p416_syntax.specs.declared.program.Decl16.TheVariants as decl
use Rattle.p416_syntax.specs.declared.program.Syntax16.{Syntax16}
use Rattle.p416_syntax.specs.Names.{Name}
use Rattle.p416_syntax.specs.Scopes.{Scope}
use Rattle.p416_syntax.specs.Statements.{behind}
use Rattle.p416_syntax.specs.Breaks.{BreaksNone, program_rules, scope_of}
use Rattle.p416_syntax.specs.Main.{positions_of}
use Rattle.p416_syntax.specs.Unknown.{declared_name}
use Rattle.v1_core.specs.Frames as sem
use Rattle.v1_core.specs.Slots.{variable_kinds, var_kind, state_kinds}
use Rattle.v1_core.specs.Surroundings as meaning
use Rattle.v1_core.specs.Surroundings.{Setting}
use Rattle.v1_core.specs.Numbered.{Variable}
use Rattle.v1_core.specs.Parsing.{parser_of}
use Rattle.v1_core.specs.Statements.{no_label, run}
use Rattle.v1_ready_forms.specs.Named.{NamedSeat, seats_in}
use Rattle.v1_ready_laws.specs.Rules.{NamesSeated}
use Rattle.v1_ready_selects.specs.Selects.{Transition}
use Rattle.v1_ready_selects.specs.Transitions.{transition_ready}
use Rattle.v1_ready_blocks.specs.Moments.{Moment}
use Rattle.v1_ready_blocks.specs.Tests.{quiet_world}
use Rattle.v1_ready_blocks.specs.Statements as ready
use Rattle.v1_ready_blocks.specs.Statements.{Statement}
use Rattle.v1_ready_blocks.specs.Blocks.{parser_run}
use Rattle.v1_block_laws.specs.Standing.{AreOfKinds}
use Rattle.v1_block_laws.specs.Variables.{scope_in_parser, parser_from, states_from, parser_variables, parser_seats}
use Rattle.v1_block_laws.specs.Keeping.{TransitionKeeps}
use Rattle.v1_block_laws.proofs.Standing.{apart}
use Rattle.v1_block_laws.proofs.Apart.{vars_apart, wholly_in_front}
use Rattle.v1_block_laws.proofs.Finding.{found_stands}
use Rattle.v1_block_laws.proofs.Blocks.{parser_declared, parser_seated}
use Rattle.v1_parser_laws.specs.Shown.{Shows, in_block, BodyShows}
use Rattle.v1_parser_laws.specs.States.{StateIsMade, parser_world}
use Rattle.v1_value_laws.proofs.Scopes.{top_is_fine, parser_is_fine}
use Rattle.v1_ready_statements.specs.Statements.{seats_behind, ready_of_statement}
use Rattle.v1_statement_laws.specs.Behind.{Waits, Shown, LeftBehind, InContext, declared_from}
use Rattle.v1_statement_laws.proofs.Contexts.{context_behind, seats_are}
use Rattle.v1_statement_laws.proofs.Induction.{all_do}
use Rattle.v1_program_laws.specs.Rules.{KeptInParser}
use Rattle.v1_program_laws.specs.Parsers.{bare}
use Rattle.v1_program_laws.proofs.Kept.{StateMeets}
use Rattle.v1_program_laws.proofs.ParserLeaves.{leaves}

at_some : {A : Type 0} (B : A → Type 0) (o : Option A) (x : A) → o ≡ Some x → IfSome o B → B x
at_some {A = A} B o x is h = subst (λ (p : Option A). IfSome p B) is h

body_left : (syntax : Syntax16) (vars vs : List Variable) (m : sem.Moment) (k : Moment) → LeftBehind (Waits false syntax) syntax (in_block vars []) vs m k → BodyShows syntax vars vs m k
body_left syntax vars vs m k h =
    let there : Shows syntax (in_block vars h.some) m k = subst (λ (inner : List Variable). Shows syntax (in_block vars inner) m k) (append-nil h.some) h.shown.shows in
    ((h.some, there), (λ none. subst (λ (inner : List Variable). Shows syntax (in_block vars inner) m k) (h.all none) there))

module _ (c : Setting) (p : Parser16) (accepted : BreaksNone c.syntax program_rules) (found : parser_of c.syntax ≡ Some p) where
  abbrev s : Scope
  s = scope_in_parser c.syntax p

  abbrev w : meaning.World
  w = parser_world c p

  abbrev vars : List Variable
  vars = parser_variables c.syntax p

  vars_and_states : AreOfKinds (variable_kinds c.syntax) (parser_from c.syntax p) (map (var_kind s) p.vars ++ flat_map (state_kinds s) p.states)
  vars_and_states = found_stands c.syntax _ (decl.Parser p) (parser_declared c.syntax p found)

  pub vars_stand : AreOfKinds (variable_kinds c.syntax) (parser_from c.syntax p) (map (var_kind s) p.vars)
  vars_stand = (apart (variable_kinds c.syntax) (parser_from c.syntax p) (map (var_kind s) p.vars) (flat_map (state_kinds s) p.states) vars_and_states).0

  pub states_stand : AreOfKinds (variable_kinds c.syntax) (states_from c.syntax p) (flat_map (state_kinds s) p.states)
  states_stand =
      subst (λ (n : ℕ). AreOfKinds (variable_kinds c.syntax) (parser_from c.syntax p + n) (flat_map (state_kinds s) p.states)) (length-map p.vars (var_kind s))
      (apart (variable_kinds c.syntax) (parser_from c.syntax p) (map (var_kind s) p.vars) (flat_map (state_kinds s) p.states) vars_and_states).1

  -- where statements stand in the parser
  pub context : (n to : ℕ) → states_from c.syntax p ≤ n → n ≤ to → InContext c.syntax w.around.roots n to n s (in_block vars [])
  context n to above le =
      let both = vars_apart (variable_kinds c.syntax) s (parser_from c.syntax p) p.vars vars_stand in
      record {
        layouts = refl;
        fine = parser_is_fine (scope_of c.syntax (decl.Parser p)) p (top_is_fine c.syntax.decls (positions_of c.syntax (declared_name (decl.Parser p))));
        seated = parser_seated c.syntax p accepted found;
        body = record {
          begun = omega arith;
          left = le;
          variables = both.0;
          outside = wholly_in_front (parser_from c.syntax p) (states_from c.syntax p) n to vars both.1 above;
          inner = tt;
          between = tt;
        };
      }

  pub state_made : (n : ℕ) (names : List Name) (x : State) (body : Statement) (t : Transition) → states_from c.syntax p ≤ n → AreOfKinds (variable_kinds c.syntax) n (state_kinds s x) → StateMeets s x → TransitionKeeps (behind x.body s) x.transition
      → ready_of_statement (bare c.syntax) s (parser_seats c.syntax p) n x.body ≡ Some body → transition_ready (behind x.body s) (seats_behind (bare c.syntax) s n x.body (parser_seats c.syntax p)) names x.transition ≡ Some t → StateIsMade c.syntax w vars names x (record { body = body; transition = t })
  state_made n names x body t above are meets keeps is leads =
      let to : ℕ = n + length (state_kinds s x) in
      let at : InContext c.syntax w.around.roots n to n s (in_block vars []) = context n to above (omega arith) in
      let left = context_behind c.syntax w.around.roots n to x.body n s (in_block vars []) are (omega arith) at in
      record {
        inner = declared_from s n x.body;
        body = λ m k h.
            body_left c.syntax vars (declared_from s n x.body) (run w s no_label x.body m) (parser_run body k)
            (at_some (λ (q : Statement). (taken : CaseLabel → Bool) (ran : Option ℕ) (i : sem.Moment) (j : Moment) → Shown (Waits false c.syntax) c.syntax (in_block vars []) i j → LeftBehind (Waits false c.syntax) c.syntax (in_block vars []) (declared_from s n x.body) (run w s taken x.body i) (ready.run quiet_world ran q j)) (ready_of_statement (bare c.syntax) s (parser_seats c.syntax p) n x.body) body is
            ((all_do KeptInParser (Waits false c.syntax) (bare c.syntax) w quiet_world vars n to accepted (leaves (bare c.syntax) w vars n to accepted refl refl (λ text i. refl)) x.body).0 s (in_block vars []) n (record { context = at; variables = refl }) meets are (omega arith))
            no_label None m k (record { shows = h; waits = λ never. absurd (cc never) }));
        transition =
            subst (λ (inner : List Variable). transition_ready (behind x.body s) (seats_in c.syntax w.around.roots (in_block vars inner)) names x.transition ≡ Some t) (append-nil (declared_from s n x.body))
            (subst (λ (seats : List NamedSeat). transition_ready (behind x.body s) seats names x.transition ≡ Some t) (seats_are (bare c.syntax) w.around.roots x.body n s (in_block vars [])) leads);
        layouts = left.layouts;
        seated = subst (λ (inner : List Variable). NamesSeated (behind x.body s) (seats_in c.syntax w.around.roots (in_block vars inner))) (append-nil (declared_from s n x.body)) left.seated;
        keeps = keeps;
      }
