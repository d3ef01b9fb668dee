-- The variables and the statements of a control run as those of its ready block, where what they consist of does.
use Rattle.std.proofs.Common.{◌≡◌, ℕ, suc, ◌+◌, Bool, true, is_some, Option, Some, None, IfSome, option_map, List, [], ◌∷◌, ◌++◌, length, map, flat_map, filter_map, fold, refl, sym, ap, ◌∙◌, subst, arith}
use Rattle.p416_syntax.specs.declared.parts.Type16.{Type16}
use Rattle.p416_syntax.specs.declared.parsers.Var.{Var}
use Rattle.p416_syntax.specs.declared.node.CaseLabel.{CaseLabel}
use Rattle.p416_syntax.specs.declared.controls.Local.{Local}
use Rattle.p416_syntax.specs.declared.controls.Local.TheVariants as local
use Rattle.p416_syntax.specs.declared.controls.Control16.{Control16}
use Rattle.p416_syntax.specs.declared.program.Decl16.TheVariants as decl
use Rattle.p416_syntax.specs.declared.program.Syntax16.{Syntax16}
use Rattle.p416_syntax.specs.Tree.{Exp16}
use Rattle.p416_syntax.specs.Names.{Name}
use Rattle.p416_syntax.specs.Scopes.{Scope, kind_of_type}
use Rattle.p416_syntax.specs.Calls.{Place}
use Rattle.p416_syntax.specs.Declarations.{table_in}
use Rattle.p416_syntax.specs.Breaks.{scope_of, program_rules, BreaksNone}
use Rattle.p416_syntax.specs.Main.{positions_of}
use Rattle.p416_syntax.specs.Unknown.{declared_name}
use Rattle.v1_core.specs.declared.block.Block.{Block as BlockName}
use Rattle.v1_core.specs.declared.parser_error.ParserError.{ParserError}
use Rattle.v1_core.specs.Values.{no_members}
use Rattle.v1_core.specs.Frames as sem
use Rattle.v1_core.specs.Frames.{Frame}
use Rattle.v1_core.specs.Slots.{variable_kinds, kinds_in, local_kinds}
use Rattle.v1_core.specs.Surroundings as meaning
use Rattle.v1_core.specs.Surroundings.{Setting}
use Rattle.v1_core.specs.Numbered.{Variable, InScope, nobody}
use Rattle.v1_core.specs.Statements.{no_label}
use Rattle.v1_core.specs.Statements as sem_statements
use Rattle.v1_core.specs.Blocks.{var_in, variables_of, with_variables, with_initial, ended, around_control, run_control, control_at}
use Rattle.v1_core.specs.Cells.{Cells}
use Rattle.v1_core.specs.PackedFrames.{IsFrameOf}
use Rattle.v1_ready_forms.specs.Named.{NamedSeat, seats_in}
use Rattle.v1_ready_blocks.specs.Moments.{Moment}
use Rattle.v1_ready_blocks.specs.Tests.{World}
use Rattle.v1_ready_blocks.specs.Statements.{Statement, run}
use Rattle.v1_ready_blocks.specs.Tables.{Table}
use Rattle.v1_ready_blocks.specs.Blocks.{Block}
use Rattle.v1_block_laws.specs.Variables.{is_control, scope_in_control, control_from, body_from, control_variables, control_seats, locals_from}
use Rattle.v1_block_laws.specs.Standing.{AreOfKinds}
use Rattle.v1_block_laws.proofs.Standing.{apart}
use Rattle.v1_block_laws.proofs.Finding.{found_stands}
use Rattle.v1_block_laws.proofs.Blocks.{control_declared, body_stands, body_apart, control_seated}
use Rattle.v1_parser_laws.specs.Shown.{Shows, in_block}
use Rattle.v1_value_laws.proofs.Scopes.{top_is_fine, control_is_fine}
use Rattle.v1_ready_statements.specs.Around.{Around}
use Rattle.v1_ready_statements.specs.Statements.{initial_ready, ready_of_statement}
use Rattle.v1_ready_statements.specs.Blocks as ready
use Rattle.v1_ready_statements.specs.Blocks.{all_of, body_ready, parameter_slots, table_ready, starts_from, initial_of, initials_from, joined, in_front, whole_body, with_all, ready_control}
use Rattle.v1_statement_laws.specs.Behind.{Waits, Shown, LeftBehind, Within, declared_from}
use Rattle.v1_statement_laws.specs.Meeting.{StatementMeets}
use Rattle.v1_statement_laws.specs.Leaves.{Leaves}
use Rattle.v1_statement_laws.specs.Laws.{all_run}
use Rattle.v1_statement_laws.proofs.Closing.{stopped_is, ready_stopped}
use Rattle.v1_statement_laws.proofs.Starts.{variables_start}
use Rattle.v1_statement_laws.proofs.Induction.{all_do}
use Rattle.v1_control_laws.specs.Controls.{InitialDoes, InitialsDo}

-- the parts of a ready control

module _ (syntax : Syntax16) (name : BlockName) (k : Control16) where
  abbrev b : Around
  b = ready.around_control syntax k

  abbrev s : Scope
  s = scope_in_control syntax k

  abbrev seats : List NamedSeat
  seats = control_seats syntax name k

  abbrev from : ℕ
  from = control_from syntax k

  pub record ControlParts (r : Block) : Type 0 where
    pub bodies : all_of (body_ready b s seats) b.actions ≡ Some r.bodies
    pub parameters : map (parameter_slots b) b.actions ≡ r.parameters
    pub tables : all_of (table_ready b s seats) (filter_map table_in k.locals) ≡ Some r.tables
    pub starts : List Statement
    pub start_is : starts_from b s from k.locals ≡ Some starts
    pub initials : List Statement
    pub initials_are : initials_from b s seats from k.locals ≡ Some initials
    pub last : Statement
    pub last_is : ready_of_statement b s seats (body_from syntax k) k.body ≡ Some last
    pub body : r.body ≡ in_front (starts ++ initials) last

  pub control_parts : (r : Block) → ready_control syntax name k ≡ Some r → ControlParts r
  control_parts r is =
      by (all_of (body_ready b s seats) b.actions) refl (all_of (table_ready b s seats) (filter_map table_in k.locals)) refl (starts_from b s from k.locals) refl (initials_from b s seats from k.locals) refl (ready_of_statement b s seats (body_from syntax k) k.body) refl is where
        by : (o : Option (List Statement)) → all_of (body_ready b s seats) b.actions ≡ o → (t : Option (List Table)) → all_of (table_ready b s seats) (filter_map table_in k.locals) ≡ t → (p : Option (List Statement)) → starts_from b s from k.locals ≡ p → (q : Option (List Statement)) → initials_from b s seats from k.locals ≡ q → (l : Option Statement) → ready_of_statement b s seats (body_from syntax k) k.body ≡ l → with_all o (map (parameter_slots b) b.actions) t (whole_body (joined p q) l) ≡ Some r → ControlParts r
        by None x t y p u q v l f e = absurd (cc e)
        by (Some bodies) x None y None u q v l f e = absurd (cc e)
        by (Some bodies) x None y (Some xs) u None v l f e = absurd (cc e)
        by (Some bodies) x None y (Some xs) u (Some ys) v None f e = absurd (cc e)
        by (Some bodies) x None y (Some xs) u (Some ys) v (Some last) f e = absurd (cc e)
        by (Some bodies) x (Some tables) y None u q v l f e = absurd (cc e)
        by (Some bodies) x (Some tables) y (Some xs) u None v l f e = absurd (cc e)
        by (Some bodies) x (Some tables) y (Some xs) u (Some ys) v None f e = absurd (cc e)
        by (Some bodies) x (Some tables) y (Some xs) u (Some ys) v (Some last) f e =
            let made : Block = record { bodies = bodies; parameters = map (parameter_slots b) b.actions; tables = tables; body = in_front (xs ++ ys) last } in
            let same : made ≡ r = cc e in
            let parts : ControlParts made = record { bodies = x; parameters = refl; tables = y; starts = xs; start_is = u; initials = ys; initials_are = v; last = last; last_is = f; body = refl } in
            subst (λ (j : Block). ControlParts j) same parts

-- statements one behind another

front_runs : (z : World) (xs : List Statement) (last : Statement) (k : Moment) → run z None (in_front xs last) k ≡ run z None last (all_run z xs k)
front_runs z [] last k = refl
front_runs z (x ∷ xs) last k = front_runs z xs last (run z None x k)

both_run : (z : World) (xs ys : List Statement) (k : Moment) → all_run z (xs ++ ys) k ≡ all_run z ys (all_run z xs k)
both_run z [] ys k = refl
both_run z (x ∷ xs) ys k = both_run z xs ys (run z None x k)

pub at_some : {A : Type 0} (B : A → Type 0) (o : Option A) (x : A) → o ≡ Some x → IfSome o B → B x
at_some {A = A} B o x is h = subst (λ (p : Option A). IfSome p B) is h

is_stopped_by : (o : Option ParserError) (e : ParserError) → o ≡ Some e → is_some o ≡ true
is_stopped_by o e is = ap (λ (p : Option ParserError). is_some p) is

module _ (c : Setting) (block : BlockName) (k : Control16) (accepted : BreaksNone c.syntax program_rules) (stands : control_at c.syntax block ≡ Some k) where
  abbrev S : meaning.Surroundings
  S = around_control c block k

  abbrev B : Around
  B = ready.around_control c.syntax k

  abbrev scope : Scope
  scope = scope_in_control c.syntax k

  abbrev names : List NamedSeat
  names = control_seats c.syntax block k

  abbrev vars : List Variable
  vars = control_variables c.syntax k

  abbrev own : InScope
  own = in_block vars []

  abbrev P : Cells → Type 0
  P = Waits true c.syntax

  abbrev first : ℕ
  first = body_from c.syntax k

  abbrev behind : ℕ
  behind = first + length (kinds_in scope k.body)

  -- where the statements of the control stand
  pub within : Within vars c.syntax S.roots first behind first scope own
  within = record {
    context = record {
      layouts = refl;
      fine = control_is_fine (scope_of c.syntax (decl.Control k)) k (top_is_fine c.syntax.decls (positions_of c.syntax (declared_name (decl.Control k))));
      seated = control_seated c.syntax block k accepted stands;
      body = body_apart c.syntax block k stands;
    };
    variables = refl;
  }

  pub locals_stand : AreOfKinds (variable_kinds c.syntax) (control_from c.syntax k) (flat_map (local_kinds scope) k.locals)
  locals_stand =
      (apart (variable_kinds c.syntax) (control_from c.syntax k) (flat_map (local_kinds scope) k.locals) (kinds_in scope k.body)
      (found_stands c.syntax (is_control k.name) (decl.Control k) (control_declared c.syntax block k stands))).0

  module _ (w : meaning.World) (z : World) (around : w.around ≡ S) where
    abbrev Here : sem.Moment → Moment → Type 0
    Here m j = Shown P c.syntax own m j

    -- initial values

    abbrev var_of : Type16 → Name → Option Exp16 → Var
    var_of t called o = record { of = t; name = called; initial = o }

    one_runs : (n : ℕ) (t : Type16) (called : Name) (e : Exp16) (x : Statement) → initial_ready B scope names n (kind_of_type scope.names t) e ≡ Some x → InitialDoes w z c.syntax block k n t called (Some e) → (m : sem.Moment) (j : Moment) → Here m j → Here (with_initial w m (var_of t called (Some e))) (run z None x j)
    one_runs n t called e x is does m j h = by m.stopped refl where
      by : (o : Option ParserError) → m.stopped ≡ o → Here (with_initial w m (var_of t called (Some e))) (run z None x j)
      by None runs =
          at_some (λ (y : Statement). (i : sem.Moment) (l : Moment) → Here i l → i.stopped ≡ None → Here (with_initial w i (var_of t called (Some e))) (run z None y l)) (initial_ready B scope names n (kind_of_type scope.names t) e) x is does m j h runs
      by (Some error) stops =
          subst (λ (i : sem.Moment). Here i (run z None x j)) (sym (stopped_is m.stopped error m _ stops))
          (subst (λ (l : Moment). Here m l) (sym (ready_stopped z x None j (is_stopped_by j.stopped error (sym h.shows.stopped ∙ stops)))) h)

    abbrev Initials : List Local → List Statement → Type 0
    Initials locals xs = (m : sem.Moment) (j : Moment) → Here m j → Here (fold (with_initial w) m (filter_map var_in locals)) (all_run z xs j)

    var_runs : (n : ℕ) (t : Type16) (called : Name) (o : Option Exp16) (locals : List Local) (xs : List Statement) → InitialDoes w z c.syntax block k n t called o → ((ys : List Statement) → initials_from B scope names (suc n) locals ≡ Some ys → Initials locals ys) → joined (initial_of B scope names n (var_of t called o) o) (initials_from B scope names (suc n) locals) ≡ Some xs → (m : sem.Moment) (j : Moment) → Here m j → Here (fold (with_initial w) (with_initial w m (var_of t called o)) (filter_map var_in locals)) (all_run z xs j)
    var_runs n t called None locals xs does rest is m j h = by (initials_from B scope names (suc n) locals) refl is where
      by : (q : Option (List Statement)) → initials_from B scope names (suc n) locals ≡ q → joined (Some []) q ≡ Some xs → Here (fold (with_initial w) m (filter_map var_in locals)) (all_run z xs j)
      by None y e = absurd (cc e)
      by (Some ys) y e =
          let same : ys ≡ xs = cc e in
          subst (λ (l : List Statement). Here (fold (with_initial w) m (filter_map var_in locals)) (all_run z l j)) same (rest ys y m j h)
    var_runs n t called (Some e) locals xs does rest is m j h = by (initial_ready B scope names n (kind_of_type scope.names t) e) refl (initials_from B scope names (suc n) locals) refl is where
      by : (p : Option Statement) → initial_ready B scope names n (kind_of_type scope.names t) e ≡ p → (q : Option (List Statement)) → initials_from B scope names (suc n) locals ≡ q → joined (option_map (λ x. x ∷ []) p) q ≡ Some xs → Here (fold (with_initial w) (with_initial w m (var_of t called (Some e))) (filter_map var_in locals)) (all_run z xs j)
      by None x None y f = absurd (cc f)
      by None x (Some ys) y f = absurd (cc f)
      by (Some one) x None y f = absurd (cc f)
      by (Some one) x (Some ys) y f =
          let same : one ∷ ys ≡ xs = cc f in
          subst (λ (l : List Statement). Here (fold (with_initial w) (with_initial w m (var_of t called (Some e))) (filter_map var_in locals)) (all_run z l j)) same
          (rest ys y (with_initial w m (var_of t called (Some e))) (run z None one j) (one_runs n t called e one x does m j h))

    initials_run : (locals : List Local) (n : ℕ) (xs : List Statement) → InitialsDo w z c.syntax block k n locals → initials_from B scope names n locals ≡ Some xs → Initials locals xs
    initials_run [] n xs all is m j h =
        let same : [] ≡ xs = cc is in
        subst (λ (l : List Statement). Here m (all_run z l j)) same h
    initials_run (local.Var v ∷ locals) n xs all is m j h = var_runs n v.of v.name v.initial locals xs all.0 (λ ys y. initials_run locals (suc n) ys all.1 y) is m j h
    initials_run (local.Instance notes i ∷ locals) n xs all is m j h = initials_run locals (n + length (local_kinds scope (local.Instance notes i))) xs all is m j h
    initials_run (local.Action a ∷ locals) n xs all is m j h = initials_run locals (n + length (local_kinds scope (local.Action a))) xs all is m j h
    initials_run (local.Table t ∷ locals) n xs all is m j h = initials_run locals (n + length (local_kinds scope (local.Table t))) xs all is m j h

    -- the whole

    left_ended : (vs : List Variable) (m : sem.Moment) (j : Moment) → LeftBehind P c.syntax own vs m j → Shows c.syntax nobody (ended m) j
    left_ended vs m j h = record {
      frame = ap (λ (f : Frame). record f { variables = no_members; inner = no_members }) h.shown.shows.frame;
      whole = h.shown.shows.whole;
      store = h.shown.shows.store;
      unparsed = h.shown.shows.unparsed;
      emitted = h.shown.shows.emitted;
      work = h.shown.shows.work;
      stopped = h.shown.shows.stopped;
      hit = h.shown.shows.hit;
    }

    module _ (U : Scope → Place → Exp16 → Type 0) (leaves : Leaves U P B w z vars first behind) (meets : StatementMeets U scope k.body) (initials : InitialsDo w z c.syntax block k (control_from c.syntax k) k.locals) where
      statements_run : (last : Statement) → ready_of_statement B scope names first k.body ≡ Some last → (m : sem.Moment) (j : Moment) → Here m j → LeftBehind P c.syntax own (declared_from scope first k.body) (sem_statements.run w scope no_label k.body m) (run z None last j)
      statements_run last is m j h =
          at_some (λ (r : Statement). (taken : CaseLabel → Bool) (ran : Option ℕ) (i : sem.Moment) (l : Moment) → Here i l → LeftBehind P c.syntax own (declared_from scope first k.body) (sem_statements.run w scope taken k.body i) (run z ran r l)) (ready_of_statement B scope names first k.body) last is
          (subst (λ (a : meaning.Surroundings). IfSome (ready_of_statement B scope (seats_in c.syntax a.roots own) first k.body) (λ (r : Statement). (taken : CaseLabel → Bool) (ran : Option ℕ) (i : sem.Moment) (l : Moment) → Here i l → LeftBehind P c.syntax own (declared_from scope first k.body) (sem_statements.run w scope taken k.body i) (run z ran r l))) around
          ((all_do U P B w z vars first behind accepted leaves k.body).0 scope own first
          (subst (λ (a : meaning.Surroundings). Within vars c.syntax a.roots first behind first scope own) (sym around) within) meets (body_stands c.syntax block k stands) (omega arith))) no_label None m j h

      pub control_runs : (r : Block) → ready_control c.syntax block k ≡ Some r → (m : sem.Moment) (j : Moment) → Shows c.syntax nobody m j → IsFrameOf c.syntax j.waiting → m.stopped ≡ None → Shows c.syntax nobody (run_control w k m) (run z None r.body j)
      control_runs r is m j h waits runs =
          let parts = control_parts c.syntax block k r is in
          let started : Here (with_variables (variables_of scope (filter_map var_in k.locals)) m) (all_run z parts.starts j) =
          at_some (λ (rs : List Statement). (i : sem.Moment) (l : Moment) → Shown P c.syntax nobody i l → i.stopped ≡ None → Shown P c.syntax (in_block (locals_from scope (control_from c.syntax k) k.locals) []) (with_variables (variables_of scope (filter_map var_in k.locals)) i) (all_run z rs l)) (ready.starts_from B scope (control_from c.syntax k) k.locals) parts.starts parts.start_is
          (variables_start true B z scope (control_from c.syntax k) k.locals refl locals_stand) m j (record { shows = h; waits = λ yes. waits }) runs in
          let begins : Here (fold (with_initial w) (with_variables (variables_of scope (filter_map var_in k.locals)) m) (filter_map var_in k.locals)) (all_run z parts.initials (all_run z parts.starts j)) =
          initials_run k.locals (control_from c.syntax k) parts.initials initials parts.initials_are (with_variables (variables_of scope (filter_map var_in k.locals)) m) (all_run z parts.starts j) started in
          let left = statements_run parts.last parts.last_is (fold (with_initial w) (with_variables (variables_of scope (filter_map var_in k.locals)) m) (filter_map var_in k.locals)) (all_run z parts.initials (all_run z parts.starts j)) begins in
          subst (λ (x : Statement). Shows c.syntax nobody (run_control w k m) (run z None x j)) (sym parts.body)
          (subst (λ (l : Moment). Shows c.syntax nobody (run_control w k m) l) (sym (front_runs z (parts.starts ++ parts.initials) parts.last j ∙ ap (λ (l : Moment). run z None parts.last l) (both_run z parts.starts parts.initials j)))
          (subst (λ (a : meaning.Surroundings). Shows c.syntax nobody (ended (sem_statements.run w a.scope no_label k.body (fold (with_initial w) (with_variables (variables_of a.scope (filter_map var_in k.locals)) m) (filter_map var_in k.locals)))) (run z None parts.last (all_run z parts.initials (all_run z parts.starts j)))) (sym around)
          (left_ended (declared_from scope first k.body) (sem_statements.run w scope no_label k.body (fold (with_initial w) (with_variables (variables_of scope (filter_map var_in k.locals)) m) (filter_map var_in k.locals))) (run z None parts.last (all_run z parts.initials (all_run z parts.starts j))) left)))
