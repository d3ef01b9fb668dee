-- Statements and ready ones do the same, where those without others in them do.
use Rattle.std.proofs.Common.{◌≡◌, inl, inr, ℕ, ◌+◌, ◌≤◌, Bool, true, false, cond, is_some, Option, Some, None, IfSome, List, [], ◌∷◌, ◌++◌, length, refl, sym, ap, ◌∙◌, subst, arith, append_assoc}
use Rattle.p416_syntax.specs.declared.node.CaseLabel.{CaseLabel}
use Rattle.p416_syntax.specs.Tree.{Exp16, Stmt16, no_statements, then, block, empty, var, var_is, assign, expression, if_then, if_else, switch, no_cases, case_of}
use Rattle.p416_syntax.specs.Names.{Name}
use Rattle.p416_syntax.specs.Kinds.{boolean}
use Rattle.p416_syntax.specs.Scopes.{Scope}
use Rattle.p416_syntax.specs.Calls.{Place, value}
use Rattle.p416_syntax.specs.Statements.{behind}
use Rattle.p416_syntax.specs.Breaks.{BreaksNone, program_rules}
use Rattle.v1_core.specs.declared.parser_error.ParserError.{ParserError}
use Rattle.v1_core.specs.Values.{is_true}
use Rattle.v1_core.specs.Frames as sem
use Rattle.v1_core.specs.Frames.{closed}
use Rattle.v1_core.specs.Slots.{variable_kinds, kinds_in}
use Rattle.v1_core.specs.Surroundings as meaning
use Rattle.v1_core.specs.Numbered.{Variable, InScope}
use Rattle.v1_core.specs.Expressions as sem_expressions
use Rattle.v1_core.specs.Statements.{chosen_label, condition, no_label, run}
use Rattle.v1_core.specs.Cells.{Cells}
use Rattle.v1_core.specs.Ready.{Ended}
use Rattle.v1_ready_forms.specs.Named.{NamedSeat, seats_in}
use Rattle.v1_ready_laws.specs.Rules.{with_inner_ones}
use Rattle.v1_ready_blocks.specs.Moments as blocks
use Rattle.v1_ready_blocks.specs.Moments.{Moment}
use Rattle.v1_ready_blocks.specs.Tests.{Valued, World, Test, test_value, with_test}
use Rattle.v1_ready_blocks.specs.Statements as ready
use Rattle.v1_ready_blocks.specs.Statements.{Statement, nothing, sequence, branch}
use Rattle.v1_block_laws.specs.Standing.{AreOfKinds}
use Rattle.v1_block_laws.specs.Variables.{variable}
use Rattle.v1_ready_statements.specs.Around.{Around, table_found}
use Rattle.v1_ready_statements.specs.Tested.{ready_test}
use Rattle.v1_ready_statements.specs.Statements.{both_ready, branch_ready, switch_ready, labelled_ones, the_default, seats_behind, ready_in, ready_of_statement, start_ready}
use Rattle.v1_statement_laws.specs.Behind.{Waits, declared_from, Shown, LeftBehind, Within, ValuedShows}
use Rattle.v1_statement_laws.specs.Meeting.{Judged, StatementMeets}
use Rattle.v1_statement_laws.specs.Leaves.{RunsAlike, ActionsAlike, AppliedShows, Leaves}
use Rattle.v1_statement_laws.specs.Laws.{StatementsShow}
use Rattle.v1_statement_laws.proofs.Closing.{inner_counted, closed_shows, ticked_shown, run_stopped, ready_stopped}
use Rattle.v1_statement_laws.proofs.Contexts.{Both, both_kinds, kinds_then, kinds_else, kinds_cases, context_later, context_behind, seats_are}
use Rattle.v1_statement_laws.proofs.Cases.{Closes, Bodies, Ends, cases_end}
use Rattle.v1_statement_laws.proofs.Starting.{start_shows}

is_stopped_by : (o : Option ParserError) (e : ParserError) → o ≡ Some e → is_some o ≡ true
is_stopped_by o e is = ap (λ (p : Option ParserError). is_some p) is

both_made : (Q : Statement → Type 0) (A B : Statement → Type 0) (f : Statement → Statement → Statement) (o p : Option Statement) → ((x y : Statement) → A x → B y → Q (f x y)) → IfSome o A → IfSome p B → IfSome (both_ready f o p) Q
both_made Q A B f None None g h k = tt
both_made Q A B f None (Some y) g h k = tt
both_made Q A B f (Some x) None g h k = tt
both_made Q A B f (Some x) (Some y) g h k = g x y h k

branch_made : (Q : Statement → Type 0) (C : Test → Type 0) (A B : Statement → Type 0) (c : Option Test) (o p : Option Statement) → ((t : Test) (x y : Statement) → C t → A x → B y → Q (branch t x y)) → IfSome c C → IfSome o A → IfSome p B → IfSome (branch_ready c o p) Q
branch_made Q C A B None o p g f h k = tt
branch_made Q C A B (Some t) None p g f h k = tt
branch_made Q C A B (Some t) (Some x) None g f h k = tt
branch_made Q C A B (Some t) (Some x) (Some y) g f h k = g t x y f h k

switch_made : (Q : Statement → Type 0) (T : ℕ → Type 0) (A : Statement → Type 0) (t : Option ℕ) (o : Option Statement) → ((table : ℕ) (x : Statement) → T table → A x → Q (ready.switch table x)) → IfSome t T → IfSome o A → IfSome (switch_ready t o) Q
switch_made Q T A None o g f h = tt
switch_made Q T A (Some t) None g f h = tt
switch_made Q T A (Some t) (Some x) g f h = g t x f h

module _ (U : Scope → Place → Exp16 → Type 0) (P : Cells → Type 0) (b : Around) (w : meaning.World) (z : World) (vars : List Variable) (from to : ℕ) (accepted : BreaksNone b.syntax program_rules) (leaves : Leaves U P b w z vars from to) where
  abbrev Context : ℕ → Scope → InScope → Type 0
  Context n s who = Within vars b.syntax w.around.roots from to n s who

  later : (n next : ℕ) (s : Scope) (who : InScope) → n ≤ next → next ≤ to → Context n s who → Context next s who
  later n next s who le fits h = record { context = context_later b.syntax w.around.roots from to n next s who le fits h.context; variables = h.variables }

  abbrev seats : InScope → List NamedSeat
  seats who = seats_in b.syntax w.around.roots who

  -- in all moments that are one, whatever case is taken
  abbrev Alike : Scope → InScope → List Variable → Stmt16 → Statement → Type 0
  Alike s who vs x r =
      (taken : CaseLabel → Bool) (ran : Option ℕ) (m : sem.Moment) (k : Moment) → Shown P b.syntax who m k →
      LeftBehind P b.syntax who vs (run w s taken x m) (ready.run z ran r k)

  abbrev RunningAlike : Scope → InScope → List Variable → Stmt16 → Statement → Type 0
  RunningAlike s who vs x r =
      (taken : CaseLabel → Bool) (ran : Option ℕ) (m : sem.Moment) (k : Moment) → Shown P b.syntax who m k → m.stopped ≡ None →
      LeftBehind P b.syntax who vs (run w s taken x m) (ready.run z ran r k)

  -- nothing runs once an error stopped the parser
  stopped_stays : (who : InScope) (vs : List Variable) (m x : sem.Moment) (k y : Moment) (e : ParserError) → x ≡ m → y ≡ k → m.stopped ≡ Some e → Shown P b.syntax who m k → LeftBehind P b.syntax who vs x y
  stopped_stays who vs m x k y e same alike is h = record {
    some = [];
    shown = subst (λ (p : sem.Moment). Shown P b.syntax who p y) (sym same) (subst (λ (q : Moment). Shown P b.syntax who m q) (sym alike) h);
    all = λ none. absurd (never (x.stopped) e none (ap (λ (p : sem.Moment). p.stopped) same ∙ is));
  } where
    never : (o : Option ParserError) (e : ParserError) → o ≡ None → o ≡ Some e → ⊥
    never None e x y = cc y
    never (Some d) e x y = cc x

  either_way : (s : Scope) (who : InScope) (vs : List Variable) (x : Stmt16) (r : Statement) → RunningAlike s who vs x r → Alike s who vs x r
  either_way s who vs x r f taken ran m k h = by m.stopped refl where
    by : (o : Option ParserError) → m.stopped ≡ o → LeftBehind P b.syntax who vs (run w s taken x m) (ready.run z ran r k)
    by None e = f taken ran m k h e
    by (Some e) is =
        stopped_stays who vs m (run w s taken x m) k (ready.run z ran r k) e (run_stopped w x s taken m (is_stopped_by m.stopped e is))
        (ready_stopped z r ran k (is_stopped_by k.stopped e (sym h.shows.stopped ∙ is))) is h

  -- one statement behind another one
  in_order : (s t : Scope) (who : InScope) (first last : List Variable) (x y : Stmt16) (q r : Statement) → Alike s who first x q → Alike t (with_inner_ones first who) last y r
      → (taken : CaseLabel → Bool) (ran : Option ℕ) (m : sem.Moment) (k : Moment) → Shown P b.syntax who m k → LeftBehind P b.syntax who (last ++ first) (run w t taken y (run w s taken x m)) (ready.run z ran r (ready.run z ran q k))
  in_order s t who first last x y q r f g taken ran m k h = by (run w s taken x m).stopped refl (f taken ran m k h) where
    by : (o : Option ParserError) → (run w s taken x m).stopped ≡ o → LeftBehind P b.syntax who first (run w s taken x m) (ready.run z ran q k) → LeftBehind P b.syntax who (last ++ first) (run w t taken y (run w s taken x m)) (ready.run z ran r (ready.run z ran q k))
    by None runs left =
        let shown : Shown P b.syntax (with_inner_ones first who) (run w s taken x m) (ready.run z ran q k) =
        subst (λ (vs : List Variable). Shown P b.syntax (with_inner_ones vs who) (run w s taken x m) (ready.run z ran q k)) (left.all runs) left.shown in
        let further : LeftBehind P b.syntax (with_inner_ones first who) last (run w t taken y (run w s taken x m)) (ready.run z ran r (ready.run z ran q k)) = g taken ran (run w s taken x m) (ready.run z ran q k) shown in
        record {
          some = further.some ++ first;
          shown = subst (λ (vs : List Variable). Shown P b.syntax (record who { inner = vs }) (run w t taken y (run w s taken x m)) (ready.run z ran r (ready.run z ran q k))) (sym (append_assoc further.some first who.inner)) further.shown;
          all = λ none. ap (λ (vs : List Variable). vs ++ first) (further.all none);
        }
    by (Some e) is left =
        let same : run w t taken y (run w s taken x m) ≡ run w s taken x m = run_stopped w y t taken (run w s taken x m) (is_stopped_by (run w s taken x m).stopped e is) in
        let alike : ready.run z ran r (ready.run z ran q k) ≡ ready.run z ran q k = ready_stopped z r ran (ready.run z ran q k) (is_stopped_by (ready.run z ran q k).stopped e (sym left.shown.shows.stopped ∙ is)) in
        let stays : LeftBehind P b.syntax (with_inner_ones left.some who) [] (run w t taken y (run w s taken x m)) (ready.run z ran r (ready.run z ran q k)) =
        stopped_stays (with_inner_ones left.some who) [] (run w s taken x m) (run w t taken y (run w s taken x m)) (ready.run z ran q k) (ready.run z ran r (ready.run z ran q k)) e same alike is left.shown in
        record {
          some = left.some;
          shown = subst (λ (p : sem.Moment). Shown P b.syntax (with_inner_ones left.some who) p (ready.run z ran r (ready.run z ran q k))) (sym same) (subst (λ (p : Moment). Shown P b.syntax (with_inner_ones left.some who) (run w s taken x m) p) (sym alike) left.shown);
          all = λ none. absurd (never (run w t taken y (run w s taken x m)).stopped e none (ap (λ (p : sem.Moment). p.stopped) same ∙ is));
        } where
          never : (o : Option ParserError) (e : ParserError) → o ≡ None → o ≡ Some e → ⊥
          never None e x y = cc y
          never (Some d) e x y = cc x

  -- a block leaves the names as they were
  closes : (s : Scope) (who : InScope) (vs : List Variable) (x : Stmt16) (r : Statement) → Alike s who vs x r → (ran : Option ℕ) (before m : sem.Moment) (k : Moment) → Shown P b.syntax who m k → sem.variable_count before.frame.inner ≡ length who.inner → Shown P b.syntax who (closed before (run w s no_label x m)) (ready.run z ran r k)
  closes s who vs x r f ran before m k h same =
      let left : LeftBehind P b.syntax who vs (run w s no_label x m) (ready.run z ran r k) = f no_label ran m k h in
      closed_shows P b.syntax who before (run w s no_label x m) (ready.run z ran r k) left.some same left.shown

  none_declared : (who : InScope) (m : sem.Moment) (k : Moment) → Shown P b.syntax who m k → LeftBehind P b.syntax who [] m k
  none_declared who m k h = record { some = []; shown = h; all = λ none. refl }

  -- a condition with what stands behind it
  module _ (s : Scope) (who : InScope) (c : Exp16) (t : Test) (x y : sem.Moment → sem.Moment) (q r : Statement) (tests : (m : sem.Moment) (k : Moment) → Shown P b.syntax who m k → m.stopped ≡ None → ValuedShows P b.syntax who (condition w s c m) (test_value z.apply t k))
      (first : (m : sem.Moment) (k : Moment) → Shown P b.syntax who m k → Shown P b.syntax who (x m) (ready.run z None q k)) (second : (m : sem.Moment) (k : Moment) → Shown P b.syntax who m k → Shown P b.syntax who (y m) (ready.run z None r k))
      (first_stays : (m : sem.Moment) → is_some m.stopped ≡ true → (k : Moment) → Shown P b.syntax who m k → Shown P b.syntax who (x m) k) (second_stays : (m : sem.Moment) → is_some m.stopped ≡ true → (k : Moment) → Shown P b.syntax who m k → Shown P b.syntax who (y m) k) where
    one_of : (v : Bool) (m : sem.Moment) (k : Moment) → Shown P b.syntax who m k → Shown P b.syntax who (cond v (x m) (y m)) (cond v (ready.run z None q k) (ready.run z None r k))
    one_of true m k h = first m k h
    one_of false m k h = second m k h

    stays : (v : Bool) (m : sem.Moment) (k : Moment) → is_some m.stopped ≡ true → Shown P b.syntax who m k → Shown P b.syntax who (cond v (x m) (y m)) k
    stays true m k is h = first_stays m is k h
    stays false m k is h = second_stays m is k h

    abbrev positive_or : sem_expressions.Valued → sem.Moment
    positive_or v = cond (is_true v.value) (x v.moment) (y v.moment)

    by_value : (v : sem_expressions.Valued) (u : Valued) → ValuedShows P b.syntax who v u → Shown P b.syntax who (positive_or v) (with_test u (λ p n. cond (is_true p) (ready.run z None q n) (ready.run z None r n)))
    by_value v u (inl h) =
        subst (λ (end : Ended). Shown P b.syntax who (positive_or v) (with_test (record { value = end; moment = u.moment }) (λ p n. cond (is_true p) (ready.run z None q n) (ready.run z None r n)))) (sym h.0)
        (one_of (is_true v.value) v.moment u.moment h.2)
    by_value v u (inr h) =
        subst (λ (end : Ended). Shown P b.syntax who (positive_or v) (with_test (record { value = end; moment = u.moment }) (λ p n. cond (is_true p) (ready.run z None q n) (ready.run z None r n)))) (sym h.1)
        (stays (is_true v.value) v.moment (blocks.raised h.0 u.moment) (is_stopped_by v.moment.stopped h.0 h.2) h.3)

    chosen : (m : sem.Moment) (k : Moment) → Shown P b.syntax who m k → m.stopped ≡ None → Shown P b.syntax who (positive_or (condition w s c (sem.ticked m))) (with_test (test_value z.apply t (blocks.ticked k)) (λ p n. cond (is_true p) (ready.run z None q n) (ready.run z None r n)))
    chosen m k h runs =
        by_value (condition w s c (sem.ticked m)) (test_value z.apply t (blocks.ticked k)) (tests (sem.ticked m) (blocks.ticked k) (ticked_shown P b.syntax who m k h) runs)

  -- closing where nothing ran
  close_stays : (who : InScope) (before m : sem.Moment) (k : Moment) → sem.variable_count before.frame.inner ≡ length who.inner → Shown P b.syntax who m k → Shown P b.syntax who (closed before m) k
  close_stays who before m k is h = closed_shows P b.syntax who before m k [] is h

  -- what holds of a statement, and of the statements of cases

  abbrev Does : Stmt16 → Type 0
  Does x =
      (s : Scope) (who : InScope) (n : ℕ) → Context n s who → StatementMeets U s x →
      AreOfKinds (variable_kinds b.syntax) n (kinds_in s x) → n + length (kinds_in s x) ≤ to →
      IfSome (ready_of_statement b s (seats who) n x) (Alike s who (declared_from s n x) x)

  abbrev HaveBodies : Stmt16 → Type 0
  HaveBodies x =
      (s : Scope) (who : InScope) (n : ℕ) → Context n s who → StatementMeets U s x →
      AreOfKinds (variable_kinds b.syntax) n (kinds_in s x) → n + length (kinds_in s x) ≤ to →
      Bodies P b w z s (seats who) n who x

  nothing_within : (x : Stmt16) → ((s : Scope) (who : InScope) (n : ℕ) → Bodies P b w z s (seats who) n who x) → HaveBodies x
  nothing_within x f s who n at keeps are fits = f s who n

  some_weaker : (A B : Statement → Type 0) (o : Option Statement) → ((r : Statement) → A r → B r) → IfSome o A → IfSome o B
  some_weaker A B None f h = tt
  some_weaker A B (Some r) f h = f r h

  running_is : {A : Type 0} (o : Option ParserError) (x y : A) → o ≡ None → cond (is_some o) x y ≡ y
  running_is o x y is = ap (λ (p : Option ParserError). cond (is_some p) x y) is

  -- a block of statements, from a moment at which so many variables were in scope
  block_stays : (s : Scope) (who : InScope) (x : Stmt16) (before m : sem.Moment) (k : Moment) → sem.variable_count before.frame.inner ≡ length who.inner → is_some m.stopped ≡ true → Shown P b.syntax who m k → Shown P b.syntax who (closed before (run w s no_label x m)) k
  block_stays s who x before m k same is h =
      subst (λ (y : sem.Moment). Shown P b.syntax who (closed before y) k) (sym (run_stopped w x s no_label m is)) (close_stays who before m k same h)

  closed_in : (v : Bool) (before x y : sem.Moment) → closed before (cond v x y) ≡ cond v (closed before x) (closed before y)
  closed_in true before x y = refl
  closed_in false before x y = refl

  all_ends : (E : Option Name → Option ℕ → Statement → Type 0) (p : Option Statement) → ((o : Option Name) (ran : Option ℕ) → ActionsAlike b o ran → IfSome p (E o ran)) → IfSome p (λ r. (o : Option Name) (ran : Option ℕ) → ActionsAlike b o ran → E o ran r)
  all_ends E None f = tt
  all_ends E (Some r) f = f

  abbrev Tests : Scope → InScope → Exp16 → Test → Type 0
  Tests s who c t =
      (m : sem.Moment) (k : Moment) → Shown P b.syntax who m k → m.stopped ≡ None → ValuedShows P b.syntax who (condition w s c m) (test_value z.apply t k)

  abbrev Runs : InScope → Statement → Type 0
  Runs who r = (m : sem.Moment) (k : Moment) → Shown P b.syntax who m k → Shown P b.syntax who m (ready.run z None r k)

  then_does : (s : Scope) (who : InScope) (n : ℕ) (c : Exp16) (positive : Stmt16) (vs : List Variable) (t : Test) (q r : Statement) → Tests s who c t → Alike s who vs positive q → Runs who r → Alike s who [] (if_then c positive) (branch t q r)
  then_does s who n c positive vs t q r tests f rest =
      either_way s who [] (if_then c positive) (branch t q r) (λ taken ran m k h runs.
      let same : sem.variable_count m.frame.inner ≡ length who.inner = inner_counted P b.syntax who m k h in
      none_declared who (run w s taken (if_then c positive) m) (ready.run z ran (branch t q r) k)
      (subst (λ (y : sem.Moment). Shown P b.syntax who y (ready.run z ran (branch t q r) k)) (sym (running_is m.stopped m _ runs))
      (subst (λ (y : Moment). Shown P b.syntax who (positive_or s who c t (λ y. closed m (run w s no_label positive y)) (λ y. y) q r tests (λ y j g. closes s who vs positive q f None m y j g same) (λ y j g. rest y j g) (λ y is j g. block_stays s who positive m y j same is g) (λ y is j g. g) (condition w s c (sem.ticked m))) y) (sym (running_is k.stopped k _ (sym h.shows.stopped ∙ runs)))
      (chosen s who c t (λ y. closed m (run w s no_label positive y)) (λ y. y) q r tests (λ y j g. closes s who vs positive q f None m y j g same) (λ y j g. rest y j g) (λ y is j g. block_stays s who positive m y j same is g) (λ y is j g. g) m k h runs))))

  else_does : (s : Scope) (who : InScope) (c : Exp16) (positive negative : Stmt16) (vs us : List Variable) (t : Test) (q r : Statement) → Tests s who c t → Alike s who vs positive q → Alike s who us negative r → Alike s who [] (if_else c positive negative) (branch t q r)
  else_does s who c positive negative vs us t q r tests f g =
      either_way s who [] (if_else c positive negative) (branch t q r) (λ taken ran m k h runs.
      let same : sem.variable_count m.frame.inner ≡ length who.inner = inner_counted P b.syntax who m k h in
      let v : sem_expressions.Valued = condition w s c (sem.ticked m) in
      none_declared who (run w s taken (if_else c positive negative) m) (ready.run z ran (branch t q r) k)
      (subst (λ (y : sem.Moment). Shown P b.syntax who y (ready.run z ran (branch t q r) k)) (sym (running_is m.stopped m _ runs ∙ closed_in (is_true v.value) m (run w s no_label positive v.moment) (run w s no_label negative v.moment)))
      (subst (λ (y : Moment). Shown P b.syntax who (cond (is_true v.value) (closed m (run w s no_label positive v.moment)) (closed m (run w s no_label negative v.moment))) y) (sym (running_is k.stopped k _ (sym h.shows.stopped ∙ runs)))
      (chosen s who c t (λ y. closed m (run w s no_label positive y)) (λ y. closed m (run w s no_label negative y)) q r tests (λ y j e. closes s who vs positive q f None m y j e same) (λ y j e. closes s who us negative r g None m y j e same) (λ y is j e. block_stays s who positive m y j same is e) (λ y is j e. block_stays s who negative m y j same is e) m k h runs))))

  abbrev TableDoes : InScope → Name → ℕ → Type 0
  TableDoes who text table =
      (m : sem.Moment) (k : Moment) → Shown P b.syntax who m k → m.stopped ≡ None → AppliedShows P b who (w.apply text m) (z.apply table k)

  switch_does : (s : Scope) (who : InScope) (n : ℕ) (text : Name) (cases : Stmt16) (table : ℕ) (r : Statement) → TableDoes who text table → ((o : Option Name) (ran : Option ℕ) → ActionsAlike b o ran → Ends P b w z s (seats who) n who (chosen_label o cases) ran cases r) → Alike s who [] (switch text cases) (ready.switch table r)
  switch_does s who n text cases table r does ends =
      either_way s who [] (switch text cases) (ready.switch table r) (λ taken ran m k h runs.
      let a = does (sem.ticked m) (blocks.ticked k) (ticked_shown P b.syntax who m k h) runs in
      none_declared who (run w s taken (switch text cases) m) (ready.run z ran (ready.switch table r) k)
      (subst (λ (y : sem.Moment). Shown P b.syntax who y (ready.run z ran (ready.switch table r) k)) (sym (running_is m.stopped m _ runs))
      (subst (λ (y : Moment). Shown P b.syntax who (run w s (chosen_label (w.apply text (sem.ticked m)).action cases) cases (w.apply text (sem.ticked m)).moment) y) (sym (running_is k.stopped k _ (sym h.shows.stopped ∙ runs)))
      (ends (w.apply text (sem.ticked m)).action (z.apply table (blocks.ticked k)).action a.action (w.apply text (sem.ticked m)).moment (z.apply table (blocks.ticked k)).moment a.moment))))

  pub all_do : (x : Stmt16) → Does x × HaveBodies x
  all_do no_statements = ((λ s who n at keeps are fits taken ran m k h. none_declared who m k h), nothing_within no_statements (λ s who n. tt))
  all_do ((then) before last) =
      let f = all_do before in
      let g = all_do last in (
        (λ s who n at keeps are fits.
            let two : Both (variable_kinds b.syntax) n to (kinds_in s before) (kinds_in (behind before s) last) = both_kinds (variable_kinds b.syntax) n to (kinds_in s ((then) before last)) (kinds_in s before) (kinds_in (behind before s) last) (kinds_then s before last) are fits in
            let middle : InScope = with_inner_ones (declared_from s n before) who in
            let next : ℕ = n + length (kinds_in s before) in
            let further : Context next (behind before s) middle = record { context = context_behind b.syntax w.around.roots from to before n s who two.front_are two.front_fits at.context; variables = at.variables } in
            both_made (Alike s who (declared_from s n ((then) before last)) ((then) before last)) (Alike s who (declared_from s n before) before) (Alike (behind before s) middle (declared_from (behind before s) next last) last) sequence
            (ready_of_statement b s (seats who) n before) (ready_of_statement b (behind before s) (seats_behind b s n before (seats who)) next last)
            (λ q r x y taken ran m k h. in_order s (behind before s) who (declared_from s n before) (declared_from (behind before s) next last) before last q r x y taken ran m k h)
            (f.0 s who n at keeps.0 two.front_are two.front_fits)
            (subst (λ (l : List NamedSeat). IfSome (ready_of_statement b (behind before s) l next last) (Alike (behind before s) middle (declared_from (behind before s) next last) last)) (sym (seats_are b w.around.roots before n s who))
            (g.0 (behind before s) middle next further keeps.1 two.back_are two.back_fits))),
        nothing_within ((then) before last) (λ s who n. tt),
      )
  all_do (block body) =
      let f = all_do body in (
        (λ s who n at keeps are fits.
            some_weaker (Alike s who (declared_from s n body) body) (Alike s who [] (block body)) (ready_of_statement b s (seats who) n body)
            (λ r g taken ran m k h. none_declared who (closed m (run w s no_label body m)) (ready.run z ran r k) (closes s who (declared_from s n body) body r g ran m m k h (inner_counted P b.syntax who m k h)))
            (f.0 s who n at keeps are fits)),
        nothing_within (block body) (λ s who n. tt),
      )
  all_do empty = ((λ s who n at keeps are fits taken ran m k h. none_declared who m k h), nothing_within empty (λ s who n. tt))
  all_do (var t called) = (
    (λ s who n at keeps are fits.
        some_weaker (RunsAlike P b w z s who (variable called n ∷ []) (var t called)) (Alike s who (variable called n ∷ []) (var t called)) (start_ready b s n)
        (λ r f. either_way s who (variable called n ∷ []) (var t called) r (λ taken ran m k h runs. f ran m k h runs))
        (start_shows P b w z from to s who n t called at.context are fits)),
    nothing_within (var t called) (λ s who n. tt),
  )
  all_do (var_is t called e) = (
    (λ s who n at keeps are fits.
        some_weaker (RunsAlike P b w z s who (variable called n ∷ []) (var_is t called e)) (Alike s who (variable called n ∷ []) (var_is t called e)) (ready_of_statement b s (seats who) n (var_is t called e))
        (λ r f. either_way s who (variable called n ∷ []) (var_is t called e) r (λ taken ran m k h runs. f ran m k h runs))
        (leaves.initials s who n t called e at are fits keeps)),
    nothing_within (var_is t called e) (λ s who n. tt),
  )
  all_do (assign target e) = (
    (λ s who n at keeps are fits.
        some_weaker (RunsAlike P b w z s who [] (assign target e)) (Alike s who [] (assign target e)) (ready_of_statement b s (seats who) n (assign target e))
        (λ r f. either_way s who [] (assign target e) r (λ taken ran m k h runs. f ran m k h runs))
        (leaves.assigns s who n target e at keeps)),
    nothing_within (assign target e) (λ s who n. tt),
  )
  all_do (expression e) = (
    (λ s who n at keeps are fits.
        some_weaker (RunsAlike P b w z s who [] (expression e)) (Alike s who [] (expression e)) (ready_of_statement b s (seats who) n (expression e))
        (λ r f. either_way s who [] (expression e) r (λ taken ran m k h runs. f ran m k h runs))
        (leaves.calls s who n e at keeps)),
    nothing_within (expression e) (λ s who n. tt),
  )
  all_do (if_then c positive) =
      let f = all_do positive in (
        (λ s who n at keeps are fits.
            branch_made (Alike s who [] (if_then c positive)) (Tests s who c) (Alike s who (declared_from s n positive) positive) (Runs who) (ready_test s (seats who) (table_found b) (value boolean) c) (ready_of_statement b s (seats who) n positive) (Some nothing)
            (λ t q r x y v. then_does s who n c positive (declared_from s n positive) t q r x y v)
            (leaves.conditions s who n c at keeps.0) (f.0 s who n at keeps.1 are fits) (λ m k h. h)),
        nothing_within (if_then c positive) (λ s who n. tt),
      )
  all_do (if_else c positive negative) =
      let f = all_do positive in
      let g = all_do negative in (
        (λ s who n at keeps are fits.
            let two : Both (variable_kinds b.syntax) n to (kinds_in s positive) (kinds_in s negative) = both_kinds (variable_kinds b.syntax) n to (kinds_in s (if_else c positive negative)) (kinds_in s positive) (kinds_in s negative) (kinds_else s c positive negative) are fits in
            let next : ℕ = n + length (kinds_in s positive) in
            branch_made (Alike s who [] (if_else c positive negative)) (Tests s who c) (Alike s who (declared_from s n positive) positive) (Alike s who (declared_from s next negative) negative) (ready_test s (seats who) (table_found b) (value boolean) c) (ready_of_statement b s (seats who) n positive) (ready_of_statement b s (seats who) next negative)
            (λ t q r x y v. else_does s who c positive negative (declared_from s n positive) (declared_from s next negative) t q r x y v)
            (leaves.conditions s who n c at keeps.0) (f.0 s who n at keeps.1 two.front_are two.front_fits)
            (g.0 s who next (later n next s who (omega arith) two.front_fits at) keeps.2 two.back_are two.back_fits)),
        nothing_within (if_else c positive negative) (λ s who n. tt),
      )
  all_do (switch text cases) =
      let f = all_do cases in (
        (λ s who n at keeps are fits.
            switch_made (Alike s who [] (switch text cases)) (TableDoes who text) (λ r. (o : Option Name) (ran : Option ℕ) → ActionsAlike b o ran → Ends P b w z s (seats who) n who (chosen_label o cases) ran cases r) (table_found b text) (ready_in b s (seats who) n (labelled_ones (ready_in b s (seats who) n the_default cases)) cases)
            (λ table r x y. switch_does s who n text cases table r x y)
            (leaves.tables s who n text at)
            (all_ends (λ o ran r. Ends P b w z s (seats who) n who (chosen_label o cases) ran cases r) (ready_in b s (seats who) n (labelled_ones (ready_in b s (seats who) n the_default cases)) cases)
            (λ o ran alike. cases_end P b w z s (seats who) n who o ran alike cases (f.1 s who n at keeps are fits)))),
        nothing_within (switch text cases) (λ s who n. tt),
      )
  all_do no_cases = ((λ s who n at keeps are fits. tt), nothing_within no_cases (λ s who n. tt))
  all_do (case_of before l body) =
      let f = all_do before in
      let g = all_do body in (
        (λ s who n at keeps are fits. tt),
        (λ s who n at keeps are fits.
            let two : Both (variable_kinds b.syntax) n to (kinds_in s before) (kinds_in s body) = both_kinds (variable_kinds b.syntax) n to (kinds_in s (case_of before l body)) (kinds_in s before) (kinds_in s body) (kinds_cases s before body l) are fits in
            let next : ℕ = n + length (kinds_in s before) in (
              f.1 s who n at keeps.0 two.front_are two.front_fits,
              some_weaker (Alike s who (declared_from s next body) body) (Closes P b w z s (seats who) n who body) (ready_of_statement b s (seats who) next body)
                  (λ r h m k shown. closes s who (declared_from s next body) body r h None m m k shown (inner_counted P b.syntax who m k shown))
                  (g.0 s who next (later n next s who (omega arith) two.front_fits at) keeps.1 two.back_are two.back_fits),
            )),
      )

pub statements_show : StatementsShow
statements_show calls b w z from to x s who n tests vars accepted leaves at keeps are fits = (all_do (Judged tests) (Waits calls b.syntax) b w z vars from to accepted leaves x).0 s who n at keeps are fits
