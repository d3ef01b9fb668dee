-- The statements of a control do what those of P4_14 do, where its tables do.
use Rattle.std.proofs.Common.{◌≡◌, Bool, true, false, not, cond, None, Some, Option, [], length, refl, sym, ap, ap₂, ◌∙◌, subst, arith}
use Rattle.std.specs.Prelude.{codes, is_some}
use Rattle.p414_syntax.specs.declared.node.Label.{Label}
use Rattle.p414_syntax.specs.declared.node.Label.TheVariants as label
use Rattle.p414_syntax.specs.Tree.{Expr, Stmt, no_statements as nothing14, then as then14, apply, apply_branches, if_then as if14, call as call14, no_else, else_block, else_if, no_branches, branch}
use Rattle.p414_syntax.specs.Names.{Name}
use Rattle.p414_sem.specs.Effects.{Moment as Moment14}
use Rattle.p414_sem.specs.Conditions.{holds}
use Rattle.p414_sem.specs.Controls.{Setting as Setting14, Applied as Applied14, applied as applied14, has_block_of, runs_block, run as run14}
use Rattle.p416_syntax.specs.declared.node.CaseLabel.{CaseLabel}
use Rattle.p416_syntax.specs.declared.node.CaseLabel.TheVariants as case_label
use Rattle.p416_syntax.specs.Tree.{Exp16, name, no_arguments, Stmt16, block as in_braces, expression, if_then, if_else, switch, case_of}
use Rattle.p416_syntax.specs.Kinds.{Kind, boolean}
use Rattle.p416_syntax.specs.Scopes.{Scope}
use Rattle.p416_syntax.specs.Calls.{Place, value, owner, method_signature}
use Rattle.p416_syntax.specs.Expressions.{kind_of, call_kind}
use Rattle.p416_syntax.specs.Statements.{behind}
use Rattle.v1_core.specs.Values.{Value, a_truth, is_true}
use Rattle.v1_core.specs.Frames.{Moment, ticked, closed}
use Rattle.v1_core.specs.Surroundings.{Applied}
use Rattle.v1_core.specs.Expressions.{Valued, valued, value_of, member_value, method_value}
use Rattle.v1_core.specs.Calls.{method_call}
use Rattle.v1_core.specs.Statements.{condition, names_action as names16, is_default, has_label, chosen_label, no_label, run}
use Rattle.lower_laws_base.specs.Context.{Lowering, words_of, Sees, Aside, now, Looks}
use Rattle.lower_laws_base.proofs.States.{stands_ticked, stands_at, seen_now}
use Rattle.lower_laws_base.proofs.Writes.{closed_same}
use Rattle.lower_laws_controls.specs.Conditions.{truth_exp}
use Rattle.lower_laws_controls.specs.Controls.{Plan, Way, block, at_hit, at_miss, at_actions, has_outcome, is_nothing, is_no_cases, switch_stmt, apply_exp, hit_exp, case_stmt, control_stmt}
use Rattle.lower_laws_controls.specs.Alike.{Level, AppliedAgrees, TableStands, IsOutcome, LabelFits, BranchesFit, StatementFits}
use Rattle.lower_laws_controls.proofs.Holding.{shows_condition}
use Rattle.lower_laws_controls.proofs.Branches.{has_taken, TakenOnce, FollowsCopy, Follows, labels_same, none_taken}
use Rattle.lower_laws_controls.proofs.Joined.{behind_joined, run_joined, nothing_runs, no_cases_run}
use Rattle.lower_laws_controls.proofs.Labels.{named_same, follows, once}
use Rattle.lower_laws_base.specs.Gives.{Shows}

-- what conditions of a block look at
pub looks_at : (c : Lowering) (s : Scope) → Sees c s [] → c.parameters ≡ [] → (aside : Aside) (m : Moment14) (n : Moment) → Level c.layout aside m n → Looks c s [] [] [] now m.state n.frame
looks_at c s sees none aside m n stands =
    record { sees = sees; inner = stands.inner; count = refl; given = λ j lt. absurd (omega (arith, lt, ap length none)); has = tt; seen = seen_now c [] [] aside m n stands }

module _ (c : Lowering) (s : Scope) (sees : Sees c s []) (none : c.parameters ≡ []) (aside : Aside) (d : Setting14) (k : Plan) (P : Name → Type 0) (tables : (t : Name) → P t → TableStands c s d k t) where
  abbrev low : Way → Stmt → Stmt16
  low way x = control_stmt (words_of c) d.decls k way x

  abbrev Fit : Way → Stmt → Type 0
  Fit way x = StatementFits c.layout d.decls P way x

  abbrev pub ran : (CaseLabel → Bool) → Stmt16 → Moment → Moment
  ran taken x n = run c.world s taken x n

  -- a block ends as it is
  ended : (m : Moment14) (n : Moment) (p : Moment14) (q : Moment) → Level c.layout aside m n → Level c.layout aside p q → closed n q ≡ q
  ended m n p q before done = closed_same [] [] [] n q before.inner done.inner before.count done.count

  -- braces change nothing
  pub braced : (m : Moment14) (n : Moment) (p : Moment14) (x : Stmt16) → Level c.layout aside m n → Level c.layout aside p (ran no_label x n) → Level c.layout aside p (ran no_label (in_braces x) n)
  braced m n p x before done = stands_at c.layout [] [] aside p p _ _ refl (ended m n p (ran no_label x n) before done) done

  level_at : (m p : Moment14) (n q : Moment) → p ≡ m → q ≡ n → Level c.layout aside m n → Level c.layout aside p q
  level_at m p n q a b stands = stands_at c.layout [] [] aside m p n q a b stands

  began : (m : Moment14) (n : Moment) → Level c.layout aside m n → Level c.layout aside m (ticked n)
  began m n stands = stands_ticked c.layout [] [] aside m n stands

  -- `if` with two blocks, whose condition gives a truth value and leaves a moment

  pub branched : (n o : Moment) (e : Exp16) (v : Value) (b : Bool) (x y : Stmt16) → n.stopped ≡ None → condition c.world s e (ticked n) ≡ valued v o → is_true v ≡ b → ran no_label (if_else e x y) n ≡ closed n (cond b (ran no_label x o) (ran no_label y o))
  branched n o e v b x y runs is true_is =
      ap (λ t. cond t n (let z = condition c.world s e (ticked n) in closed n (cond (is_true z.value) (ran no_label x z.moment) (ran no_label y z.moment)))) (ap is_some runs)
      ∙ ap (λ (z : Valued). closed n (cond (is_true z.value) (ran no_label x z.moment) (ran no_label y z.moment))) is
      ∙ ap (λ t. closed n (cond t (ran no_label x o) (ran no_label y o))) true_is

  pub either : (m p : Moment14) (n o : Moment) (e : Exp16) (b : Bool) (x y : Stmt16) → Level c.layout aside m n → condition c.world s e (ticked n) ≡ valued (a_truth b) o → Level c.layout aside p (cond b (ran no_label x o) (ran no_label y o)) → Level c.layout aside p (ran no_label (if_else e x y) n)
  either m p n o e b x y stands is done =
      level_at _ _ _ _ refl (branched n o e (a_truth b) b x y stands.both.packet.runs is refl ∙ ended m n p _ stands done) done

  -- applications

  applies : (t : Name) → TableStands c s d k t → (n : Moment) → n.stopped ≡ None → ran no_label (expression (apply_exp k t)) n ≡ (c.world.apply (k.table t) (ticked n)).moment
  applies t table n runs =
      ap (λ b. cond b n (method_call c.world s (kind_of s (name (k.table t))) (name (k.table t)) (codes "apply") no_arguments (ticked n))) (ap is_some runs)
      ∙ ap (λ (z : Kind). method_call c.world s z (name (k.table t)) (codes "apply") no_arguments (ticked n)) table.sort

  hit_value : (t : Name) → TableStands c s d k t → (p : Place) (n : Moment) → value_of c.world s p (hit_exp k t) n ≡ valued (a_truth (c.world.apply (k.table t) n).hit) (c.world.apply (k.table t) n).moment
  hit_value t table p n =
      ap (λ (z : Kind). member_value (call_kind (method_signature z (codes "apply"))) (codes "hit") (method_value c.world z (name (k.table t)) (value_of c.world s owner (name (k.table t)) n))) table.sort

  -- what is shown of each statement

  abbrev Law : Way → Stmt → Type 0
  Law block x = (taken : Label → Bool) (m : Moment14) (n : Moment) → Level c.layout aside m n → Level c.layout aside (run14 d taken x m) (ran no_label (low block x) n)
  Law at_hit x = (taken : Label → Bool) → taken label.Hit ≡ true → taken label.Miss ≡ false → (m : Moment14) (n : Moment) → Level c.layout aside m n → Level c.layout aside (run14 d taken x m) (ran no_label (low at_hit x) n)
  Law at_miss x = (taken : Label → Bool) → taken label.Hit ≡ false → taken label.Miss ≡ true → (m : Moment14) (n : Moment) → Level c.layout aside m n → Level c.layout aside (run14 d taken x m) (ran no_label (low at_miss x) n)
  Law (at_actions t) x = (taken : Label → Bool) (cases : CaseLabel → Bool) → Follows (k.copy t) taken cases x → TakenOnce taken x → (m : Moment14) (n : Moment) → Level c.layout aside m n → Level c.layout aside (run14 d taken x m) (ran cases (low (at_actions t) x) n)

  -- no statement of a control declares a variable
  stays : (x : Stmt) → behind (low block x) s ≡ s
  stays nothing14 = refl
  stays (then14 a b) = behind_joined (low block a) (low block b) s ∙ ap (behind (low block b)) (stays a) ∙ stays b
  stays (apply t) = refl
  stays (apply_branches t bs) = by (has_outcome bs) (is_no_cases (low (at_actions t) bs)) where
    by : (b e : Bool) → behind (cond b (if_else (hit_exp k t) (in_braces (low at_hit bs)) (in_braces (low at_miss bs))) (cond e (expression (apply_exp k t)) (switch (k.table t) (low (at_actions t) bs)))) s ≡ s
    by true e = refl
    by false true = refl
    by false false = refl
  stays (if14 e a other) = by (is_nothing (low block other)) where
    by : (b : Bool) → behind (cond b (if_then (truth_exp (words_of c) d.decls e) (in_braces (low block a))) (if_else (truth_exp (words_of c) d.decls e) (in_braces (low block a)) (low block other))) s ≡ s
    by true = refl
    by false = refl
  stays (call14 a) = refl
  stays no_else = refl
  stays (else_block a) = refl
  stays (else_if a) = stays a
  stays no_branches = refl
  stays (branch before l body) = refl

  sequence : (a b : Stmt) → Law block a → Law block b → Law block (then14 a b)
  sequence a b f g taken m n stands =
      level_at _ _ _ _ refl
      (run_joined c.world (low block a) (low block b) s n ∙ ap (λ (z : Scope). run c.world z no_label (low block b) (ran no_label (low block a) n)) (stays a))
      (g taken (run14 d taken a m) (ran no_label (low block a) n) (f taken m n stands))

  -- an application with blocks for its match
  outcomes : (t : Name) → P t → (bs : Stmt) → Law at_hit bs → Law at_miss bs → (taken : Label → Bool) (m : Moment14) (n : Moment) → Level c.layout aside m n → Level c.layout aside (run14 d taken (apply_branches t bs) m) (ran no_label (if_else (hit_exp k t) (in_braces (low at_hit bs)) (in_braces (low at_miss bs))) n)
  outcomes t is bs hits misses taken m n stands = by (applied14 d t m) ((tables t is).applies aside m (ticked n) (began m n stands)) where
    y : Applied
    y = c.world.apply (k.table t) (ticked n)

    by : (x : Applied14) → AppliedAgrees c.layout aside (k.copy t) x y → Level c.layout aside (run14 d (runs_block x (has_block_of x.action bs)) bs x.moment) (ran no_label (if_else (hit_exp k t) (in_braces (low at_hit bs)) (in_braces (low at_miss bs))) n)
    by x agree = either m _ n y.moment (hit_exp k t) x.hit (in_braces (low at_hit bs)) (in_braces (low at_miss bs)) stands (hit_value t (tables t is) (value boolean) (ticked n) ∙ ap (λ h. valued (a_truth h) y.moment) agree.hit) (of x.hit refl) where
      labels : Label → Bool
      labels = runs_block x (has_block_of x.action bs)

      of : (b : Bool) → x.hit ≡ b → Level c.layout aside (run14 d labels bs x.moment) (cond b (ran no_label (in_braces (low at_hit bs)) y.moment) (ran no_label (in_braces (low at_miss bs)) y.moment))
      of true e = braced _ y.moment _ (low at_hit bs) agree.moment (hits labels e (ap not e) x.moment y.moment agree.moment)
      of false e = braced _ y.moment _ (low at_miss bs) agree.moment (misses labels e (ap not e) x.moment y.moment agree.moment)

  -- an application with blocks for actions
  selects : (t : Name) → P t → (bs : Stmt) → Fit (at_actions t) bs → Law (at_actions t) bs → (taken : Label → Bool) (m : Moment14) (n : Moment) → Level c.layout aside m n → Level c.layout aside (run14 d taken (apply_branches t bs) m) (ran no_label (switch_stmt k t (low (at_actions t) bs)) n)
  selects t is bs fits law taken m n stands = by (applied14 d t m) ((tables t is).applies aside m (ticked n) (began m n stands)) where
    y : Applied
    y = c.world.apply (k.table t) (ticked n)

    cases : Stmt16
    cases = low (at_actions t) bs

    stmt : (e : Bool) → Stmt16
    stmt e = cond e (expression (apply_exp k t)) (switch (k.table t) cases)

    goes : (e : Bool) → is_no_cases cases ≡ e → ran no_label (stmt e) n ≡ ran (chosen_label y.action cases) cases y.moment
    goes true e = applies t (tables t is) n stands.both.packet.runs ∙ sym (no_cases_run c.world s (chosen_label y.action cases) cases y.moment e)
    goes false e = ap (λ b. cond b n (ran (chosen_label y.action cases) cases y.moment)) (ap is_some stands.both.packet.runs)

    by : (x : Applied14) → AppliedAgrees c.layout aside (k.copy t) x y → Level c.layout aside (run14 d (runs_block x (has_block_of x.action bs)) bs x.moment) (ran no_label (switch_stmt k t cases) n)
    by x agree =
        let named = has_block_of x.action bs in
        let differ = (tables t is).copies in
        let same = named_same (words_of c) d.decls k t differ x y.action agree.action c.layout P bs fits in
        level_at _ _ _ _ refl (goes (is_no_cases cases) refl)
        (law (runs_block x named) (chosen_label y.action cases)
        (follows (words_of c) d.decls k t differ x y.action agree.action c.layout P named (chosen_label y.action cases) (λ l. ap (λ b. cond b (names16 y.action l) (is_default l)) same) bs fits (λ e. e))
        (once (words_of c) d.decls k t differ x y.action agree.action c.layout P named bs fits (λ e. e))
        x.moment y.moment agree.moment)

  -- `if`

  tests : (e : Expr) (a other : Stmt) → Fit block (if14 e a other) → Law block a → Law block other → Law block (if14 e a other)
  tests e a other fits f g taken m n stands = by (is_nothing y) refl where
    y : Stmt16
    y = low block other

    h : Bool
    h = holds d.decls m.state e

    shown : Shows c.world s (ticked n) (truth_exp (words_of c) d.decls e) boolean (a_truth h)
    shown = shows_condition c s [] [] [] m.state (ticked n) (looks_at c s sees none aside m (ticked n) (began m n stands)) d.decls e fits.1

    one : (b : Bool) → Level c.layout aside (cond b (run14 d taken a m) (run14 d taken other m)) (cond b (ran no_label (in_braces (low block a)) (ticked n)) (ran no_label (low block other) (ticked n)))
    one true = braced m (ticked n) _ (low block a) (began m n stands) (f taken m (ticked n) (began m n stands))
    one false = g taken m (ticked n) (began m n stands)

    test : Exp16
    test = truth_exp (words_of c) d.decls e

    alone : (b : Bool) → is_nothing y ≡ true → Level c.layout aside (cond b (run14 d taken a m) (run14 d taken other m)) (cond b (ran no_label (in_braces (low block a)) (ticked n)) (ran no_label y (ticked n))) → cond b (closed n (ran no_label (in_braces (low block a)) (ticked n))) (ticked n) ≡ cond b (ran no_label (in_braces (low block a)) (ticked n)) (ran no_label y (ticked n))
    alone true is done = ended m n _ _ stands done
    alone false is done = sym (nothing_runs c.world s y (ticked n) is)

    by : (b : Bool) → is_nothing y ≡ b → Level c.layout aside (cond h (run14 d taken a m) (run14 d taken other m)) (ran no_label (cond b (if_then test (in_braces (low block a))) (if_else test (in_braces (low block a)) y)) n)
    by true is =
        level_at _ _ _ _ refl
        (ap (λ t. cond t n (let z = condition c.world s test (ticked n) in cond (is_true z.value) (closed n (ran no_label (in_braces (low block a)) z.moment)) z.moment)) (ap is_some stands.both.packet.runs)
        ∙ ap (λ (z : Valued). cond (is_true z.value) (closed n (ran no_label (in_braces (low block a)) z.moment)) z.moment) (shown.value (value boolean))
        ∙ alone h is (one h))
        (one h)
    by false is =
        either m _ n (ticked n) test h (in_braces (low block a)) y stands (shown.value (value boolean)) (one h)

  -- a branch behind others

  on_hit : (l : Label) (before body : Stmt) → IsOutcome l → Law at_hit before → Law block body → Law at_hit (branch before l body)
  on_hit label.Hit before body is f g taken hit miss m n stands =
      level_at _ _ _ _ (ap (λ b. cond b (run14 d taken body m) (run14 d taken before m)) hit) refl (g taken m n stands)
  on_hit label.Miss before body is f g taken hit miss m n stands =
      level_at _ _ _ _ (ap (λ b. cond b (run14 d taken body m) (run14 d taken before m)) miss) refl (f taken hit miss m n stands)
  on_hit label.Default before body is f g taken hit miss m n stands = absurd is
  on_hit (label.Action a) before body is f g taken hit miss m n stands = absurd is

  on_miss : (l : Label) (before body : Stmt) → IsOutcome l → Law at_miss before → Law block body → Law at_miss (branch before l body)
  on_miss label.Hit before body is f g taken hit miss m n stands =
      level_at _ _ _ _ (ap (λ b. cond b (run14 d taken body m) (run14 d taken before m)) hit) refl (f taken hit miss m n stands)
  on_miss label.Miss before body is f g taken hit miss m n stands =
      level_at _ _ _ _ (ap (λ b. cond b (run14 d taken body m) (run14 d taken before m)) miss) refl (g taken m n stands)
  on_miss label.Default before body is f g taken hit miss m n stands = absurd is
  on_miss (label.Action a) before body is f g taken hit miss m n stands = absurd is

  -- a case with this label, which is taken where the branch is
  on_case : (t : Name) (l : Label) (k16 : CaseLabel) (before body : Stmt) (taken : Label → Bool) (cases : CaseLabel → Bool) → Fit (at_actions t) before → cases k16 ≡ taken l → has_label cases (low (at_actions t) before) ≡ has_taken taken before → (taken l ≡ true → has_taken taken before ≡ false) → (m : Moment14) (n : Moment) → Level c.layout aside m n → Level c.layout aside (run14 d taken before m) (ran cases (low (at_actions t) before) n) → Level c.layout aside (run14 d taken body m) (ran no_label (low block body) n) → Level c.layout aside (cond (taken l) (run14 d taken body m) (run14 d taken before m)) (ran cases (case_of (low (at_actions t) before) k16 (low block body)) n)
  on_case t l k16 before body taken cases fits same some once m n stands earlier own =
      level_at _ _ _ _ refl
      (ap₂ (λ (h g : Bool). cond h (ran cases (low (at_actions t) before) n) (cond g (closed n (ran no_label (low block body) n)) n)) some same)
      (by (taken l) (has_taken taken before) refl once)
    where
      by : (g h : Bool) → has_taken taken before ≡ h → (g ≡ true → h ≡ false) → Level c.layout aside (cond g (run14 d taken body m) (run14 d taken before m)) (cond h (ran cases (low (at_actions t) before) n) (cond g (closed n (ran no_label (low block body) n)) n))
      by true true e lone = absurd (cc (lone refl))
      by true false e lone = level_at _ _ _ _ refl (ended m n _ _ stands own) own
      by false true e lone = earlier
      by false false e lone = level_at _ _ _ _ (none_taken d c.layout d.decls P t taken before m fits e) refl stands

  on_action : (t : Name) (l : Label) (before body : Stmt) → LabelFits (at_actions t) before l → Fit (at_actions t) before → Law (at_actions t) before → Law block body → Law (at_actions t) (branch before l body)
  on_action t label.Hit before body is fits f g taken cases matches lone m n stands = absurd is.0
  on_action t label.Miss before body is fits f g taken cases matches lone m n stands = absurd is.0
  on_action t label.Default before body is fits f g taken cases matches lone m n stands =
      on_case t label.Default case_label.Default before body taken cases fits matches.0
      (labels_same (words_of c) d.decls k t c.layout P taken cases before fits matches.1) lone.0 m n stands
      (f taken cases matches.1 lone.1 m n stands) (g taken m n stands)
  on_action t (label.Action a) before body is fits f g taken cases matches lone m n stands = by (k.copy t a) matches.0 where
    earlier : Level c.layout aside (run14 d taken before m) (ran cases (low (at_actions t) before) n)
    earlier = f taken cases matches.1 lone.1 m n stands

    by : (o : Option Name) → FollowsCopy o (taken (label.Action a)) cases → Level c.layout aside (cond (taken (label.Action a)) (run14 d taken body m) (run14 d taken before m)) (ran cases (case_stmt o (low (at_actions t) before) (low block body)) n)
    by (Some text) same =
        on_case t (label.Action a) (case_label.Action text) before body taken cases fits same
        (labels_same (words_of c) d.decls k t c.layout P taken cases before fits matches.1) lone.0 m n stands earlier (g taken m n stands)
    by None off =
        level_at _ _ _ _ (ap (λ b. cond b (run14 d taken body m) (run14 d taken before m)) off) refl earlier

  applies_branches : (t : Name) (bs : Stmt) → P t → (b : Bool) → has_outcome bs ≡ b → BranchesFit (λ x. Fit x bs) t b → (Fit at_hit bs → Law at_hit bs) → (Fit at_miss bs → Law at_miss bs) → (Fit (at_actions t) bs → Law (at_actions t) bs) → Law block (apply_branches t bs)
  applies_branches t bs is true e fits hits misses law taken m n stands =
      subst (λ b. Level c.layout aside (run14 d taken (apply_branches t bs) m) (ran no_label (cond b (if_else (hit_exp k t) (in_braces (low at_hit bs)) (in_braces (low at_miss bs))) (switch_stmt k t (low (at_actions t) bs))) n)) (sym e)
      (outcomes t is bs (hits fits.0) (misses fits.1) taken m n stands)
  applies_branches t bs is false e fits hits misses law taken m n stands =
      subst (λ b. Level c.layout aside (run14 d taken (apply_branches t bs) m) (ran no_label (cond b (if_else (hit_exp k t) (in_braces (low at_hit bs)) (in_braces (low at_miss bs))) (switch_stmt k t (low (at_actions t) bs))) n)) (sym e)
      (selects t is bs fits (law fits) taken m n stands)

  pub does : (way : Way) (x : Stmt) → Fit way x → Law way x
  does block nothing14 fits = λ taken m n stands. stands
  does block (then14 a b) fits = sequence a b (does block a fits.1) (does block b fits.2)
  does block (apply t) fits = λ taken m n stands.
      level_at _ _ _ _ refl (applies t (tables t fits.1) n stands.both.packet.runs)
      ((tables t fits.1).applies aside m (ticked n) (began m n stands)).moment
  does block (apply_branches t bs) fits = applies_branches t bs fits.1 (has_outcome bs) refl fits.2 (does at_hit bs) (does at_miss bs) (does (at_actions t) bs)
  does block (if14 e a other) fits = tests e a other fits (does block a fits.2) (does block other fits.3)
  does block (call14 a) fits = absurd fits
  does block no_else fits = λ taken m n stands. stands
  does block (else_block a) fits = λ taken m n stands. braced m n _ (low block a) stands (does block a fits.1 taken m n stands)
  does block (else_if a) fits = does block a fits.1
  does block no_branches fits = absurd fits
  does block (branch before l body) fits = absurd fits.0
  does at_hit no_branches fits = λ taken hit miss m n stands. stands
  does at_hit (branch before l body) fits = on_hit l before body fits.0 (does at_hit before fits.1) (does block body fits.2)
  does at_hit nothing14 fits = absurd fits
  does at_hit (then14 a b) fits = absurd fits.0
  does at_hit (apply a) fits = absurd fits.0
  does at_hit (apply_branches a b) fits = absurd fits.0
  does at_hit (if14 e a b) fits = absurd fits.0
  does at_hit (call14 a) fits = absurd fits
  does at_hit no_else fits = absurd fits
  does at_hit (else_block a) fits = absurd fits.0
  does at_hit (else_if a) fits = absurd fits.0
  does at_miss no_branches fits = λ taken hit miss m n stands. stands
  does at_miss (branch before l body) fits = on_miss l before body fits.0 (does at_miss before fits.1) (does block body fits.2)
  does at_miss nothing14 fits = absurd fits
  does at_miss (then14 a b) fits = absurd fits.0
  does at_miss (apply a) fits = absurd fits.0
  does at_miss (apply_branches a b) fits = absurd fits.0
  does at_miss (if14 e a b) fits = absurd fits.0
  does at_miss (call14 a) fits = absurd fits
  does at_miss no_else fits = absurd fits
  does at_miss (else_block a) fits = absurd fits.0
  does at_miss (else_if a) fits = absurd fits.0
  does (at_actions t) no_branches fits = λ taken cases matches lone m n stands. stands
  does (at_actions t) (branch before l body) fits = on_action t l before body fits.0 fits.1 (does (at_actions t) before fits.1) (does block body fits.2)
  does (at_actions t) nothing14 fits = absurd fits
  does (at_actions t) (then14 a b) fits = absurd fits.0
  does (at_actions t) (apply a) fits = absurd fits.0
  does (at_actions t) (apply_branches a b) fits = absurd fits.0
  does (at_actions t) (if14 e a b) fits = absurd fits.0
  does (at_actions t) (call14 a) fits = absurd fits
  does (at_actions t) no_else fits = absurd fits
  does (at_actions t) (else_block a) fits = absurd fits.0
  does (at_actions t) (else_if a) fits = absurd fits.0
