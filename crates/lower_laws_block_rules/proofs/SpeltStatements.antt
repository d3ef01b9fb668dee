-- Statements of controls are spelt, where names are.
use Rattle.std.proofs.Common.{◌≡◌, ◌⊎◌, inl, inr, Bool, true, false, cond, List, Option, Some, None, refl, sym, subst}
use Rattle.p414_syntax.specs.declared.node.Label.{Label}
use Rattle.p414_syntax.specs.declared.node.Label.TheVariants as label
use Rattle.p414_syntax.specs.declared.syntax.Decl.{Decl}
use Rattle.p414_syntax.specs.Conditions.{StmtPlace, block as a_block, statement as a_statement, behind_if, branches, is_if}
use Rattle.p414_syntax.specs.Tree.{Expr, Stmt, no_statements as nothing14, then as then14, apply, apply_branches, if_then as if14, no_else, else_block, else_if, no_branches, branch}
use Rattle.p414_syntax.specs.Names.{Name}
use Rattle.p416_syntax.specs.Conditions.{statements, statement, cases}
use Rattle.p416_syntax.specs.Tree.{Exp16, Stmt16, no_statements, then, block as in_braces, expression, if_then, if_else, switch}
use Rattle.lower_laws_base.specs.Context.{Lowering, words_of}
use Rattle.lower_laws_controls.specs.Conditions.{truth_exp}
use Rattle.lower_laws_controls.specs.Controls.{Plan, Way, block, at_hit, at_miss, at_actions, has_outcome, is_hit, is_miss, is_nothing, is_no_cases, apply_exp, hit_exp, joined, case_stmt, control_stmt}
use Rattle.lower_laws_controls.specs.Alike.{BranchesFit, StatementFits}
use Rattle.lower_laws_rules.specs.Spelling.{SpeltExp, SpeltStmt}
use Rattle.lower_laws_block_rules.specs.Widths.{SlotsWide, SpeltHere}
use Rattle.lower_laws_block_rules.specs.Statements.{ConditionsStand, IsExpandedAt, TableSpelt}
use Rattle.lower_laws_block_rules.proofs.SpeltConditions.{condition_here}
use Rattle.lower_laws_block_rules.proofs.Joined.{joined_list, joined_one}

-- a list of statements, or one statement
abbrev SpeltItem : Stmt16 → Type 0
SpeltItem x = SpeltStmt statements x ⊎ SpeltStmt statement x

module _ (c : Lowering) (ds : List Decl) (wide : SlotsWide c) (facts : SpeltHere c) (k : Plan) (P : Name → Type 0) (tables : (t : Name) → P t → TableSpelt k t) where
  abbrev low : Way → Stmt → Stmt16
  low way x = control_stmt (words_of c) ds k way x

  abbrev Fit : Way → Stmt → Type 0
  Fit way x = StatementFits c.layout ds P way x

  -- what is shown at each place
  abbrev Law : StmtPlace → Stmt → Type 0
  Law a_block x = Fit block x → SpeltStmt statements (low block x)
  Law a_statement x = Fit block x → SpeltItem (low block x)
  Law behind_if x = Fit block x → (is_nothing (low block x) ≡ true) ⊎ SpeltStmt statement (low block x)
  Law branches x = (Fit at_hit x → SpeltStmt statements (low at_hit x)) × (Fit at_miss x → SpeltStmt statements (low at_miss x)) × ((t : Name) → TableSpelt k t → Fit (at_actions t) x → SpeltStmt cases (low (at_actions t) x))

  sequence : (x y : Stmt16) → SpeltStmt statements x → SpeltItem y → SpeltStmt statements (joined x y)
  sequence x y a (inl list) = joined_list x y a list
  sequence x y a (inr one) = joined_one x y a one

  applied : (t : Name) → P t → SpeltExp (apply_exp k t)
  applied t is = (((tables t is).table, refl), tt)

  applies_branches : (t : Name) (bs : Stmt) → P t → (b : Bool) → has_outcome bs ≡ b → BranchesFit (λ x. Fit x bs) t b → Law branches bs → SpeltStmt statement (low block (apply_branches t bs))
  applies_branches t bs is true e fits law =
      subst (λ b. SpeltStmt statement (cond b (if_else (hit_exp k t) (in_braces (low at_hit bs)) (in_braces (low at_miss bs))) (cond (is_no_cases (low (at_actions t) bs)) (expression (apply_exp k t)) (switch (k.table t) (low (at_actions t) bs))))) (sym e)
      ((applied t is, refl), law.0 fits.0, refl, law.1 fits.1)
  applies_branches t bs is false e fits law =
      subst (λ b. SpeltStmt statement (cond b (if_else (hit_exp k t) (in_braces (low at_hit bs)) (in_braces (low at_miss bs))) (cond (is_no_cases (low (at_actions t) bs)) (expression (apply_exp k t)) (switch (k.table t) (low (at_actions t) bs))))) (sym e)
      (by (is_no_cases (low (at_actions t) bs)))
    where
      by : (b : Bool) → SpeltStmt statement (cond b (expression (apply_exp k t)) (switch (k.table t) (low (at_actions t) bs)))
      by true = (applied t is, refl)
      by false = ((tables t is).table, law.2 t (tables t is) fits)

  tests : (e : Expr) (a other : Stmt) → Fit block (if14 e a other) → ConditionsStand (if14 e a other) → SpeltStmt statements (low block a) → (is_nothing (low block other) ≡ true) ⊎ SpeltStmt statement (low block other) → SpeltStmt statement (low block (if14 e a other))
  tests e a other fits stand f (inl none) =
      subst (λ b. SpeltStmt statement (cond b (if_then (truth_exp (words_of c) ds e) (in_braces (low block a))) (if_else (truth_exp (words_of c) ds e) (in_braces (low block a)) (low block other)))) (sym none)
      (condition_here c facts ds wide e fits.1 stand.0, f)
  tests e a other fits stand f (inr one) = by (is_nothing (low block other)) where
    by : (b : Bool) → SpeltStmt statement (cond b (if_then (truth_exp (words_of c) ds e) (in_braces (low block a))) (if_else (truth_exp (words_of c) ds e) (in_braces (low block a)) (low block other)))
    by true = (condition_here c facts ds wide e fits.1 stand.0, f)
    by false = (condition_here c facts ds wide e fits.1 stand.0, f, refl, one)

  on_hit : (l : Label) (x y : Stmt16) → SpeltStmt statements x → SpeltStmt statements y → SpeltStmt statements (cond (is_hit l) y x)
  on_hit label.Hit x y a b = b
  on_hit l x y a b = a

  on_miss : (l : Label) (x y : Stmt16) → SpeltStmt statements x → SpeltStmt statements y → SpeltStmt statements (cond (is_miss l) y x)
  on_miss label.Miss x y a b = b
  on_miss l x y a b = a

  on_action : (t : Name) → TableSpelt k t → (l : Label) (before body : Stmt) → SpeltStmt cases (low (at_actions t) before) → SpeltStmt statements (low block body) → SpeltStmt cases (low (at_actions t) (branch before l body))
  on_action t is label.Hit before body a b = a
  on_action t is label.Miss before body a b = a
  on_action t is label.Default before body a b = (a, tt, b)
  on_action t is (label.Action action) before body a b = by (k.copy t action) refl where
    by : (o : Option Name) → k.copy t action ≡ o → SpeltStmt cases (case_stmt o (low (at_actions t) before) (low block body))
    by None e = a
    by (Some text) e = (a, is.labels action text e, b)

  -- an `if` is one statement
  the_if : (x : Stmt) → is_if x ≡ true → SpeltItem (low block x) → SpeltStmt statement (low block x)
  the_if (if14 e a other) is (inr one) = one
  the_if (if14 e a other) is (inl list) = absurd (by (is_nothing (low block other)) list) where
    by : (b : Bool) → SpeltStmt statements (cond b (if_then (truth_exp (words_of c) ds e) (in_braces (low block a))) (if_else (truth_exp (words_of c) ds e) (in_braces (low block a)) (low block other))) → ⊥
    by true never = never
    by false never = never
  the_if x is item = absurd (cc is)

  pub spelt_of : (p : StmtPlace) (x : Stmt) → IsExpandedAt p x → ConditionsStand x → Law p x
  spelt_of a_block nothing14 at stand = λ fits. tt
  spelt_of a_block (then14 a b) at stand = λ fits. sequence _ _ (spelt_of a_block a at.0 stand.0 fits.1) (spelt_of a_statement b at.1 stand.1 fits.2)
  spelt_of a_statement nothing14 at stand = λ fits. inl tt
  spelt_of a_statement (then14 a b) at stand = λ fits. inl (sequence _ _ (spelt_of a_block a at.0 stand.0 fits.1) (spelt_of a_statement b at.1 stand.1 fits.2))
  spelt_of a_statement (apply t) at stand = λ fits. inr (applied t fits.1, refl)
  spelt_of a_statement (apply_branches t bs) at stand = λ fits. inr (applies_branches t bs fits.1 (has_outcome bs) refl fits.2 (spelt_of branches bs at stand))
  spelt_of a_statement (if14 e a other) at stand = λ fits. inr (tests e a other fits stand (spelt_of a_block a at.0 stand.2 fits.2) (spelt_of behind_if other at.1 stand.3 fits.3))
  spelt_of behind_if no_else at stand = λ fits. inl refl
  spelt_of behind_if (else_block a) at stand = λ fits. inr (spelt_of a_block a at stand fits.1)
  spelt_of behind_if (else_if a) at stand = λ fits. inr (the_if a at.0 (spelt_of a_statement a at.1 stand fits.1))
  spelt_of branches no_branches at stand = (λ fits. tt, λ fits. tt, λ t is fits. tt)
  spelt_of branches (branch before l body) at stand =
      let more = spelt_of branches before at.0 stand.0 in (
        λ fits. on_hit l (low at_hit before) (low block body) (more.0 fits.1) (spelt_of a_block body at.1 stand.1 fits.2),
        λ fits. on_miss l (low at_miss before) (low block body) (more.1 fits.1) (spelt_of a_block body at.1 stand.1 fits.2),
        λ t is fits. on_action t is l before body (more.2 t is fits.1) (spelt_of a_block body at.1 stand.1 fits.2),
      )
  spelt_of a_block x at stand = absurd at
  spelt_of a_statement x at stand = absurd at
  spelt_of behind_if x at stand = absurd at
  spelt_of branches x at stand = absurd at

-- A list of statements is no branch by itself: it wants braces.
pub unbraced : (e : Exp16) (x : Stmt16) → SpeltStmt statement (if_then e ((then) no_statements x)) → ⊥
unbraced e x is = is.1
