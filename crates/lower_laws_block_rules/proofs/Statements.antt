-- Statements of controls break no rule.
use Rattle.std.proofs.Common.{◌≡◌, ℕ, suc, ◌+◌, ◌-◌, ◌≤◌, max, Bool, true, false, cond, List, [], map, Option, Some, None, refl, sym, ap, ◌∙◌, subst, arith}
use Rattle.std.specs.Prelude.{not}
use Rattle.p414_syntax.specs.declared.node.Label.{Label}
use Rattle.p414_syntax.specs.declared.node.Label.TheVariants as label
use Rattle.p414_syntax.specs.declared.syntax.Decl.{Decl}
use Rattle.p414_syntax.specs.Tree.{Expr, Stmt, no_statements as nothing14, then as then14, apply, apply_branches, if_then as if14, call as call14, no_else, else_block, else_if, no_branches, branch}
use Rattle.p414_syntax.specs.Names.{Name}
use Rattle.p414_syntax.specs.Nesting.{depth, nesting}
use Rattle.p416_syntax.specs.declared.controls.ActionName.{ActionName}
use Rattle.p416_syntax.specs.Tree.{Stmt16, block as in_braces, expression, if_then, if_else, switch}
use Rattle.p416_syntax.specs.Kinds.{boolean}
use Rattle.p416_syntax.specs.Scopes.{Scope}
use Rattle.p416_syntax.specs.Applications.{applies_nothing}
use Rattle.lower_laws_base.specs.Context.{Lowering, words_of, Sees}
use Rattle.lower_laws_controls.specs.Conditions.{truth_exp}
use Rattle.lower_laws_controls.specs.Controls.{Plan, Way, block, at_hit, at_miss, at_actions, has_outcome, is_hit, is_miss, is_nothing, is_no_cases, apply_exp, hit_exp, case_stmt, control_stmt}
use Rattle.lower_laws_controls.specs.Alike.{BranchesFit, StatementFits}
use Rattle.lower_laws_rules.specs.Keeping.{Sound, Part}
use Rattle.lower_laws_rules.specs.Written.{declared_action}
use Rattle.lower_laws_rules.proofs.Calls.{table_applied, table_hit}
use Rattle.lower_laws_rules.proofs.Parts.{part_none, part_call, part_block, part_if, part_if_else, nests_deeper, Branches, no_branches as none_taken, branch as one_branch, branch_default, part_switch}
use Rattle.lower_laws_rules.proofs.Tables.{among_declared}
use Rattle.lower_laws_block_rules.specs.Widths.{SlotsWide}
use Rattle.lower_laws_block_rules.specs.Statements.{ConditionsStand, TableSeen}
use Rattle.lower_laws_block_rules.proofs.Conditions.{sound_condition}
use Rattle.lower_laws_block_rules.proofs.Joined.{part_joined}

module _ (c : Lowering) (ds : List Decl) (s : Scope) (sees : Sees c s []) (wide : SlotsWide c) (runs : applies_nothing s.part ≡ false) (k : Plan) (P : Name → Type 0) (tables : (t : Name) → P t → TableSeen s k t) where
  abbrev low : Way → Stmt → Stmt16
  low way x = control_stmt (words_of c) ds k way x

  abbrev Fit : Way → Stmt → Type 0
  Fit way x = StatementFits c.layout ds P way x

  -- what is shown of each statement: blocks nest no deeper than in P4_14
  abbrev Law : Way → Stmt → Type 0
  Law block x = Part s s [] (nesting x) (low block x)
  Law at_hit x = Part s s [] (nesting x - 1) (low at_hit x)
  Law at_miss x = Part s s [] (nesting x - 1) (low at_miss x)
  Law (at_actions t) x = (seen : TableSeen s k t) → Branches s (map declared_action seen.actions) (nesting x) (low (at_actions t) x)

  braced : {m : ℕ} {x : Stmt16} → Part s s [] m x → Part s s [] (suc m) (in_braces x)
  braced p = part_block p refl

  deeper : {m n : ℕ} {x : Stmt16} → m ≤ n → Part s s [] m x → Part s s [] n x
  deeper {m} {n} le p = nests_deeper n le p

  applied : (t : Name) → P t → Part s s [] 0 (expression (apply_exp k t))
  applied t is = part_call (table_applied ((tables t is).sort) runs) (omega arith)

  -- there is a branch
  some_branch : (bs : Stmt) → has_outcome bs ≡ true → 1 ≤ nesting bs
  some_branch (branch before l body) is = omega arith
  some_branch x is = absurd (cc is)

  outcomes : (t : Name) (bs : Stmt) → P t → has_outcome bs ≡ true → Law at_hit bs → Law at_miss bs → Part s s [] (nesting bs) (if_else (hit_exp k t) (in_braces (low at_hit bs)) (in_braces (low at_miss bs)))
  outcomes t bs is some hits misses =
      let one = some_branch bs some in
      deeper (omega (arith, one)) (part_if_else (table_hit ((tables t is).sort) runs) (omega arith) (braced hits) (braced misses))

  selects : (t : Name) (bs : Stmt) → P t → Law (at_actions t) bs → (b : Bool) → Part s s [] (nesting bs) (cond b (expression (apply_exp k t)) (switch (k.table t) (low (at_actions t) bs)))
  selects t bs is law true = deeper (omega arith) (applied t is)
  selects t bs is law false = part_switch ((tables t is).sort) runs (law (tables t is))

  applies_branches : (t : Name) (bs : Stmt) → P t → (b : Bool) → has_outcome bs ≡ b → BranchesFit (λ x. Fit x bs) t b → (Fit at_hit bs → Law at_hit bs) → (Fit at_miss bs → Law at_miss bs) → (Fit (at_actions t) bs → Law (at_actions t) bs) → Law block (apply_branches t bs)
  applies_branches t bs is true e fits hits misses law =
      subst (λ b. Part s s [] (nesting bs) (cond b (if_else (hit_exp k t) (in_braces (low at_hit bs)) (in_braces (low at_miss bs))) (cond (is_no_cases (low (at_actions t) bs)) (expression (apply_exp k t)) (switch (k.table t) (low (at_actions t) bs))))) (sym e)
      (outcomes t bs is e (hits fits.0) (misses fits.1))
  applies_branches t bs is false e fits hits misses law =
      subst (λ b. Part s s [] (nesting bs) (cond b (if_else (hit_exp k t) (in_braces (low at_hit bs)) (in_braces (low at_miss bs))) (cond (is_no_cases (low (at_actions t) bs)) (expression (apply_exp k t)) (switch (k.table t) (low (at_actions t) bs))))) (sym e)
      (selects t bs is (law fits) (is_no_cases (low (at_actions t) bs)))

  -- `if`
  tests : (e : Expr) (a other : Stmt) → Fit block (if14 e a other) → ConditionsStand (if14 e a other) → Law block a → Law block other → Law block (if14 e a other)
  tests e a other fits stand f g = by (is_nothing (low block other)) where
    test : Sound s (truth_exp (words_of c) ds e) boolean false (depth e + 4)
    test = sound_condition c ds s [] sees wide e fits.1 stand.0

    few : depth e + 4 ≤ 400
    few = let most = stand.1 in omega (arith, most)

    by : (b : Bool) → Part s s [] (nesting (if14 e a other)) (cond b (if_then (truth_exp (words_of c) ds e) (in_braces (low block a))) (if_else (truth_exp (words_of c) ds e) (in_braces (low block a)) (low block other)))
    by true = deeper (omega arith) (part_if test few (braced f))
    by false = deeper (omega arith) (part_if_else test few (braced f) g)

  on_hit : (l : Label) (before body : Stmt) → Law at_hit before → Law block body → Law at_hit (branch before l body)
  on_hit l before body f g = by (is_hit l) where
    by : (b : Bool) → Part s s [] (max (nesting before) (1 + nesting body) - 1) (cond b (low block body) (low at_hit before))
    by true = deeper (omega arith) g
    by false = deeper (omega arith) f

  on_miss : (l : Label) (before body : Stmt) → Law at_miss before → Law block body → Law at_miss (branch before l body)
  on_miss l before body f g = by (is_miss l) where
    by : (b : Bool) → Part s s [] (max (nesting before) (1 + nesting body) - 1) (cond b (low block body) (low at_miss before))
    by true = deeper (omega arith) g
    by false = deeper (omega arith) f

  wider : {actions : List ActionName} {m n : ℕ} {x : Stmt16} → m ≤ n → Branches s actions m x → Branches s actions n x
  wider le b = record { part = deeper le b.part; labels = b.labels }

  on_action : (t : Name) (l : Label) (before body : Stmt) → Law (at_actions t) before → Law block body → Law (at_actions t) (branch before l body)
  on_action t label.Hit before body f g seen = wider (omega arith) (f seen)
  on_action t label.Miss before body f g seen = wider (omega arith) (f seen)
  on_action t label.Default before body f g seen = wider (omega arith) (branch_default (f seen) g refl)
  on_action t (label.Action a) before body f g seen = by (k.copy t a) refl where
    by : (o : Option Name) → k.copy t a ≡ o → Branches s (map declared_action seen.actions) (max (nesting before) (1 + nesting body)) (case_stmt o (low (at_actions t) before) (low block body))
    by None e = wider (omega arith) (f seen)
    by (Some text) e =
        let known = seen.labels a text e in
        wider (omega arith) (one_branch known.1.2 (ap not (among_declared seen.actions text ∙ known.0)) (f seen) g refl)

  pub part_of : (way : Way) (x : Stmt) → Fit way x → ConditionsStand x → Law way x
  part_of block nothing14 fits stand = part_none
  part_of block (then14 a b) fits stand = part_joined (part_of block a fits.1 stand.0) (part_of block b fits.2 stand.1)
  part_of block (apply t) fits stand = applied t fits.1
  part_of block (apply_branches t bs) fits stand = applies_branches t bs fits.1 (has_outcome bs) refl fits.2 (λ f. part_of at_hit bs f stand) (λ f. part_of at_miss bs f stand) (λ f. part_of (at_actions t) bs f stand)
  part_of block (if14 e a other) fits stand = tests e a other fits stand (part_of block a fits.2 stand.2) (part_of block other fits.3 stand.3)
  part_of block (call14 a) fits stand = absurd fits
  part_of block no_else fits stand = part_none
  part_of block (else_block a) fits stand = deeper (omega arith) (braced (part_of block a fits.1 stand))
  part_of block (else_if a) fits stand = part_of block a fits.1 stand
  part_of block no_branches fits stand = absurd fits
  part_of block (branch before l body) fits stand = absurd fits.0
  part_of at_hit no_branches fits stand = part_none
  part_of at_hit (branch before l body) fits stand = on_hit l before body (part_of at_hit before fits.1 stand.0) (part_of block body fits.2 stand.1)
  part_of at_hit nothing14 fits stand = absurd fits
  part_of at_hit (then14 a b) fits stand = absurd fits.0
  part_of at_hit (apply t2) fits stand = absurd fits.0
  part_of at_hit (apply_branches t2 bs) fits stand = absurd fits.0
  part_of at_hit (if14 e a other) fits stand = absurd fits.0
  part_of at_hit (call14 a) fits stand = absurd fits
  part_of at_hit no_else fits stand = absurd fits
  part_of at_hit (else_block a) fits stand = absurd fits.0
  part_of at_hit (else_if a) fits stand = absurd fits.0
  part_of at_miss no_branches fits stand = part_none
  part_of at_miss (branch before l body) fits stand = on_miss l before body (part_of at_miss before fits.1 stand.0) (part_of block body fits.2 stand.1)
  part_of at_miss nothing14 fits stand = absurd fits
  part_of at_miss (then14 a b) fits stand = absurd fits.0
  part_of at_miss (apply t2) fits stand = absurd fits.0
  part_of at_miss (apply_branches t2 bs) fits stand = absurd fits.0
  part_of at_miss (if14 e a other) fits stand = absurd fits.0
  part_of at_miss (call14 a) fits stand = absurd fits
  part_of at_miss no_else fits stand = absurd fits
  part_of at_miss (else_block a) fits stand = absurd fits.0
  part_of at_miss (else_if a) fits stand = absurd fits.0
  part_of (at_actions t) no_branches fits stand = λ seen. none_taken
  part_of (at_actions t) (branch before l body) fits stand = on_action t l before body (part_of (at_actions t) before fits.1 stand.0) (part_of block body fits.2 stand.1)
  part_of (at_actions t) nothing14 fits stand = absurd fits
  part_of (at_actions t) (then14 a b) fits stand = absurd fits.0
  part_of (at_actions t) (apply t2) fits stand = absurd fits.0
  part_of (at_actions t) (apply_branches t2 bs) fits stand = absurd fits.0
  part_of (at_actions t) (if14 e a other) fits stand = absurd fits.0
  part_of (at_actions t) (call14 a) fits stand = absurd fits
  part_of (at_actions t) no_else fits stand = absurd fits
  part_of (at_actions t) (else_block a) fits stand = absurd fits.0
  part_of (at_actions t) (else_if a) fits stand = absurd fits.0
