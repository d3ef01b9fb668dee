-- What is expanded comes to one thing.
use Rattle.std.proofs.Common.{◌≡◌, ℕ, inl, inr, List, [], ◌∷◌, ◌++◌, Option, Some, None, MatchOption, refl, sym, ap, ◌∙◌, subst, arith}
use Rattle.p414_syntax.specs.declared.actions.Action.{Action}
use Rattle.p414_syntax.specs.declared.calculations.Item.{Item}
use Rattle.p414_syntax.specs.declared.syntax.Decl.{Decl}
use Rattle.p414_syntax.specs.Tree.{Stmt, no_statements, then, apply_branches, if_then, else_block, else_if, branch}
use Rattle.p414_syntax.specs.Views.{ControlTree}
use Rattle.p414_syntax.specs.Names.{Name}
use Rattle.p414_syntax.specs.Arguments.{Invocation, invocations_of}
use Rattle.p414_syntax.specs.ActionExpansion.{ActionExpands, body_with, CallsExpand, NoCalls, OfPrimitive, OfAction}
use Rattle.p414_syntax.specs.ControlExpansion.{control_of, PipelineExpands, StatementExpands, NoStatements, Then, Apply, ApplyBranches, If, Call, NoElse, ElseBlock, ElseIf, NoBranches, Branch}
use Rattle.p414_syntax.specs.Expansion.{own_items, Expands, Nothing, Own, Inner}
use Rattle.p414_syntax.specs.ParserGraph.{AtMost, Order}

module _ (ds : List Decl) where
  pub items_once : (items a b : List Item) → Expands ds items a → Expands ds items b → a ≡ b
  items_once _ _ _ Nothing Nothing = refl
  items_once _ _ _ (Own i rest all none e) (Own _ _ other none_too f) = ap (λ l. own_items ds i ++ l) (items_once rest all other e f)
  items_once _ _ _ (Own i rest all none e) (Inner _ _ items within other some f g) = absurd (cc (none, some))
  items_once _ _ _ (Inner i rest items within all some e f) (Own _ _ other none g) = absurd (cc (none, some))
  items_once _ _ _ (Inner i rest items within all some e f) (Inner _ _ others inside more some_too g h) =
      let same : others ≡ items = cc (some, some_too) in
      ap (λ l. l ++ all) (items_once items within inside e (subst (λ l. Expands ds l inside) same g))
      ∙ ap (λ l. inside ++ l) (items_once rest all more f h)

  pub calls_once : (calls a b : List Invocation) → CallsExpand ds calls a → CallsExpand ds calls b → a ≡ b
  calls_once _ _ _ NoCalls NoCalls = refl
  calls_once _ _ _ (OfPrimitive i rest all none e) (OfPrimitive _ _ other none_too f) = ap (λ l. i ∷ l) (calls_once rest all other e f)
  calls_once _ _ _ (OfPrimitive i rest all none e) (OfAction _ _ within other a some f g) = absurd (cc (none, some))
  calls_once _ _ _ (OfAction i rest within all a some e f) (OfPrimitive _ _ other none g) = absurd (cc (none, some))
  calls_once _ _ _ (OfAction i rest within all a some e f) (OfAction _ _ inside more b some_too g h) =
      let same : b ≡ a = cc (some, some_too) in
      ap (λ l. l ++ all) (calls_once (body_with i.arguments a) within inside e (subst (λ (x : Action). CallsExpand ds (body_with i.arguments x) inside) same g))
      ∙ ap (λ l. inside ++ l) (calls_once rest all more f h)

  pub statements_once : (s a b : Stmt) → StatementExpands ds s a → StatementExpands ds s b → a ≡ b
  statements_once _ _ _ NoStatements NoStatements = refl
  statements_once _ _ _ (Then a b to_a to_b e f) (Then _ _ other_a other_b g h) =
      ap (λ (x : Stmt). then x to_b) (statements_once a to_a other_a e g) ∙ ap (λ (x : Stmt). then other_a x) (statements_once b to_b other_b f h)
  statements_once _ _ _ (Apply table) (Apply _) = refl
  statements_once _ _ _ (ApplyBranches table a to_a e) (ApplyBranches _ _ other f) = ap (apply_branches table) (statements_once a to_a other e f)
  statements_once _ _ _ (If c a b to_a to_b e f) (If _ _ _ other_a other_b g h) =
      ap (λ (x : Stmt). if_then c x to_b) (statements_once a to_a other_a e g) ∙ ap (λ (x : Stmt). if_then c other_a x) (statements_once b to_b other_b f h)
  statements_once _ _ _ (Call name control body is e) (Call _ other to is_too f) =
      let same : other ≡ control = cc (is, is_too) in
      statements_once control.body body to e (subst (λ (x : ControlTree). StatementExpands ds x.body to) same f)
  statements_once _ _ _ NoElse NoElse = refl
  statements_once _ _ _ (ElseBlock a to_a e) (ElseBlock _ other f) = ap else_block (statements_once a to_a other e f)
  statements_once _ _ _ (ElseIf a to_a e) (ElseIf _ other f) = ap else_if (statements_once a to_a other e f)
  statements_once _ _ _ NoBranches NoBranches = refl
  statements_once _ _ _ (Branch a b to_a to_b l e f) (Branch _ _ other_a other_b _ g h) =
      ap (λ (x : Stmt). branch x l to_b) (statements_once a to_a other_a e g) ∙ ap (λ (x : Stmt). branch other_a l x) (statements_once b to_b other_b f h)

  pipeline_by : (o : Option ControlTree) (a b : Stmt) → MatchOption o (a ≡ no_statements) (λ (c : ControlTree). StatementExpands ds c.body a) → MatchOption o (b ≡ no_statements) (λ (c : ControlTree). StatementExpands ds c.body b) → a ≡ b
  pipeline_by None a b e f = e ∙ sym f
  pipeline_by (Some c) a b e f = statements_once c.body a b e f

  pub pipeline_once : (name : Name) (a b : Stmt) → PipelineExpands ds name a → PipelineExpands ds name b → a ≡ b
  pipeline_once name a b e f = pipeline_by (control_of ds name) a b e f

  pub action_once : (n : ℕ) (a b : List Invocation) → ActionExpands ds n a → ActionExpands ds n b → a ≡ b
  action_once n a b e f =
      let same : f.action ≡ e.action = cc (e.numbered, f.numbered) in
      calls_once (invocations_of e.action) a b e.expands (subst (λ (x : Action). CallsExpand ds (invocations_of x) b) same f.expands)

-- orders

both_most : (xs ys : List ℕ) → AtMost xs ys → AtMost ys xs → xs ≡ ys
both_most [] [] h k = refl
both_most [] (y ∷ ys) h k = absurd k
both_most (x ∷ xs) [] h k = absurd h
both_most (x ∷ xs) (y ∷ ys) (inl h) (inl k) = absurd (omega arith)
both_most (x ∷ xs) (y ∷ ys) (inl h) (inr k) = let e = k.0 in absurd (omega arith)
both_most (x ∷ xs) (y ∷ ys) (inr h) (inl k) = let e = h.0 in absurd (omega arith)
both_most (x ∷ xs) (y ∷ ys) (inr h) (inr k) = ap (λ (n : ℕ). n ∷ xs) h.0 ∙ ap (λ l. y ∷ l) (both_most xs ys h.1 k.1)

pub order_once : (ds : List Decl) (a b : List ℕ) → Order ds a → Order ds b → a ≡ b
order_once ds a b e f = both_most a b (e.least b f.is_order) (f.least a e.is_order)
