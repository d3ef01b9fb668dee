-- The statements of controls are of the program: their tables are declared, and their conditions are conditions (C2, C4, C13, C26, and
-- the grammar).
use Rattle.std.proofs.Common.{◌≡◌, ◌⊎◌, inl, inr, ℕ, zero, suc, ◌<◌, ◌≤◌, ◌^◌, Bool, true, false, cond, ◌&&◌, Option, Some, None, List, [], ◌∷◌, ◌++◌, refl, ap, ◌∙◌, subst, arith}
use Rattle.std.specs.Prelude.{flat_map, slice_get, unwrap_or, option_and_then, nat_lt, ◌||◌}
use Rattle.std.specs.List.{list_any}
use Rattle.std.proofs.lemmas.Bool.Decides.{nat_tests}
use Rattle.p414_syntax.specs.declared.lexeme.Literal.{Literal}
use Rattle.p414_syntax.specs.declared.lexeme.Lexeme.{Lexeme}
use Rattle.p414_syntax.specs.declared.lexeme.Lexeme.TheVariants as lexeme
use Rattle.p414_syntax.specs.SpeltLexemes.{is_spelt_literal, is_spelt_lexeme}
use Rattle.p414_syntax.specs.declared.syntax.Decl.{Decl}
use Rattle.p414_syntax.specs.declared.syntax.Decl.TheVariants as decl
use Rattle.p414_syntax.specs.declared.syntax.Sort.TheVariants as sort
use Rattle.p414_syntax.specs.Conditions.{is_decl}
use Rattle.p414_syntax.specs.Subtrees.{subtrees, subexpressions, own_conditions}
use Rattle.p414_syntax.specs.Tree.{Expr, valid, truth as truth14, field, number, parenthesized, unary as unary_of, binary as binary_of, Stmt, no_statements, then as then14, apply, apply_branches, if_then as if14, call as call14, no_else, else_block, else_if, no_branches, branch}
use Rattle.p414_syntax.specs.Views.{ControlTree}
use Rattle.p414_syntax.specs.Written.{in_parens, in_braces, written_name, written_expr, written_stmt, written_decl}
use Rattle.p414_syntax.specs.Names.{Name, names_in, is_declared}
use Rattle.p414_syntax.specs.Breaks.{BreaksNone, IsBroken, program_rules}
use Rattle.p414_syntax.specs.Calls.{has_wrong_call}
use Rattle.p414_syntax.specs.ControlExpansion.{control_in, controls, control_number}
use Rattle.p414_syntax.specs.Expressions.{conditions_in, conditions_of, lengths_of, is_mistyped, has_mistyped_expression, is_negated_within, has_minus_sign}
use Rattle.p414_syntax.specs.Uses.{Use, of_sort, of_field, of_instance, own_operand, uses_of_expr, own_uses, uses_of, uses}
use Rattle.p414_sem.specs.Conditions.{bit_length_within, bit_length, literal_width}
use Rattle.lower_laws_base.specs.Context.{Lowering}
use Rattle.lower_laws_controls.specs.Conditions.{IsCondition}
use Rattle.lower_laws_controls.specs.Expanding.{PartsFit, ControlFits, ControlsFit}
use Rattle.lower_laws_controls.proofs.Sorted.{LeavesFit, condition_fits}
use Rattle.lower_laws_states.specs.Expansions.{Has}
use Rattle.lower_laws_states.proofs.Members.{has_left, has_right, has_joined, joined_has, has_at, picked_has, neither, none_passes, of_not, not_true}
use Rattle.lower_laws_states.proofs.Declared.{declared_has}
use Rattle.lower_laws_premises.specs.Literals.{IsSpelt}
use Rattle.lower_laws_premises.specs.Shown.{ShowsInstances, HasRoots}
use Rattle.lower_laws_premises.proofs.Literals.{all_pass}
use Rattle.lower_laws_premises.proofs.Sources.{small, sized}
use Rattle.lower_laws_translated.proofs.Leaves.{field_there, instance_there, known}

-- a number fits its width

counted : (limit n : ℕ) → n < 2 ^ suc limit → n < 2 ^ bit_length_within limit n
counted zero n lt = lt
counted (suc limit) n lt = by (nat_lt n (2 ^ suc limit)) refl (λ few. counted limit n few) where
  by : (b : Bool) → nat_lt n (2 ^ suc limit) ≡ b → (n < 2 ^ suc limit → n < 2 ^ bit_length_within limit n) → n < 2 ^ cond b (bit_length_within limit n) (suc (suc limit))
  by true e rest = rest (grind (arith, nat_tests, e))
  by false e rest = lt

pub literal_fits : (n : Literal) → is_spelt_literal n ≡ true → n.value < 2 ^ literal_width n
literal_fits n spelt = by n.width refl where
  by : (o : Option ℕ) → n.width ≡ o → n.value < 2 ^ unwrap_or o (bit_length n.value)
  by None e = counted 127 n.value (small n spelt)
  by (Some w) e = (sized n w e spelt).2

-- what stands within a tree stands within the tree around it

inner : {X Y : Type 0} (f : X → List Y) (s : X) (rest : List X) (y : Y) → Has (flat_map f rest) y → Has (flat_map f (s ∷ rest)) y
inner f s rest y h = let o = joined_has f rest y h in has_joined f (s ∷ rest) o.0 y (inr o.1) o.2

first : {X Y : Type 0} (f : X → List Y) (s : X) (a b : List X) (y : Y) → Has (flat_map f a) y → Has (flat_map f (s ∷ a ++ b)) y
first f s a b y h = let o = joined_has f a y h in has_joined f (s ∷ a ++ b) o.0 y (inr (has_left a b o.0 o.1)) o.2

second : {X Y : Type 0} (f : X → List Y) (s : X) (a b : List X) (y : Y) → Has (flat_map f b) y → Has (flat_map f (s ∷ a ++ b)) y
second f s a b y h = let o = joined_has f b y h in has_joined f (s ∷ a ++ b) o.0 y (inr (has_right a b o.0 o.1)) o.2

itself : {X Y : Type 0} (f : X → List Y) (s : X) (rest : List X) (y : Y) → Has (f s) y → Has (flat_map f (s ∷ rest)) y
itself f s rest y h = has_joined f (s ∷ rest) s y (inl refl) h

declared_control : (d : Decl) (c : ControlTree) → control_in d ≡ Some c → d ≡ decl.Control c
declared_control (decl.Control x) c e = ap decl.Control (cc e)
declared_control _ c e = absurd (cc e)

module _ (c : Lowering) (ds : List Decl) (none : BreaksNone ds program_rules) (spelt : IsSpelt ds) (shows : ShowsInstances c ds) (roots : HasRoots c) where
  abbrev Told : List Lexeme → Type 0
  Told ks = (k : Lexeme) → Has ks k → is_spelt_lexeme k ≡ true

  abbrev Used : List Use → Type 0
  Used us = (u : Use) → Has us u → Has (uses ds) u

  leaves : (e : Expr) → Used (uses_of_expr e) → Told (written_expr e) → LeavesFit c.layout ds e
  leaves (valid i) used told = λ plain. instance_there c ds none shows roots i (used (of_instance i) (itself own_operand (valid i) [] (of_instance i) (inl refl))) plain
  leaves (truth14 b) used told = tt
  leaves (field r) used told = field_there c ds none shows roots r (used (of_field r) (itself own_operand (field r) [] (of_field r) (inl refl)))
  leaves (number n) used told = literal_fits n (told (lexeme.Number n) (inl refl))
  leaves (parenthesized a) used told = leaves a (λ u h. used u (inner own_operand (parenthesized a) (subexpressions a) u h)) (λ k h. told k (inr (has_left (written_expr a) _ k h)))
  leaves (unary_of o a) used told = leaves a (λ u h. used u (inner own_operand (unary_of o a) (subexpressions a) u h)) (λ k h. told k (inr h))
  leaves (binary_of o a b) used told = (
    leaves a (λ u h. used u (first own_operand (binary_of o a b) (subexpressions a) (subexpressions b) u h)) (λ k h. told k (has_left (written_expr a) _ k h)),
    leaves b (λ u h. used u (second own_operand (binary_of o a b) (subexpressions a) (subexpressions b) u h)) (λ k h. told k (has_right (written_expr a) _ k (inr h))),
  )

  -- C13
  none_mistyped : has_mistyped_expression ds ≡ false
  unfolding IsBroken
  none_mistyped = (neither (has_wrong_call ds) (has_mistyped_expression ds) (not_true (has_wrong_call ds || has_mistyped_expression ds) (λ e. none.1.1.1.1.1.1.1.1.1.1.1.1.0 (inl e)))).1

  -- C26
  none_negated : has_minus_sign ds ≡ false
  unfolding IsBroken
  none_negated = not_true (has_minus_sign ds) none.1.1.1.1.1.1.1.1.1.1.1.1.1.1.1.1.1.1.1.1.1.1.1.1.1.0

  abbrev Judged : List Expr → Type 0
  Judged es = (e : Expr) → Has es e → Has (conditions_of ds) e

  condition_is : (e : Expr) → Has (conditions_of ds) e → Used (uses_of_expr e) → Told (written_expr e) → IsCondition c.layout ds e
  condition_is e h used told =
      condition_fits c.layout ds e
      (none_passes (is_mistyped true) (conditions_of ds) e (neither (list_any (is_mistyped true) (conditions_of ds)) (list_any (is_mistyped false) (lengths_of ds)) none_mistyped).0 h)
      (none_passes is_negated_within (conditions_of ds) e none_negated h) (leaves e used told)

  table_there : (t : Name) → Has (uses ds) (of_sort sort.Table t) → Has (names_in sort.Table ds) t
  table_there t used = declared_has ds sort.Table t (of_not (is_declared sort.Table ds t) (known c ds none shows roots (of_sort sort.Table t) used))

  abbrev P : Name → Type 0
  P n = Has (names_in sort.Table ds) n

  parts : (s : Stmt) → Used (flat_map own_uses (subtrees s)) → Judged (flat_map own_conditions (subtrees s)) → Told (written_stmt s) → PartsFit c.layout ds P s
  parts (then14 a b) used judged told = (
    parts a (λ u h. used u (first own_uses (then14 a b) (subtrees a) (subtrees b) u h)) (λ e h. judged e (first own_conditions (then14 a b) (subtrees a) (subtrees b) e h)) (λ k h. told k (has_left (written_stmt a) (written_stmt b) k h)),
    parts b (λ u h. used u (second own_uses (then14 a b) (subtrees a) (subtrees b) u h)) (λ e h. judged e (second own_conditions (then14 a b) (subtrees a) (subtrees b) e h)) (λ k h. told k (has_right (written_stmt a) (written_stmt b) k h)),
  )
  parts (apply t) used judged told = table_there t (used (of_sort sort.Table t) (itself own_uses (apply t) [] (of_sort sort.Table t) (inl refl)))
  parts (apply_branches t bs) used judged told = (
    table_there t (used (of_sort sort.Table t) (itself own_uses (apply_branches t bs) (subtrees bs) (of_sort sort.Table t) (inl refl))),
    parts bs (λ u h. used u (inner own_uses (apply_branches t bs) (subtrees bs) u h)) (λ e h. judged e (inner own_conditions (apply_branches t bs) (subtrees bs) e h)) (λ k h. told k (inr (has_right (in_parens (written_name t)) (in_braces (written_stmt bs)) k (inr (has_left (written_stmt bs) _ k h))))),
  )
  parts (if14 e a b) used judged told = (
    condition_is e (judged e (itself own_conditions (if14 e a b) (subtrees a ++ subtrees b) e (inl refl))) (λ u h. used u (itself own_uses (if14 e a b) (subtrees a ++ subtrees b) u h)) (λ k h. told k (inr (has_left (in_parens (written_expr e)) (in_braces (written_stmt a) ++ written_stmt b) k (inr (has_left (written_expr e) _ k h))))),
    parts a (λ u h. used u (first own_uses (if14 e a b) (subtrees a) (subtrees b) u h)) (λ f h. judged f (first own_conditions (if14 e a b) (subtrees a) (subtrees b) f h)) (λ k h. told k (inr (has_right (in_parens (written_expr e)) (in_braces (written_stmt a) ++ written_stmt b) k (has_left (in_braces (written_stmt a)) (written_stmt b) k (inr (has_left (written_stmt a) _ k h)))))),
    parts b (λ u h. used u (second own_uses (if14 e a b) (subtrees a) (subtrees b) u h)) (λ f h. judged f (second own_conditions (if14 e a b) (subtrees a) (subtrees b) f h)) (λ k h. told k (inr (has_right (in_parens (written_expr e)) (in_braces (written_stmt a) ++ written_stmt b) k (has_right (in_braces (written_stmt a)) (written_stmt b) k h)))),
  )
  parts (else_block a) used judged told = parts a (λ u h. used u (inner own_uses (else_block a) (subtrees a) u h)) (λ e h. judged e (inner own_conditions (else_block a) (subtrees a) e h)) (λ k h. told k (inr (inr (has_left (written_stmt a) _ k h))))
  parts (else_if a) used judged told = parts a (λ u h. used u (inner own_uses (else_if a) (subtrees a) u h)) (λ e h. judged e (inner own_conditions (else_if a) (subtrees a) e h)) (λ k h. told k (inr h))
  parts (branch a l b) used judged told = (
    parts a (λ u h. used u (first own_uses (branch a l b) (subtrees a) (subtrees b) u h)) (λ e h. judged e (first own_conditions (branch a l b) (subtrees a) (subtrees b) e h)) (λ k h. told k (has_left (written_stmt a) _ k h)),
    parts b (λ u h. used u (second own_uses (branch a l b) (subtrees a) (subtrees b) u h)) (λ e h. judged e (second own_conditions (branch a l b) (subtrees a) (subtrees b) e h)) (λ k h. told k (has_right (written_stmt a) _ k (inr (inr (has_left (written_stmt b) _ k h))))),
  )
  parts no_statements used judged told = tt
  parts (call14 t) used judged told = tt
  parts no_else used judged told = tt
  parts no_branches used judged told = tt

  pub controls_fit : ControlsFit c.layout ds P
  controls_fit name z found = by (control_number ds name) found where
    by : (o : Option ℕ) → option_and_then (slice_get (controls ds)) o ≡ Some z → ControlFits c.layout ds P z
    by None e = absurd (cc e)
    by (Some n) e =
        let d = picked_has control_in ds z (has_at (controls ds) n z e) in
        let there : Has ds (decl.Control z) = subst (Has ds) (declared_control d.0 z d.2) d.1 in
        record {
          is = all_pass is_decl ds (decl.Control z) spelt.grammar there;
          parts = parts z.body (λ u h. has_joined uses_of ds (decl.Control z) u there h) (λ e h. has_joined conditions_in ds (decl.Control z) e there h)
              (λ k h. all_pass is_spelt_lexeme (flat_map written_decl ds) k spelt.tokens (has_joined written_decl ds (decl.Control z) k there (inr (inr (inr (has_left (written_stmt z.body) _ k h))))));
        }
