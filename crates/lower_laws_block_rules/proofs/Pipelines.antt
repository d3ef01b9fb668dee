-- What C28 and the grammar tell of the statements of a pipeline.
use Rattle.std.proofs.Common.{◌≡◌, inl, inr, ℕ, zero, suc, ◌≤◌, Bool, true, false, List, [], ◌∷◌, filter_map, Option, Some, None, refl, sym, subst, arith}
use Rattle.std.specs.Prelude.{nat_lt, slice_get, MatchOption}
use Rattle.std.specs.List.{list_any, AllByRecursion}
use Rattle.std.specs.Option.{option_and_then}
use Rattle.std.proofs.lemmas.Bool.{ltb-false, ltb-true}
use Rattle.p414_syntax.specs.declared.syntax.Decl.{Decl}
use Rattle.p414_syntax.specs.declared.syntax.Decl.TheVariants as decl
use Rattle.p414_syntax.specs.Conditions.{block as a_block}
use Rattle.p414_syntax.specs.Subtrees.{conditions}
use Rattle.p414_syntax.specs.Tree.{Expr, Stmt, no_statements as nothing14}
use Rattle.p414_syntax.specs.Views.{ControlTree}
use Rattle.p414_syntax.specs.Names.{Name}
use Rattle.p414_syntax.specs.ControlExpansion.{control_in, controls, control_number, control_of, StatementExpands, PipelineExpands}
use Rattle.p414_syntax.specs.Expressions.{conditions_of}
use Rattle.p414_syntax.specs.Nesting.{depth, is_too_deep, has_deep_expression, nesting}
use Rattle.lower_laws_block_rules.specs.Widths.{LiteralsWide}
use Rattle.lower_laws_block_rules.specs.Statements.{ConditionsStand, IsExpandedAt}
use Rattle.lower_laws_block_rules.specs.Expanding.{ControlsStand}
use Rattle.lower_laws_block_rules.proofs.Expanding.{CondStands, all_left, all_right, stand_of, expands_at, expands_stand}
use Rattle.lower_laws_rules.proofs.Found.{left_false, right_false}

module _ (ds : List Decl) (is : ControlsStand ds) where
  -- each condition

  no_deep : has_deep_expression ds ≡ false
  no_deep = by (has_deep_expression ds) refl where
    by : (b : Bool) → has_deep_expression ds ≡ b → has_deep_expression ds ≡ false
    by true e = absurd (is.shallow (inl e))
    by false e = e

  each_stands : (es : List Expr) → AllByRecursion LiteralsWide es → list_any is_too_deep es ≡ false → AllByRecursion CondStands es
  each_stands [] wide few = tt
  each_stands (e ∷ es) wide few = ((wide.0, ltb-false 64 (depth e) (left_false _ _ few)), each_stands es wide.1 (right_false _ _ few))

  all_stand : AllByRecursion CondStands (conditions_of ds)
  all_stand = each_stands (conditions_of ds) is.literals (left_false _ _ no_deep)

  -- those of one control
  of_control : (es : List Decl) (n : ℕ) (c : ControlTree) → AllByRecursion CondStands (conditions_of es) → slice_get (filter_map control_in es) n ≡ Some c → AllByRecursion CondStands (conditions c.body)
  of_control [] n c all e = absurd (cc e)
  of_control (decl.Control z ∷ es) zero c all e = let same : z ≡ c = cc e in subst (λ (y : ControlTree). AllByRecursion CondStands (conditions y.body)) same (all_left CondStands (conditions z.body) (conditions_of es) all)
  of_control (decl.Control z ∷ es) (suc n) c all e = of_control es n c (all_right CondStands (conditions z.body) (conditions_of es) all) e
  of_control (d ∷ es) n c all e = of_control es n c all e

  numbered : (name : Name) (c : ControlTree) → control_of ds name ≡ Some c → (n : ℕ) × (slice_get (controls ds) n ≡ Some c)
  numbered name c e = by (control_number ds name) e where
    by : (o : Option ℕ) → option_and_then (slice_get (controls ds)) o ≡ Some c → (n : ℕ) × (slice_get (controls ds) n ≡ Some c)
    by None e = absurd (cc e)
    by (Some n) e = (n, e)

  controls_stand : (name : Name) (c : ControlTree) → control_of ds name ≡ Some c → ConditionsStand c.body
  controls_stand name c e = let n = numbered name c e in stand_of c.body (of_control ds n.0 c all_stand n.1)

  pub record PipelineStands (x : Stmt) : Type 0 where
    pub conditions : ConditionsStand x
    pub nests : nesting x ≤ 63
    pub form : IsExpandedAt a_block x

  nests_few : (name : Name) (c : ControlTree) → control_of ds name ≡ Some c → (x : Stmt) → StatementExpands ds c.body x → nesting x ≤ 63
  nests_few name c e x more = by (nat_lt 63 (nesting x)) refl where
    n : (n : ℕ) × (slice_get (controls ds) n ≡ Some c)
    n = numbered name c e

    by : (b : Bool) → nat_lt 63 (nesting x) ≡ b → nesting x ≤ 63
    by false few = ltb-false 63 (nesting x) few
    by true many =
        let deep = ltb-true 63 (nesting x) many in
        absurd (is.shallow (inr (record { control = n.0; body = x; expands = record { control = c; numbered = n.1; expands = more }; deep = omega (arith, deep) })))

  pub pipeline_stands : (pipeline : Name) (x : Stmt) → PipelineExpands ds pipeline x → PipelineStands x
  pipeline_stands pipeline x expands = by (control_of ds pipeline) refl expands where
    by : (o : Option ControlTree) → control_of ds pipeline ≡ o → MatchOption o (x ≡ nothing14) (λ (control : ControlTree). StatementExpands ds control.body x) → PipelineStands x
    by None e same = subst PipelineStands (sym same) (record { conditions = tt; nests = omega arith; form = tt })
    by (Some c) e more = record {
      conditions = expands_stand ds controls_stand c.body x more (controls_stand pipeline c e);
      nests = nests_few pipeline c e x more;
      form = expands_at ds is.grammar a_block c.body x more (is.grammar pipeline c e);
    }
