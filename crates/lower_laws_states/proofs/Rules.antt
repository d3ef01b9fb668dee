-- What the rules of an accepted program say, each as a fact.
use Rattle.std.proofs.Common.{◌≡◌, inl, inr, false, ◌||◌, List}
use Rattle.p414_syntax.specs.declared.syntax.Decl.{Decl}
use Rattle.p414_syntax.specs.Breaks.{BreaksNone, IsBroken, program_rules}
use Rattle.p414_syntax.specs.Twice.{declares_twice}
use Rattle.p414_syntax.specs.Unknown.{has_unknown_name}
use Rattle.p414_syntax.specs.Widths.{has_bad_width, has_bad_layout}
use Rattle.p414_syntax.specs.Stacks.{has_bad_stack}
use Rattle.p414_syntax.specs.Lists.{has_flat_fault}
use Rattle.p414_syntax.specs.ParserGraph.{HasIdleCycle}
use Rattle.p414_syntax.specs.Calls.{has_wrong_call, ExpandsToWrongCall}
use Rattle.p414_syntax.specs.Expressions.{has_mistyped_expression}
use Rattle.p414_syntax.specs.Targets.{has_bad_target}
use Rattle.p414_syntax.specs.Tables.{has_bad_default}
use Rattle.p414_syntax.specs.Unsupported.{has_unsupported}
use Rattle.p414_syntax.specs.Parameters.{has_misused_parameter}
use Rattle.lower_laws_states.proofs.Members.{neither, not_true}

module _ (ds : List Decl) (none : BreaksNone ds program_rules) where
  -- C1
  pub none_twice : declares_twice ds ≡ false
  unfolding IsBroken
  none_twice = not_true (declares_twice ds) none.0

  -- C2
  pub none_unknown : has_unknown_name ds ≡ false
  unfolding IsBroken
  none_unknown = not_true (has_unknown_name ds) none.1.0

  -- C3
  pub widths_right : has_bad_width ds ≡ false
  unfolding IsBroken
  widths_right = not_true (has_bad_width ds) none.1.1.0

  -- C4
  pub stacks_right : has_bad_stack ds ≡ false
  unfolding IsBroken
  stacks_right = not_true (has_bad_stack ds) none.1.1.1.0

  -- C5
  pub layouts_right : has_bad_layout ds ≡ false
  unfolding IsBroken
  layouts_right = not_true (has_bad_layout ds) none.1.1.1.1.0

  -- C8
  pub fields_right : has_flat_fault ds ≡ false
  unfolding IsBroken
  fields_right = not_true (has_flat_fault ds) (λ e. none.1.1.1.1.1.1.1.0 (inl e))

  -- C9
  pub none_idle : HasIdleCycle ds → ⊥
  unfolding IsBroken
  none_idle = none.1.1.1.1.1.1.1.1.0

  -- C13, of the text and, since C15 isn't broken, of what it comes to
  pub calls_right : has_wrong_call ds ≡ false
  unfolding IsBroken
  calls_right = (neither (has_wrong_call ds) (has_mistyped_expression ds) (not_true (has_wrong_call ds || has_mistyped_expression ds) (λ e. none.1.1.1.1.1.1.1.1.1.1.1.1.0 (inl e)))).0

  pub expanded_right : ExpandsToWrongCall ds → ⊥
  unfolding IsBroken
  expanded_right wrong = none.1.1.1.1.1.1.1.1.1.1.1.1.0 (inr (none.1.1.1.1.1.1.1.1.1.1.1.1.1.1.0, wrong))

  -- C14
  pub targets_right : has_bad_target ds ≡ false
  unfolding IsBroken
  targets_right = not_true (has_bad_target ds) none.1.1.1.1.1.1.1.1.1.1.1.1.1.0

  -- C24
  pub defaults_right : has_bad_default ds ≡ false
  unfolding IsBroken
  defaults_right = not_true (has_bad_default ds) none.1.1.1.1.1.1.1.1.1.1.1.1.1.1.1.1.1.1.1.1.1.1.1.0

  -- C25
  pub all_supported : has_unsupported ds ≡ false
  unfolding IsBroken
  all_supported = not_true (has_unsupported ds) none.1.1.1.1.1.1.1.1.1.1.1.1.1.1.1.1.1.1.1.1.1.1.1.1.0

  -- C27
  pub parameters_right : has_misused_parameter ds ≡ false
  unfolding IsBroken
  parameters_right = not_true (has_misused_parameter ds) none.1.1.1.1.1.1.1.1.1.1.1.1.1.1.1.1.1.1.1.1.1.1.1.1.1.1.0
