-- What each rule is broken by, as an exact answer.
use Rattle.std.proofs.Common.{◌≡◌, ◌||◌, Bool, true, false, List, inl, inr, refl, sym, subst, ◌∙◌}
use Rattle.std.specs.Prelude.{◌⊎◌, IsTrue, IfOk, Result, Ok, Err}
use Rattle.p4x_bits.specs.declared.OutOfMemory.{OutOfMemory}
use Rattle.p414_syntax.specs.declared.syntax.Decl.{Decl}
use Rattle.p414_syntax.specs.declared.rule.ProgramRule.{ProgramRule}
use Rattle.p414_syntax.specs.declared.rule.ProgramRule.TheVariants.{C2, C8, C11, C12, C13, C14, C15, C16, C17, C18, C19, C20, C21, C22, C23, C24, C25, C26, C27, C28}
use Rattle.p414_syntax.specs.Breaks.{IsBroken, BreaksNone, declaration_rules}
use Rattle.p414_syntax.specs.Exact.{IsExact}
use Rattle.std.specs.List.{list_any}
use Rattle.p414_syntax.specs.Uses.{uses}
use Rattle.p414_syntax.specs.Unknown.{has_unknown_name, is_unknown, lacks_start, lacks_ingress}
use Rattle.p414_syntax.specs.Lists.{HoldsItself}
use Rattle.p414_syntax.specs.Tables.{has_bad_key, has_two_lpm_keys, has_bad_default}
use Rattle.p414_syntax.specs.Calls.{has_wrong_call, ExpandsToWrongCall}
use Rattle.p414_syntax.specs.Targets.{has_bad_target}
use Rattle.p414_syntax.specs.Actions.{HasBadAction, ActionCallsItself}
use Rattle.p414_syntax.specs.Controls.{HasBadControl, ControlCallsItself}
use Rattle.p414_syntax.specs.Pipelines.{IsTableShared, HasMisplacedRequest}
use Rattle.p414_syntax.specs.Preserved.{HasBadPreservedList, PreservesInitialized}
use Rattle.p414_syntax.specs.Payloads.{HasBadPayload}
use Rattle.p414_syntax.specs.CalculatedFields.{has_calculated_condition}
use Rattle.p414_syntax.specs.Cells.{has_bad_cells}
use Rattle.p414_syntax.specs.Unsupported.{has_unsupported}
use Rattle.p414_syntax.specs.Expressions.{has_minus_sign, has_mistyped_expression}
use Rattle.p414_syntax.specs.Parameters.{has_misused_parameter}
use Rattle.p414_syntax.specs.Nesting.{has_deep_expression, NestsTooDeep}

by_test : (b : Bool) → IsExact b (IsTrue b)
by_test true = refl
by_test false = λ e. cc e

flat : (b t : Bool) → b ≡ t → IsExact b (IsTrue t)
flat b t e = subst (λ t. IsExact b (IsTrue t)) e (by_test b)

-- rules that are truth values

pub c11 : (ds : List Decl) (b : Bool) → b ≡ has_bad_key ds → IsExact b (IsBroken ds C11)
unfolding IsBroken
c11 ds b e = flat b (has_bad_key ds) e

pub c12 : (ds : List Decl) (b : Bool) → b ≡ has_two_lpm_keys ds → IsExact b (IsBroken ds C12)
unfolding IsBroken
c12 ds b e = flat b (has_two_lpm_keys ds) e

pub c14 : (ds : List Decl) (b : Bool) → b ≡ has_bad_target ds → IsExact b (IsBroken ds C14)
unfolding IsBroken
c14 ds b e = flat b (has_bad_target ds) e

pub c21 : (ds : List Decl) (b : Bool) → b ≡ has_calculated_condition ds → IsExact b (IsBroken ds C21)
unfolding IsBroken
c21 ds b e = flat b (has_calculated_condition ds) e

pub c23 : (ds : List Decl) (b : Bool) → b ≡ has_bad_cells ds → IsExact b (IsBroken ds C23)
unfolding IsBroken
c23 ds b e = flat b (has_bad_cells ds) e

pub c24 : (ds : List Decl) (b : Bool) → b ≡ has_bad_default ds → IsExact b (IsBroken ds C24)
unfolding IsBroken
c24 ds b e = flat b (has_bad_default ds) e

pub c25 : (ds : List Decl) (b : Bool) → b ≡ has_unsupported ds → IsExact b (IsBroken ds C25)
unfolding IsBroken
c25 ds b e = flat b (has_unsupported ds) e

pub c26 : (ds : List Decl) (b : Bool) → b ≡ has_minus_sign ds → IsExact b (IsBroken ds C26)
unfolding IsBroken
c26 ds b e = flat b (has_minus_sign ds) e

pub c27 : (ds : List Decl) (b : Bool) → b ≡ has_misused_parameter ds → IsExact b (IsBroken ds C27)
unfolding IsBroken
c27 ds b e = flat b (has_misused_parameter ds) e

-- rules that aren't

pub c15 : (ds : List Decl) (b : Bool) → IsExact b (HasBadAction ds) → IsExact b (IsBroken ds C15)
unfolding IsBroken
c15 ds b h = h

pub c16 : (ds : List Decl) (b : Bool) → IsExact b (HasBadControl ds) → IsExact b (IsBroken ds C16)
unfolding IsBroken
c16 ds b h = h

pub c17 : (ds : List Decl) (b : Bool) → IsExact b (IsTableShared ds) → IsExact b (IsBroken ds C17)
unfolding IsBroken
c17 ds b h = h

pub c18 : (ds : List Decl) (b : Bool) → IsExact b (HasBadPreservedList ds) → IsExact b (IsBroken ds C18)
unfolding IsBroken
c18 ds b h = h

pub c19 : (ds : List Decl) (b : Bool) → IsExact b (PreservesInitialized ds) → IsExact b (IsBroken ds C19)
unfolding IsBroken
c19 ds b h = h

pub c20 : (ds : List Decl) (b : Bool) → IsExact b (HasBadPayload ds) → IsExact b (IsBroken ds C20)
unfolding IsBroken
c20 ds b h = h

pub c22 : (ds : List Decl) (b : Bool) → IsExact b (HasMisplacedRequest ds) → IsExact b (IsBroken ds C22)
unfolding IsBroken
c22 ds b h = h

-- C13, by what is written, whether C15 is broken, and what is expanded

pub c13_written : (ds : List Decl) (w : Bool) → w ≡ (has_wrong_call ds || has_mistyped_expression ds) → w ≡ true → IsBroken ds C13
unfolding IsBroken
c13_written ds w is e = inl (sym is ∙ e)

not_true : (w : Bool) → w ≡ false → w ≡ true → ⊥
not_true w e f = cc (e, f)

not_expanded : (ds : List Decl) (w : Bool) (A B : Type 0) → w ≡ (has_wrong_call ds || has_mistyped_expression ds) → w ≡ false → (A → B → ⊥) → IsTrue (has_wrong_call ds || has_mistyped_expression ds) ⊎ (A × B) → ⊥
not_expanded ds w A B is e never (inl h) = not_true w e (is ∙ h)
not_expanded ds w A B is e never (inr h) = never h.0 h.1

pub c13_long : (ds : List Decl) (w : Bool) → w ≡ (has_wrong_call ds || has_mistyped_expression ds) → w ≡ false → HasBadAction ds → IsBroken ds C13 → ⊥
unfolding IsBroken
c13_long ds w is e long h = not_expanded ds w (HasBadAction ds → ⊥) (ExpandsToWrongCall ds) is e (λ short wrong. short long) h

pub c13_expanded : (ds : List Decl) (w b : Bool) → w ≡ (has_wrong_call ds || has_mistyped_expression ds) → w ≡ false → (HasBadAction ds → ⊥) → IsExact b (ExpandsToWrongCall ds) → IsExact b (IsBroken ds C13)
unfolding IsBroken
c13_expanded ds w true is e short h = inr (short, h)
c13_expanded ds w false is e short h = λ broken. not_expanded ds w (HasBadAction ds → ⊥) (ExpandsToWrongCall ds) is e (λ _ wrong. h wrong) broken

-- C28, by expressions and blocks

pub c28_expressions : (ds : List Decl) (d : Bool) → d ≡ has_deep_expression ds → d ≡ true → IsBroken ds C28
unfolding IsBroken
c28_expressions ds d is e = inl (sym is ∙ e)

flat_enough : (ds : List Decl) (d : Bool) → d ≡ has_deep_expression ds → d ≡ false → (NestsTooDeep ds → ⊥) → IsTrue (has_deep_expression ds) ⊎ NestsTooDeep ds → ⊥
flat_enough ds d is e h (inl deep) = not_true d e (is ∙ deep)
flat_enough ds d is e h (inr deep) = h deep

pub c28_blocks : (ds : List Decl) (d b : Bool) → d ≡ has_deep_expression ds → d ≡ false → IsExact b (NestsTooDeep ds) → IsExact b (IsBroken ds C28)
unfolding IsBroken
c28_blocks ds d true is e h = inr h
c28_blocks ds d false is e h = λ broken. flat_enough ds d is e h broken

-- what lower rules give

pub known : (ds : List Decl) → BreaksNone ds declaration_rules → IsTrue (has_unknown_name ds) → ⊥
unfolding IsBroken
known ds none = none.1.0

pub acyclic : (ds : List Decl) → BreaksNone ds declaration_rules → HoldsItself ds → ⊥
unfolding IsBroken
acyclic ds none = λ h. none.1.1.1.1.1.1.1.0 (inr (inl h))

right_false : (a b : Bool) → (IsTrue (a || b) → ⊥) → a ≡ false
right_false true b h = absurd (h refl)
right_false false b h = refl

pub right_calls : (ds : List Decl) → (IsBroken ds C13 → ⊥) → has_wrong_call ds ≡ false
unfolding IsBroken
right_calls ds h = right_false (has_wrong_call ds) (has_mistyped_expression ds) (λ e. h (inl e))

pub no_self_call : (ds : List Decl) → (IsBroken ds C16 → ⊥) → ControlCallsItself ds → ⊥
unfolding IsBroken
no_self_call ds h = λ calls. h (inl calls)

pub no_self_calling_action : (ds : List Decl) → (IsBroken ds C15 → ⊥) → ActionCallsItself ds → ⊥
unfolding IsBroken
no_self_calling_action ds h = λ calls. h (inl calls)

-- the same of answers for which memory may be wanted

weaker : {E : Type 0} (r : Result Bool E) (P Q : Bool → Type 0) → ((b : Bool) → P b → Q b) → IfOk r P → IfOk r Q
weaker (Ok b) P Q f h = f b h
weaker (Err e) P Q f h = h

pub c13_result : {E : Type 0} (ds : List Decl) (w : Bool) → w ≡ (has_wrong_call ds || has_mistyped_expression ds) → w ≡ false → (HasBadAction ds → ⊥) → (r : Result Bool E) → IfOk r (λ b. IsExact b (ExpandsToWrongCall ds)) → IfOk r (λ b. IsExact b (IsBroken ds C13))
c13_result ds w is e short r h = weaker r (λ b. IsExact b (ExpandsToWrongCall ds)) (λ b. IsExact b (IsBroken ds C13)) (λ b. c13_expanded ds w b is e short) h

pub c15_result : {E : Type 0} (ds : List Decl) (r : Result Bool E) → IfOk r (λ b. IsExact b (HasBadAction ds)) → IfOk r (λ b. IsExact b (IsBroken ds C15))
c15_result ds r h = weaker r (λ b. IsExact b (HasBadAction ds)) (λ b. IsExact b (IsBroken ds C15)) (c15 ds) h

pub c16_result : {E : Type 0} (ds : List Decl) (r : Result Bool E) → IfOk r (λ b. IsExact b (HasBadControl ds)) → IfOk r (λ b. IsExact b (IsBroken ds C16))
c16_result ds r h = weaker r (λ b. IsExact b (HasBadControl ds)) (λ b. IsExact b (IsBroken ds C16)) (c16 ds) h

pub c18_result : {E : Type 0} (ds : List Decl) (r : Result Bool E) → IfOk r (λ b. IsExact b (HasBadPreservedList ds)) → IfOk r (λ b. IsExact b (IsBroken ds C18))
c18_result ds r h = weaker r (λ b. IsExact b (HasBadPreservedList ds)) (λ b. IsExact b (IsBroken ds C18)) (c18 ds) h

pub c19_result : {E : Type 0} (ds : List Decl) (r : Result Bool E) → IfOk r (λ b. IsExact b (PreservesInitialized ds)) → IfOk r (λ b. IsExact b (IsBroken ds C19))
c19_result ds r h = weaker r (λ b. IsExact b (PreservesInitialized ds)) (λ b. IsExact b (IsBroken ds C19)) (c19 ds) h

pub c20_result : {E : Type 0} (ds : List Decl) (r : Result Bool E) → IfOk r (λ b. IsExact b (HasBadPayload ds)) → IfOk r (λ b. IsExact b (IsBroken ds C20))
c20_result ds r h = weaker r (λ b. IsExact b (HasBadPayload ds)) (λ b. IsExact b (IsBroken ds C20)) (c20 ds) h

pub c22_result : {E : Type 0} (ds : List Decl) (r : Result Bool E) → IfOk r (λ b. IsExact b (HasMisplacedRequest ds)) → IfOk r (λ b. IsExact b (IsBroken ds C22))
c22_result ds r h = weaker r (λ b. IsExact b (HasMisplacedRequest ds)) (λ b. IsExact b (IsBroken ds C22)) (c22 ds) h

pub c28_result : {E : Type 0} (ds : List Decl) (d : Bool) → d ≡ has_deep_expression ds → d ≡ false → (r : Result Bool E) → IfOk r (λ b. IsExact b (NestsTooDeep ds)) → IfOk r (λ b. IsExact b (IsBroken ds C28))
c28_result ds d is e r h = weaker r (λ b. IsExact b (NestsTooDeep ds)) (λ b. IsExact b (IsBroken ds C28)) (λ b. c28_blocks ds d b is e) h

-- a program that breaks no rule of declarations has a state `start`

no_part : (a b d : Bool) → (IsTrue (a || (b || d)) → ⊥) → b ≡ false
no_part true b d h = absurd (h refl)
no_part false true d h = absurd (h refl)
no_part false false d h = refl

pub has_start : (ds : List Decl) → BreaksNone ds declaration_rules → lacks_start ds ≡ false
has_start ds none = no_part (list_any (is_unknown ds) (uses ds)) (lacks_start ds) (lacks_ingress ds) (known ds none)
