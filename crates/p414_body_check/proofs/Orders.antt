-- Rules one after another: which is the first that is broken.
use Rattle.std.proofs.Common.{◌≡◌, Bool, true, false, List, [], ◌∷◌, ◌++◌, Ok, Err, Result, inl, inr, refl, sym, subst}
use Rattle.p414_syntax.specs.declared.syntax.Decl.{Decl}
use Rattle.p414_syntax.specs.declared.rule.ProgramRule.{ProgramRule}
use Rattle.p414_syntax.specs.Breaks.{IsBroken, IsFirstBroken, BreaksNone, rule_fault}
use Rattle.p414_syntax.specs.Exact.{IsExact}
use Rattle.p414_body_check.specs.declared.fault.Check14.{Check14}
use Rattle.p414_body_check.specs.declared.fault.Check14.TheVariants.{Memory, Refused}
use Rattle.p414_body_check.specs.internal.Steps.{Keeps}

-- two lists of rules, one behind the other

none_both : (ds : List Decl) (first second : List ProgramRule) → BreaksNone ds first → BreaksNone ds second → BreaksNone ds (first ++ second)
none_both ds [] second none more = more
none_both ds (rule ∷ rules) second none more = (none.0, none_both ds rules second none.1 more)

first_in_front : (ds : List Decl) (first second : List ProgramRule) (rule : ProgramRule) → IsFirstBroken ds first rule → IsFirstBroken ds (first ++ second) rule
first_in_front ds [] second rule broken = absurd broken
first_in_front ds (r ∷ first) second rule (inl broken) = inl broken
first_in_front ds (r ∷ first) second rule (inr later) = inr (later.0, first_in_front ds first second rule later.1)

first_behind : (ds : List Decl) (first second : List ProgramRule) (rule : ProgramRule) → BreaksNone ds first → IsFirstBroken ds second rule → IsFirstBroken ds (first ++ second) rule
first_behind ds [] second rule none broken = broken
first_behind ds (r ∷ first) second rule none broken = inr (none.0, first_behind ds first second rule none.1 broken)

pub stops : (ds : List Decl) (first second : List ProgramRule) (fault : Check14) → Keeps ds first (Err fault) → Keeps ds (first ++ second) (Err fault)
stops ds first second Memory h = _
stops ds first second (Refused fault) (rule, broken, is) = (rule, first_in_front ds first second rule broken, is)

pub goes_on : (ds : List Decl) (first second : List ProgramRule) (result : Result (Unit {0}) Check14) → BreaksNone ds first → Keeps ds second result → Keeps ds (first ++ second) result
goes_on ds first second (Ok done) none h = none_both ds first second none h
goes_on ds first second (Err Memory) none h = _
goes_on ds first second (Err (Refused fault)) none (rule, broken, is) = (rule, first_behind ds first second rule none broken, is)

-- what an exact answer says

pub exactly_true : (P : Type 0) (b : Bool) → IsExact b P → b ≡ true → P
exactly_true P b h e = subst (λ b. IsExact b P) e h

pub exactly_false : (P : Type 0) (b : Bool) → IsExact b P → b ≡ false → P → ⊥
exactly_false P b h e = subst (λ b. IsExact b P) e h

-- one, two or three rules are asked

module _ (ds : List Decl) where
  told : (rules : List ProgramRule) (rule : ProgramRule) (fault : Check14) → IsFirstBroken ds rules rule → fault ≡ Refused (rule_fault rule) → Keeps ds rules (Err fault)
  told rules rule fault broken is = subst (λ f. Keeps ds rules (Err f)) (sym is) (rule, broken, refl)

  pub told_first : (x : ProgramRule) (rules : List ProgramRule) (a : Bool) (fault : Check14) → IsExact a (IsBroken ds x) → a ≡ true → fault ≡ Refused (rule_fault x) → Keeps ds (x ∷ rules) (Err fault)
  told_first x rules a fault h e is = told (x ∷ rules) x fault (inl (exactly_true (IsBroken ds x) a h e, refl)) is

  pub told_second : (x y : ProgramRule) (rules : List ProgramRule) (a b : Bool) (fault : Check14) → IsExact a (IsBroken ds x) → a ≡ false → IsExact b (IsBroken ds y) → b ≡ true → fault ≡ Refused (rule_fault y) → Keeps ds (x ∷ y ∷ rules) (Err fault)
  told_second x y rules a b fault h e i f is = told (x ∷ y ∷ rules) y fault (inr (exactly_false (IsBroken ds x) a h e, inl (exactly_true (IsBroken ds y) b i f, refl))) is

  pub told_third : (x y z : ProgramRule) (rules : List ProgramRule) (a b d : Bool) (fault : Check14) → IsExact a (IsBroken ds x) → a ≡ false → IsExact b (IsBroken ds y) → b ≡ false → IsExact d (IsBroken ds z) → d ≡ true → fault ≡ Refused (rule_fault z) → Keeps ds (x ∷ y ∷ z ∷ rules) (Err fault)
  told_third x y z rules a b d fault h e i f j g is =
      told (x ∷ y ∷ z ∷ rules) z fault (inr (exactly_false (IsBroken ds x) a h e, inr (exactly_false (IsBroken ds y) b i f, inl (exactly_true (IsBroken ds z) d j g, refl)))) is

  pub keeps_three : (x y z : ProgramRule) (a b d : Bool) → IsExact a (IsBroken ds x) → a ≡ false → IsExact b (IsBroken ds y) → b ≡ false → IsExact d (IsBroken ds z) → d ≡ false → BreaksNone ds (x ∷ y ∷ z ∷ [])
  keeps_three x y z a b d h e i f j g =
      (exactly_false (IsBroken ds x) a h e, (exactly_false (IsBroken ds y) b i f, (exactly_false (IsBroken ds z) d j g, _)))
