-- Rules one after another: which is the first that is broken.
use Rattle.std.proofs.Common.{◌≡◌, Bool, true, false, List, [], ◌∷◌, ◌++◌, Ok, Err, Result, inl, inr, refl, sym, subst}
use Rattle.p416_syntax.specs.declared.program.Syntax16.{Syntax16}
use Rattle.p416_syntax.specs.declared.rule.ProgramRule.{ProgramRule}
use Rattle.p416_syntax.specs.Breaks.{IsBroken, IsFirstBroken, BreaksNone, rule_fault}
use Rattle.p416_syntax.specs.Exact.{IsExact}
use Rattle.p416_types.specs.declared.fault.Check16.{Check16}
use Rattle.p416_types.specs.declared.fault.Check16.TheVariants.{Memory, Refused}
use Rattle.p416_types.specs.internal.Steps.{Keeps}

-- two lists of rules, one behind the other

none_both : (s : Syntax16) (first second : List ProgramRule) → BreaksNone s first → BreaksNone s second → BreaksNone s (first ++ second)
none_both s [] second none more = more
none_both s (rule ∷ rules) second none more = (none.0, none_both s rules second none.1 more)

first_in_front : (s : Syntax16) (first second : List ProgramRule) (rule : ProgramRule) → IsFirstBroken s first rule → IsFirstBroken s (first ++ second) rule
first_in_front s [] second rule broken = absurd broken
first_in_front s (r ∷ first) second rule (inl broken) = inl broken
first_in_front s (r ∷ first) second rule (inr later) = inr (later.0, first_in_front s first second rule later.1)

first_behind : (s : Syntax16) (first second : List ProgramRule) (rule : ProgramRule) → BreaksNone s first → IsFirstBroken s second rule → IsFirstBroken s (first ++ second) rule
first_behind s [] second rule none broken = broken
first_behind s (r ∷ first) second rule none broken = inr (none.0, first_behind s first second rule none.1 broken)

pub stops : (s : Syntax16) (first second : List ProgramRule) (fault : Check16) → Keeps s first (Err fault) → Keeps s (first ++ second) (Err fault)
stops s first second Memory h = _
stops s first second (Refused fault) (rule, broken, is) = (rule, first_in_front s first second rule broken, is)

pub goes_on : (s : Syntax16) (first second : List ProgramRule) (result : Result (Unit {0}) Check16) → BreaksNone s first → Keeps s second result → Keeps s (first ++ second) result
goes_on s first second (Ok done) none h = none_both s first second none h
goes_on s first second (Err Memory) none h = _
goes_on s first second (Err (Refused fault)) none (rule, broken, is) = (rule, first_behind s first second rule none broken, is)

-- what an exact answer says

pub exactly_true : (P : Type 0) (b : Bool) → IsExact b P → b ≡ true → P
exactly_true P b h e = subst (λ b. IsExact b P) e h

pub exactly_false : (P : Type 0) (b : Bool) → IsExact b P → b ≡ false → P → ⊥
exactly_false P b h e = subst (λ b. IsExact b P) e h

-- one, two or three rules are asked

module _ (s : Syntax16) where
  told : (rules : List ProgramRule) (rule : ProgramRule) (fault : Check16) → IsFirstBroken s rules rule → fault ≡ Refused (rule_fault rule) → Keeps s rules (Err fault)
  told rules rule fault broken is = subst (λ f. Keeps s rules (Err f)) (sym is) (rule, broken, refl)

  pub told_first : (x : ProgramRule) (rules : List ProgramRule) (a : Bool) (fault : Check16) → IsExact a (IsBroken s x) → a ≡ true → fault ≡ Refused (rule_fault x) → Keeps s (x ∷ rules) (Err fault)
  told_first x rules a fault h e is = told (x ∷ rules) x fault (inl (exactly_true (IsBroken s x) a h e, refl)) is

  pub told_second : (x y : ProgramRule) (rules : List ProgramRule) (a b : Bool) (fault : Check16) → IsExact a (IsBroken s x) → a ≡ false → IsExact b (IsBroken s y) → b ≡ true → fault ≡ Refused (rule_fault y) → Keeps s (x ∷ y ∷ rules) (Err fault)
  told_second x y rules a b fault h e i f is = told (x ∷ y ∷ rules) y fault (inr (exactly_false (IsBroken s x) a h e, inl (exactly_true (IsBroken s y) b i f, refl))) is

  pub told_third : (x y z : ProgramRule) (rules : List ProgramRule) (a b d : Bool) (fault : Check16) → IsExact a (IsBroken s x) → a ≡ false → IsExact b (IsBroken s y) → b ≡ false → IsExact d (IsBroken s z) → d ≡ true → fault ≡ Refused (rule_fault z) → Keeps s (x ∷ y ∷ z ∷ rules) (Err fault)
  told_third x y z rules a b d fault h e i f j g is =
      told (x ∷ y ∷ z ∷ rules) z fault (inr (exactly_false (IsBroken s x) a h e, inr (exactly_false (IsBroken s y) b i f, inl (exactly_true (IsBroken s z) d j g, refl)))) is

  pub keeps_three : (x y z : ProgramRule) (a b d : Bool) → IsExact a (IsBroken s x) → a ≡ false → IsExact b (IsBroken s y) → b ≡ false → IsExact d (IsBroken s z) → d ≡ false → BreaksNone s (x ∷ y ∷ z ∷ [])
  keeps_three x y z a b d h e i f j g =
      (exactly_false (IsBroken s x) a h e, (exactly_false (IsBroken s y) b i f, (exactly_false (IsBroken s z) d j g, _)))
