-- A program breaks one rule at most as its least, and one that is accepted none.
use Rattle.std.proofs.Common.{◌≡◌, inl, inr, List, [], ◌∷◌, ℕ, None, sym, ◌∙◌, ap}
use Rattle.p4x_fault.specs.declared.Fault.{Fault as Refusal}
use Rattle.p4x_fault.specs.declared.Rule.TheVariants.{T}
use Rattle.p416_syntax.specs.declared.program.Syntax16.{Syntax16}
use Rattle.p416_syntax.specs.declared.rule.ProgramRule.{ProgramRule}
use Rattle.p416_syntax.specs.Breaks.{IsBroken, Breaks16, IsFirstBroken, BreaksNone, program_rules, rule_number, rule_fault}
use Rattle.p416_types.specs.Answers.{IsAccepted}

first_once : (s : Syntax16) (rules : List ProgramRule) (a b : ProgramRule) → IsFirstBroken s rules a → IsFirstBroken s rules b → a ≡ b
first_once s [] a b one other = absurd one
first_once s (r ∷ rs) a b (inl one) (inl other) = sym one.1 ∙ other.1
first_once s (r ∷ rs) a b (inl one) (inr other) = absurd (other.0 one.0)
first_once s (r ∷ rs) a b (inr one) (inl other) = absurd (one.0 other.0)
first_once s (r ∷ rs) a b (inr one) (inr other) = first_once s rs a b one.1 other.1

none_first : (s : Syntax16) (rules : List ProgramRule) (a : ProgramRule) → BreaksNone s rules → IsFirstBroken s rules a → ⊥
none_first s [] a none first = first
none_first s (r ∷ rs) a none (inl here) = none.0 here.0
none_first s (r ∷ rs) a none (inr behind) = none_first s rs a none.1 behind.1

-- the faults that tell of them are one
pub fault_once : (s : Syntax16) (a b : ProgramRule) → Breaks16 s (rule_number a) → Breaks16 s (rule_number b) → rule_fault a ≡ rule_fault b
unfolding Breaks16
fault_once s a b one other =
    let same : one.0 ≡ other.0 = first_once s program_rules one.0 other.0 one.2 other.2 in
    ap (λ (n : ℕ). let f : Refusal = record { rule = T n; place = None } in f) (sym one.1 ∙ ap rule_number same ∙ other.1)

pub accepted_not : (s : Syntax16) (a : ProgramRule) → IsAccepted s → Breaks16 s (rule_number a) → ⊥
unfolding Breaks16
accepted_not s a accepted breaks = none_first s program_rules breaks.0 accepted breaks.2
