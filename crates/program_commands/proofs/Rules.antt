-- A program breaks one rule at most as its least, and one that is accepted none.
use Rattle.std.proofs.Common.{◌≡◌, inl, inr, Bool, true, false, ◌||◌, List, [], ◌∷◌, refl, sym, ◌∙◌}
use Rattle.std.specs.Bool.{IsTrue}
use Rattle.p414_syntax.specs.declared.syntax.Decl.{Decl}
use Rattle.p414_syntax.specs.declared.syntax.Syntax14.{Syntax14}
use Rattle.p414_syntax.specs.declared.rule.ProgramRule.{ProgramRule}
use Rattle.p414_syntax.specs.Breaks.{IsBroken, Breaks14, IsFirstBroken, BreaksNone, program_rules}
use Rattle.p414_syntax.specs.ParserGraph.{HasNoOrder}
use Rattle.p414_syntax.specs.Unknown.{lacks_start, lacks_ingress}
use Rattle.p414_body_check.specs.Answers.{IsAccepted}

first_once : (ds : List Decl) (rules : List ProgramRule) (a b : ProgramRule) → IsFirstBroken ds rules a → IsFirstBroken ds rules b → a ≡ b
first_once ds [] a b one other = absurd one
first_once ds (r ∷ rs) a b (inl one) (inl other) = sym one.1 ∙ other.1
first_once ds (r ∷ rs) a b (inl one) (inr other) = absurd (other.0 one.0)
first_once ds (r ∷ rs) a b (inr one) (inl other) = absurd (one.0 other.0)
first_once ds (r ∷ rs) a b (inr one) (inr other) = first_once ds rs a b one.1 other.1

none_first : (ds : List Decl) (rules : List ProgramRule) (a : ProgramRule) → BreaksNone ds rules → IsFirstBroken ds rules a → ⊥
none_first ds [] a none first = first
none_first ds (r ∷ rs) a none (inl here) = none.0 here.0
none_first ds (r ∷ rs) a none (inr behind) = none_first ds rs a none.1 behind.1

pub rule_once : (s : Syntax14) (a b : ProgramRule) → Breaks14 s a → Breaks14 s b → a ≡ b
unfolding Breaks14
rule_once s a b one other = first_once s.decls program_rules a b one other

pub accepted_not : (s : Syntax14) (a : ProgramRule) → IsAccepted s → Breaks14 s a → ⊥
unfolding Breaks14
accepted_not s a accepted breaks = none_first s.decls program_rules a accepted breaks

no_second : (a b c : Bool) → (IsTrue (a || (b || c)) → ⊥) → b ≡ false
no_second true b c never = absurd (never refl)
no_second false true c never = absurd (never refl)
no_second false false c never = refl

-- C2: there is a state `start`
pub has_start : (s : Syntax14) → IsAccepted s → lacks_start s.decls ≡ false
unfolding IsBroken
has_start s accepted = no_second _ (lacks_start s.decls) (lacks_ingress s.decls) accepted.1.0

-- C10: there is an order
pub has_order : (s : Syntax14) → IsAccepted s → HasNoOrder s.decls → ⊥
unfolding IsBroken
has_order s accepted = accepted.1.1.1.1.1.1.1.1.1.0
