-- A program that breaks no rule has a state `start` and an order of headers.
use Rattle.std.proofs.Common.{◌≡◌, ℕ, Bool, true, false, ◌||◌, List, refl, sym, subst}
use Rattle.std.specs.Bool.{IsTrue}
use Rattle.p414_syntax.specs.declared.syntax.Syntax14.{Syntax14}
use Rattle.p414_syntax.specs.Breaks.{IsBroken}
use Rattle.p414_syntax.specs.ParserGraph.{HasNoOrder, Order}
use Rattle.p414_syntax.specs.Unknown.{lacks_start, lacks_ingress}
use Rattle.p414_body_check.specs.Answers.{IsAccepted}

no_second : (a b c : Bool) → (IsTrue (a || (b || c)) → ⊥) → b ≡ false
no_second true b c never = absurd (never refl)
no_second false true c never = absurd (never refl)
no_second false false c never = refl

-- C2: there is a state `start`
pub has_start : (s : Syntax14) → IsAccepted s → lacks_start s.decls ≡ false
unfolding IsBroken
has_start s accepted = no_second _ (lacks_start s.decls) (lacks_ingress s.decls) accepted.1.0

-- C10: there is an order
pub has_order : (s : Syntax14) → IsAccepted s → HasNoOrder s.decls → ⊥
unfolding IsBroken
has_order s accepted = accepted.1.1.1.1.1.1.1.1.1.0

-- what holds of a syntax holds of an equal one

pub accepted_same : (s p : Syntax14) → s ≡ p → IsAccepted p → IsAccepted s
accepted_same s p same accepted = subst IsAccepted (sym same) accepted

pub order_same : (s p : Syntax14) (order : List ℕ) → s ≡ p → Order s.decls order → Order p.decls order
order_same s p order same is = subst (λ (q : Syntax14). Order q.decls order) same is
