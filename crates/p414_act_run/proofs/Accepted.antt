-- What is known of a program that breaks no rule.
use Rattle.std.proofs.Common.{◌≡◌, Bool, true, false, refl}
use Rattle.std.specs.Bool.{IsTrue}
use Rattle.p414_syntax.specs.declared.syntax.Syntax14.{Syntax14}
use Rattle.p414_syntax.specs.Twice.{declares_twice}
use Rattle.p414_syntax.specs.Breaks.{IsBroken}
use Rattle.p414_body_check.specs.Answers.{IsAccepted}

not_true : (b : Bool) → (IsTrue b → ⊥) → b ≡ false
not_true false never = refl
not_true true never = absurd (never refl)

-- C1: no name is declared twice in its sort
pub names_once : (s : Syntax14) → IsAccepted s → declares_twice s.decls ≡ false
unfolding IsBroken
names_once s accepted = not_true (declares_twice s.decls) accepted.0
