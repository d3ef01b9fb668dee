-- A program that breaks no rule declares no name twice.
use Rattle.std.proofs.Common.{◌≡◌, Bool, true, false, List, refl}
use Rattle.std.specs.Prelude.{IsTrue}
use Rattle.p414_syntax.specs.declared.syntax.Decl.{Decl}
use Rattle.p414_syntax.specs.declared.syntax.Syntax14.{Syntax14}
use Rattle.p414_syntax.specs.declared.rule.ProgramRule.TheVariants.{C1}
use Rattle.p414_syntax.specs.Breaks.{IsBroken}
use Rattle.p414_syntax.specs.Twice.{declares_twice}
use Rattle.p414_body_check.specs.Answers.{IsAccepted}

never : (b : Bool) → (IsTrue b → ⊥) → b ≡ false
never true whole = absurd (whole refl)
never false whole = refl

not_twice : (ds : List Decl) → (IsBroken ds C1 → ⊥) → declares_twice ds ≡ false
unfolding IsBroken
not_twice ds whole = never (declares_twice ds) whole

pub once : (s : Syntax14) → IsAccepted s → declares_twice s.decls ≡ false
once s accepted = not_twice s.decls accepted.0
