-- The first rule that is broken, of all rules, is the least.
use Rattle.std.proofs.Common.{Err}
use Rattle.p414_syntax.specs.declared.syntax.Syntax14.{Syntax14}
use Rattle.p414_syntax.specs.Breaks.{Breaks14, program_rules}
use Rattle.p414_body_check.specs.declared.fault.Check14.{Check14}
use Rattle.p414_body_check.specs.declared.fault.Check14.TheVariants.{Memory, Refused}
use Rattle.p414_body_check.specs.Answers.{IsJudged}
use Rattle.p414_body_check.specs.internal.Steps.{Keeps}

pub told : (s : Syntax14) (e : Check14) → Keeps s.decls program_rules (Err e) → IsJudged s (Err e)
unfolding Breaks14
told s Memory h = _
told s (Refused fault) h = h
