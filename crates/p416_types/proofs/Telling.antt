-- The first rule that is broken, of all rules, is the least.
use Rattle.std.proofs.Common.{Err, refl}
use Rattle.p416_syntax.specs.declared.program.Syntax16.{Syntax16}
use Rattle.p416_syntax.specs.Breaks.{Breaks16, program_rules}
use Rattle.p416_types.specs.declared.fault.Check16.{Check16}
use Rattle.p416_types.specs.declared.fault.Check16.TheVariants.{Memory, Refused}
use Rattle.p416_types.specs.Answers.{IsJudged}
use Rattle.p416_types.specs.internal.Steps.{Keeps}

pub told : (s : Syntax16) (e : Check16) → Keeps s program_rules (Err e) → IsJudged s (Err e)
unfolding Breaks16
told s Memory h = _
told s (Refused fault) (rule, broken, is) = (rule, (rule, refl, broken), is)
