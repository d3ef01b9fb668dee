-- What a check of a program answers.
use Rattle.std.specs.Prelude.{◌≡◌, List, Result, Ok, Err}
use Rattle.p414_syntax.specs.declared.syntax.Syntax14.{Syntax14}
use Rattle.p414_syntax.specs.declared.rule.ProgramRule.{ProgramRule}
use Rattle.p414_syntax.specs.Breaks.{BreaksNone, Breaks14, program_rules, rule_fault}
use Rattle.p414_body_check.specs.declared.fault.Check14.{Check14}
use Rattle.p414_body_check.specs.declared.fault.Check14.TheVariants.{Memory, Refused}

-- a syntax breaks no rule
abbrev pub IsAccepted : Syntax14 → Type 0
IsAccepted s = BreaksNone s.decls program_rules

-- The program is the syntax, which breaks no rule; or a fault tells of the least rule that it breaks; or memory ran out.
abbrev pub IsJudged : Syntax14 → Result Syntax14 Check14 → Type 0
IsJudged s (Ok program) = (program ≡ s) × IsAccepted s
IsJudged s (Err Memory) = Unit {0}
IsJudged s (Err (Refused fault)) = (rule : ProgramRule) × Breaks14 s rule × (fault ≡ rule_fault rule)
