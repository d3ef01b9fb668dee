-- What a check of a program answers.
use Rattle.std.specs.Prelude.{◌≡◌, Result, Ok, Err}
use Rattle.p416_syntax.specs.declared.program.Syntax16.{Syntax16}
use Rattle.p416_syntax.specs.declared.rule.ProgramRule.{ProgramRule}
use Rattle.p416_syntax.specs.Breaks.{BreaksNone, Breaks16, program_rules, rule_number, rule_fault}
use Rattle.p416_types.specs.declared.fault.Check16.{Check16}
use Rattle.p416_types.specs.declared.fault.Check16.TheVariants.{Memory, Refused}

-- a syntax breaks no rule
abbrev pub IsAccepted : Syntax16 → Type 0
IsAccepted s = BreaksNone s program_rules

-- The program is the syntax, which breaks no rule; or a fault tells of the least rule that it breaks; or memory ran out.
abbrev pub IsJudged : Syntax16 → Result Syntax16 Check16 → Type 0
IsJudged s (Ok program) = (program ≡ s) × IsAccepted s
IsJudged s (Err Memory) = Unit {0}
IsJudged s (Err (Refused fault)) = (rule : ProgramRule) × Breaks16 s (rule_number rule) × (fault ≡ rule_fault rule)
