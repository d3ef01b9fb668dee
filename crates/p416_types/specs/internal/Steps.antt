-- What each step of the check answers.
use Rattle.std.specs.Prelude.{◌≡◌, List, [], ◌∷◌, ◌++◌, Result, Ok, Err}
use Rattle.p416_syntax.specs.declared.program.Syntax16.{Syntax16}
use Rattle.p416_syntax.specs.declared.rule.ProgramRule.{ProgramRule}
use Rattle.p416_syntax.specs.declared.rule.ProgramRule.TheVariants.{T1, T2, T3, T4, T5, T6, T7, T8, T9, T10, T11, T12}
use Rattle.p416_syntax.specs.Breaks.{IsFirstBroken, BreaksNone, rule_fault}
use Rattle.p416_syntax.specs.Literals.{overflows}
use Rattle.p416_syntax.specs.Writes.{writes_constant}
use Rattle.p416_syntax.specs.Arguments.{is_miscounted}
use Rattle.p416_syntax.specs.Applications.{applies_wrongly}
use Rattle.p416_syntax.specs.Externs.{is_outside_block}
use Rattle.p416_expression_uses.specs.First.{UseRule, use_rule, is_bad_elsewhere}
use Rattle.p416_types.specs.declared.fault.Check16.{Check16}
use Rattle.p416_types.specs.declared.fault.Check16.TheVariants.{Memory, Refused}

-- None of these rules is broken; or a fault tells of the first that is; or memory ran out.
abbrev pub Keeps : Syntax16 → List ProgramRule → Result (Unit {0}) Check16 → Type 0
Keeps s rules (Ok done) = BreaksNone s rules
Keeps s rules (Err Memory) = Unit {0}
Keeps s rules (Err (Refused fault)) = (rule : ProgramRule) × IsFirstBroken s rules rule × (fault ≡ rule_fault rule)

-- the rules that are asked together
abbrev pub rules_from_t1 : List ProgramRule
rules_from_t1 = T1 ∷ T2 ∷ T3 ∷ []

abbrev pub rules_from_t4 : List ProgramRule
rules_from_t4 = T4 ∷ T5 ∷ T6 ∷ []

abbrev pub rules_from_t7 : List ProgramRule
rules_from_t7 = T7 ∷ T8 ∷ T9 ∷ []

abbrev pub rules_from_t10 : List ProgramRule
rules_from_t10 = T10 ∷ T11 ∷ T12 ∷ []

-- the tests of uses that are left from a rule on
abbrev pub uses_from_t10 : List UseRule
uses_from_t10 = use_rule T10 is_outside_block ∷ []

abbrev pub uses_from_t9 : List UseRule
uses_from_t9 = use_rule T9 is_bad_elsewhere ∷ uses_from_t10

abbrev pub uses_from_t7 : List UseRule
uses_from_t7 = use_rule T8 applies_wrongly ∷ uses_from_t9

abbrev pub uses_from_t4 : List UseRule
uses_from_t4 = use_rule T4 overflows ∷ use_rule T5 writes_constant ∷ use_rule T6 is_miscounted ∷ uses_from_t7
