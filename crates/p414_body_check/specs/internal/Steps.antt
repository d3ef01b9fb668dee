-- What each step of the check answers.
use Rattle.std.specs.Prelude.{◌≡◌, List, [], ◌∷◌, ◌++◌, Result, Ok, Err}
use Rattle.p414_syntax.specs.declared.syntax.Decl.{Decl}
use Rattle.p414_syntax.specs.declared.rule.ProgramRule.{ProgramRule}
use Rattle.p414_syntax.specs.declared.rule.ProgramRule.TheVariants.{C11, C12, C13, C14, C15, C16, C17, C18, C19, C20, C21, C22, C23, C24, C25, C26, C27, C28}
use Rattle.p414_syntax.specs.Breaks.{IsFirstBroken, BreaksNone, rule_fault}
use Rattle.p414_body_check.specs.declared.fault.Check14.{Check14}
use Rattle.p414_body_check.specs.declared.fault.Check14.TheVariants.{Memory, Refused}

-- None of these rules is broken; or a fault tells of the first that is; or memory ran out.
abbrev pub Keeps : List Decl → List ProgramRule → Result (Unit {0}) Check14 → Type 0
Keeps ds rules (Ok done) = BreaksNone ds rules
Keeps ds rules (Err Memory) = Unit {0}
Keeps ds rules (Err (Refused fault)) = (rule : ProgramRule) × IsFirstBroken ds rules rule × (fault ≡ rule_fault rule)

-- the rules that are asked together
abbrev pub rules_from_c11 : List ProgramRule
rules_from_c11 = C11 ∷ C12 ∷ C13 ∷ []

abbrev pub rules_from_c14 : List ProgramRule
rules_from_c14 = C14 ∷ C15 ∷ C16 ∷ []

abbrev pub rules_from_c17 : List ProgramRule
rules_from_c17 = C17 ∷ C18 ∷ C19 ∷ []

abbrev pub rules_from_c20 : List ProgramRule
rules_from_c20 = C20 ∷ C21 ∷ C22 ∷ []

abbrev pub rules_from_c23 : List ProgramRule
rules_from_c23 = C23 ∷ C24 ∷ C25 ∷ []

abbrev pub rules_from_c26 : List ProgramRule
rules_from_c26 = C26 ∷ C27 ∷ C28 ∷ []

-- all of them behind those on parsers
abbrev pub rules_of_bodies : List ProgramRule
rules_of_bodies =
    rules_from_c11 ++ (rules_from_c14 ++ (rules_from_c17 ++ (rules_from_c20 ++ (rules_from_c23 ++ rules_from_c26))))
