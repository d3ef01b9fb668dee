-- What a check of declarations answers.
use Rattle.std.specs.Prelude.{◌≡◌, List, [], ◌∷◌, Result, Ok, Err}
use Rattle.p4x_fault.specs.declared.Fault.{Fault}
use Rattle.p414_syntax.specs.declared.syntax.Decl.{Decl}
use Rattle.p414_syntax.specs.declared.syntax.Syntax14.{Syntax14}
use Rattle.p414_syntax.specs.declared.rule.ProgramRule.{ProgramRule}
use Rattle.p414_syntax.specs.declared.rule.ProgramRule.TheVariants.{C1, C2, C3, C4, C5, C6, C7}
use Rattle.p414_syntax.specs.Breaks.{IsFirstBroken, BreaksNone, Breaks14, rule_fault}
use Rattle.p414_decl_check.specs.declared.fault.DeclFault.{DeclFault}
use Rattle.p414_decl_check.specs.declared.fault.DeclFault.TheVariants.{Memory, Refused}

-- the rules that are truth values
abbrev pub flat_rules : List ProgramRule
flat_rules = C1 ∷ C2 ∷ C3 ∷ C4 ∷ C5 ∷ C6 ∷ C7 ∷ []

-- the fault tells of the first of these rules that is broken
abbrev pub Blames : List Decl → List ProgramRule → Fault → Type 0
Blames ds rules fault = (rule : ProgramRule) × IsFirstBroken ds rules rule × (fault ≡ rule_fault rule)

-- The names are those of the declarations, which break none of these rules; or a fault tells of the first that they
-- break; or memory ran out.
abbrev pub IsAnswer : List Decl → List ProgramRule → Result (List Decl) DeclFault → Type 0
IsAnswer ds rules (Ok names) = BreaksNone ds rules × (names ≡ ds)
IsAnswer ds rules (Err Memory) = Unit {0}
IsAnswer ds rules (Err (Refused fault)) = Blames ds rules fault

-- A fault tells of the least of all rules of P4_14 that the syntax breaks.
abbrev pub BlamesLeast : Syntax14 → Result (List Decl) DeclFault → Type 0
BlamesLeast s (Ok names) = Unit {0}
BlamesLeast s (Err Memory) = Unit {0}
BlamesLeast s (Err (Refused fault)) = (rule : ProgramRule) × Breaks14 s rule × (fault ≡ rule_fault rule)
