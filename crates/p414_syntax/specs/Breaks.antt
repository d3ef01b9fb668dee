-- Which rule a program breaks, and no lower one.
use Rattle.std.specs.Prelude.{◌≡◌, ◌⊎◌, ℕ, IsTrue, List, [], ◌∷◌, ◌++◌, None}
use Rattle.p4x_fault.specs.declared.Fault.{Fault}
use Rattle.p4x_fault.specs.declared.Rule.TheVariants.{C}
use Rattle.p414_syntax.specs.declared.syntax.Decl.{Decl}
use Rattle.p414_syntax.specs.declared.syntax.Syntax14.{Syntax14}
use Rattle.p414_syntax.specs.declared.rule.ProgramRule.{ProgramRule}
use Rattle.p414_syntax.specs.declared.rule.ProgramRule.TheVariants.{C1, C2, C3, C4, C5, C6, C7, C8, C9, C10, C11, C12, C13, C14, C15, C16, C17, C18, C19, C20, C21, C22, C23, C24, C25, C26, C27, C28}
use Rattle.p414_syntax.specs.Twice.{declares_twice}
use Rattle.p414_syntax.specs.Unknown.{has_unknown_name}
use Rattle.p414_syntax.specs.Widths.{has_bad_width, has_bad_layout}
use Rattle.p414_syntax.specs.Stacks.{has_bad_stack}
use Rattle.p414_syntax.specs.Selects.{has_bad_select}
use Rattle.p414_syntax.specs.Totals.{has_too_much}
use Rattle.p414_syntax.specs.Lists.{HasBadList}
use Rattle.p414_syntax.specs.ParserGraph.{HasIdleCycle, HasNoOrder}
use Rattle.p414_syntax.specs.Tables.{has_bad_key, has_two_lpm_keys, has_bad_default}
use Rattle.p414_syntax.specs.Calls.{HasWrongCall}
use Rattle.p414_syntax.specs.Targets.{has_bad_target}
use Rattle.p414_syntax.specs.Actions.{HasBadAction}
use Rattle.p414_syntax.specs.Controls.{HasBadControl}
use Rattle.p414_syntax.specs.Pipelines.{IsTableShared, HasMisplacedRequest}
use Rattle.p414_syntax.specs.Preserved.{HasBadPreservedList, PreservesInitialized}
use Rattle.p414_syntax.specs.Payloads.{HasBadPayload}
use Rattle.p414_syntax.specs.CalculatedFields.{has_calculated_condition}
use Rattle.p414_syntax.specs.Cells.{has_bad_cells}
use Rattle.p414_syntax.specs.Unsupported.{has_unsupported}
use Rattle.p414_syntax.specs.Expressions.{has_minus_sign}
use Rattle.p414_syntax.specs.Parameters.{has_misused_parameter}
use Rattle.p414_syntax.specs.Nesting.{HasDeepNesting}

-- what a rule is broken by, of the declarations of a program
unfoldable pub IsBroken : List Decl → ProgramRule → Type 0
IsBroken ds C1 = IsTrue (declares_twice ds)
IsBroken ds C2 = IsTrue (has_unknown_name ds)
IsBroken ds C3 = IsTrue (has_bad_width ds)
IsBroken ds C4 = IsTrue (has_bad_stack ds)
IsBroken ds C5 = IsTrue (has_bad_layout ds)
IsBroken ds C6 = IsTrue (has_bad_select ds)
IsBroken ds C7 = IsTrue (has_too_much ds)
IsBroken ds C8 = HasBadList ds
IsBroken ds C9 = HasIdleCycle ds
IsBroken ds C10 = HasNoOrder ds
IsBroken ds C11 = IsTrue (has_bad_key ds)
IsBroken ds C12 = IsTrue (has_two_lpm_keys ds)
IsBroken ds C13 = HasWrongCall ds
IsBroken ds C14 = IsTrue (has_bad_target ds)
IsBroken ds C15 = HasBadAction ds
IsBroken ds C16 = HasBadControl ds
IsBroken ds C17 = IsTableShared ds
IsBroken ds C18 = HasBadPreservedList ds
IsBroken ds C19 = PreservesInitialized ds
IsBroken ds C20 = HasBadPayload ds
IsBroken ds C21 = IsTrue (has_calculated_condition ds)
IsBroken ds C22 = HasMisplacedRequest ds
IsBroken ds C23 = IsTrue (has_bad_cells ds)
IsBroken ds C24 = IsTrue (has_bad_default ds)
IsBroken ds C25 = IsTrue (has_unsupported ds)
IsBroken ds C26 = IsTrue (has_minus_sign ds)
IsBroken ds C27 = IsTrue (has_misused_parameter ds)
IsBroken ds C28 = HasDeepNesting ds

-- this rule is the first of these that is broken
abbrev pub IsFirstBroken : List Decl → List ProgramRule → ProgramRule → Type 0
IsFirstBroken ds [] rule = ⊥
IsFirstBroken ds (r ∷ rs) rule =
    (IsBroken ds r × (r ≡ rule)) ⊎ ((IsBroken ds r → ⊥) × IsFirstBroken ds rs rule)

-- none of these is broken
abbrev pub BreaksNone : List Decl → List ProgramRule → Type 0
BreaksNone ds [] = Unit {0}
BreaksNone ds (r ∷ rs) = (IsBroken ds r → ⊥) × BreaksNone ds rs

-- the rules on declarations, those on parsers and bodies, and all rules, in order
abbrev pub declaration_rules : List ProgramRule
declaration_rules = C1 ∷ C2 ∷ C3 ∷ C4 ∷ C5 ∷ C6 ∷ C7 ∷ C8 ∷ []

abbrev pub body_rules : List ProgramRule
body_rules =
    C9 ∷ C10 ∷ C11 ∷ C12 ∷ C13 ∷ C14 ∷ C15 ∷ C16 ∷ C17 ∷ C18 ∷ C19 ∷ C20 ∷ C21 ∷ C22 ∷ C23 ∷ C24 ∷ C25 ∷ C26
    ∷ C27 ∷ C28 ∷ []

abbrev pub program_rules : List ProgramRule
program_rules = declaration_rules ++ body_rules

-- a syntax breaks this rule, and no lower one
unfoldable pub Breaks14 : Syntax14 → ProgramRule → Type 0
Breaks14 s rule = IsFirstBroken s.decls program_rules rule

-- the number of a rule, and the fault that tells of it
abbrev pub rule_number : ProgramRule → ℕ
rule_number C1 = 1
rule_number C2 = 2
rule_number C3 = 3
rule_number C4 = 4
rule_number C5 = 5
rule_number C6 = 6
rule_number C7 = 7
rule_number C8 = 8
rule_number C9 = 9
rule_number C10 = 10
rule_number C11 = 11
rule_number C12 = 12
rule_number C13 = 13
rule_number C14 = 14
rule_number C15 = 15
rule_number C16 = 16
rule_number C17 = 17
rule_number C18 = 18
rule_number C19 = 19
rule_number C20 = 20
rule_number C21 = 21
rule_number C22 = 22
rule_number C23 = 23
rule_number C24 = 24
rule_number C25 = 25
rule_number C26 = 26
rule_number C27 = 27
rule_number C28 = 28

abbrev pub rule_fault : ProgramRule → Fault
rule_fault rule = record { rule = C (rule_number rule); place = None }
