-- Which rule a program breaks, and no lower one.
use Rattle.std.specs.Prelude.{◌≡◌, ◌⊎◌, ℕ, IsTrue, Bool, not, ◌||◌, List, [], ◌∷◌, flat_map, None}
use Rattle.std.specs.List.{list_any}
use Rattle.digraph.specs.Expansions.{HasCycle}
use Rattle.p4x_fault.specs.declared.Fault.{Fault}
use Rattle.p4x_fault.specs.declared.Rule.TheVariants.{T}
use Rattle.p416_syntax.specs.declared.program.Decl16.{Decl16}
use Rattle.p416_syntax.specs.declared.program.Decl16.TheVariants as decl
use Rattle.p416_syntax.specs.declared.program.Syntax16.{Syntax16}
use Rattle.p416_syntax.specs.declared.rule.ProgramRule.{ProgramRule}
use Rattle.p416_syntax.specs.declared.rule.ProgramRule.TheVariants.{T1, T2, T3, T4, T5, T6, T7, T8, T9, T10, T11, T12}
use Rattle.p416_syntax.specs.Names.{Name}
use Rattle.p416_syntax.specs.Scopes.{Scope}
use Rattle.p416_syntax.specs.Uses.{Use, a_name, some_block}
use Rattle.p416_syntax.specs.Declarations.{top_scope, layouts_of, declaration_uses}
use Rattle.p416_syntax.specs.Unknown.{is_misnamed, declares_twice, declared_name, struct_graph}
use Rattle.p416_syntax.specs.Sizes.{leaves_size}
use Rattle.p416_syntax.specs.Types.{is_mistyped}
use Rattle.p416_syntax.specs.Literals.{overflows}
use Rattle.p416_syntax.specs.Writes.{writes_constant}
use Rattle.p416_syntax.specs.Arguments.{is_miscounted}
use Rattle.p416_syntax.specs.ParserStates.{StatesBreak}
use Rattle.p416_syntax.specs.Applications.{applies_wrongly, call_graph}
use Rattle.p416_syntax.specs.Tables.{is_bad_in_table, has_shared_names}
use Rattle.p416_syntax.specs.Externs.{is_outside_block}
use Rattle.p416_syntax.specs.Main.{positions_of, is_main}
use Rattle.p416_syntax.specs.Totals.{is_too_deep, has_large_headers, has_large_variables, has_bad_cells}

-- one declaration by itself

-- a test of what the rules judge in a declaration, given the names and types at the top and where it stands in `main`
abbrev pub has_use : (Use → Bool) → Scope → Decl16 → Bool
has_use test s d = list_any test (declaration_uses s d)

-- T7, and T8 besides what a test finds
abbrev pub ParserBreaks : Decl16 → Type 0
ParserBreaks (decl.Parser p) = StatesBreak p
ParserBreaks _ = ⊥

abbrev pub HasCallCycle : Scope → Decl16 → Type 0
HasCallCycle s (decl.Control c) = HasCycle (call_graph s c)
HasCallCycle s _ = ⊥

-- A declaration breaks a rule by itself, given the names and types at the top, with what they are, and where it stands in
-- `main`. T11 is no rule of one declaration; the rest of T1, T9 and T12 is about all of them.
abbrev pub DeclarationBreaks : ProgramRule → Scope → Decl16 → Type 0
DeclarationBreaks T1 s d = IsTrue (has_use is_misnamed s d)
DeclarationBreaks T2 s d = IsTrue (has_use leaves_size s d)
DeclarationBreaks T3 s d = IsTrue (has_use is_mistyped s d)
DeclarationBreaks T4 s d = IsTrue (has_use overflows s d)
DeclarationBreaks T5 s d = IsTrue (has_use writes_constant s d)
DeclarationBreaks T6 s d = IsTrue (has_use is_miscounted s d)
DeclarationBreaks T7 s d = ParserBreaks d
DeclarationBreaks T8 s d = IsTrue (has_use applies_wrongly s d) ⊎ HasCallCycle s d
DeclarationBreaks T9 s d = IsTrue (has_use is_bad_in_table s d)
DeclarationBreaks T10 s d = IsTrue (has_use is_outside_block s d)
DeclarationBreaks T11 s d = ⊥
DeclarationBreaks T12 s d = IsTrue (has_use is_too_deep s d)

-- the whole program

-- the scope of a declaration at the top: all names there, and where the declaration stands in `main`
abbrev pub scope_of : Syntax16 → Decl16 → Scope
scope_of s d = top_scope s.decls (positions_of s (declared_name d))

-- something holds of some of these declarations
abbrev pub SomeDeclaration : (Decl16 → Type 0) → List Decl16 → Type 0
SomeDeclaration P [] = ⊥
SomeDeclaration P (d ∷ ds) = P d ⊎ SomeDeclaration P ds

-- some declaration breaks the rule by itself
abbrev pub SomeBreaks : ProgramRule → Syntax16 → Type 0
SomeBreaks rule s = SomeDeclaration (λ d. DeclarationBreaks rule (scope_of s d) d) s.decls

-- a name in `main` is that of no block
abbrev pub is_no_block : Syntax16 → Name → Bool
is_no_block s text = is_misnamed (a_name (top_scope s.decls []) some_block text)

-- what the rules judge in the whole program
abbrev pub uses_in : Syntax16 → Decl16 → List Use
uses_in s d = declaration_uses (scope_of s d) d

abbrev pub program_uses : Syntax16 → List Use
program_uses s = flat_map (uses_in s) s.decls

-- what a rule asks of all declarations together
abbrev pub WholeBreaks : ProgramRule → Syntax16 → Type 0
WholeBreaks T1 s =
    IsTrue (declares_twice s.decls || list_any (is_no_block s) s.main) ⊎ HasCycle (struct_graph s.decls)
WholeBreaks T9 s = IsTrue (has_shared_names s.decls)
WholeBreaks T11 s = IsTrue (not (is_main s))
WholeBreaks T12 s =
    IsTrue (has_large_headers s || has_large_variables (layouts_of s.decls) (program_uses s) || has_bad_cells s.decls)
WholeBreaks _ s = ⊥

-- what a rule is broken by
unfoldable pub IsBroken : Syntax16 → ProgramRule → Type 0
IsBroken s rule = SomeBreaks rule s ⊎ WholeBreaks rule s

abbrev pub program_rules : List ProgramRule
program_rules = T1 ∷ T2 ∷ T3 ∷ T4 ∷ T5 ∷ T6 ∷ T7 ∷ T8 ∷ T9 ∷ T10 ∷ T11 ∷ T12 ∷ []

-- this rule is the first of these that is broken
abbrev pub IsFirstBroken : Syntax16 → List ProgramRule → ProgramRule → Type 0
IsFirstBroken s [] rule = ⊥
IsFirstBroken s (r ∷ rs) rule = (IsBroken s r × (r ≡ rule)) ⊎ ((IsBroken s r → ⊥) × IsFirstBroken s rs rule)

-- none of these is broken
abbrev pub BreaksNone : Syntax16 → List ProgramRule → Type 0
BreaksNone s [] = Unit {0}
BreaksNone s (r ∷ rs) = (IsBroken s r → ⊥) × BreaksNone s rs

-- the number of a rule, and the fault that tells of it
abbrev pub rule_number : ProgramRule → ℕ
rule_number T1 = 1
rule_number T2 = 2
rule_number T3 = 3
rule_number T4 = 4
rule_number T5 = 5
rule_number T6 = 6
rule_number T7 = 7
rule_number T8 = 8
rule_number T9 = 9
rule_number T10 = 10
rule_number T11 = 11
rule_number T12 = 12

abbrev pub rule_fault : ProgramRule → Fault
rule_fault rule = record { rule = T (rule_number rule); place = None }

-- a syntax breaks the rule with this number, and no lower one
unfoldable pub Breaks16 : Syntax16 → ℕ → Type 0
Breaks16 s number = (rule : ProgramRule) × (rule_number rule ≡ number) × IsFirstBroken s program_rules rule
