-- What is found in all declarations of a program, and the part of T1 about all of them together.
use Rattle.std.specs.Prelude.{◌≡◌, Bool, true, false, not, ◌&&◌, ◌||◌, nat_eq, List, [], ◌∷◌, flat_map, Option, Some, None}
use Rattle.std.specs.List.{list_any}
use Rattle.digraph.specs.Expansions.{HasCycle}
use Rattle.p416_syntax.specs.declared.program.Decl16.{Decl16}
use Rattle.p416_syntax.specs.declared.program.Syntax16.{Syntax16}
use Rattle.p416_syntax.specs.declared.rule.ProgramRule.{ProgramRule}
use Rattle.p416_syntax.specs.Names.{Name}
use Rattle.p416_syntax.specs.Uses.{Use}
use Rattle.p416_syntax.specs.Declarations.{declaration_uses}
use Rattle.p416_syntax.specs.Unknown.{declares_twice, struct_graph}
use Rattle.p416_syntax.specs.Breaks.{is_no_block, program_uses, rule_number}
use Rattle.p416_action_check.specs.Cycles.{scope_in}
use Rattle.p416_counter_check.specs.Counting.{is_counted_use}
use Rattle.p416_expression_uses.specs.First.{UseRule, first_by}
use Rattle.p416_expression_uses.specs.Found.{Found}

-- what the rules judge in a declaration, and in several
abbrev pub uses_at_top : List Decl16 → List Name → Decl16 → List Use
uses_at_top ds main d = declaration_uses (scope_in ds main d) d

abbrev pub uses_of_all : List Decl16 → List Name → List Decl16 → List Use
uses_of_all ds main some = flat_map (uses_at_top ds main) some

-- a direct counter is counted outside its table
abbrev pub counts_wrongly : List Use → Bool
counts_wrongly us = list_any is_counted_use us

-- a rule is the one that was found
abbrev pub is_found : Option ProgramRule → ProgramRule → Bool
is_found (Some first) rule = nat_eq (rule_number first) (rule_number rule)
is_found None rule = false

-- of these rules, and no others, the rule that was found is the first that a use of the program breaks
abbrev pub IsFirstOf : List UseRule → Syntax16 → Found → Type 0
IsFirstOf rules s found = found.rule ≡ first_by rules (program_uses s)

-- names at the top are declared twice, or a name in `main` is that of no block
abbrev pub is_misnamed_at_top : Syntax16 → Bool
is_misnamed_at_top s = declares_twice s.decls || list_any (is_no_block s) s.main

-- what T1 asks of all declarations together is kept
pub record AreNamed (s : Syntax16) : Type 0 where
  pub named : is_misnamed_at_top s ≡ false
  pub acyclic : HasCycle (struct_graph s.decls) → ⊥
