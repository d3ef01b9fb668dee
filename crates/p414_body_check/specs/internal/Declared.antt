-- The names of a program that breaks no rule of declarations.
use Rattle.std.specs.Prelude.{◌≡◌, List, Result, Ok, Err}
use Rattle.p414_syntax.specs.declared.syntax.Decl.{Decl}
use Rattle.p414_syntax.specs.Breaks.{BreaksNone, declaration_rules}
use Rattle.p414_body_check.specs.declared.fault.Check14.{Check14}
use Rattle.p414_body_check.specs.internal.Steps.{Keeps}

-- the names are those of the declarations, which break none of these rules; or a fault tells of the first that they
-- break; or memory ran out
abbrev pub IsDeclared : List Decl → Result (List Decl) Check14 → Type 0
IsDeclared ds (Ok names) = BreaksNone ds declaration_rules × (names ≡ ds)
IsDeclared ds (Err fault) = Keeps ds declaration_rules (Err fault)
