-- Laws of programs of the forms that the lowering writes (this project's own; P4_16 1.2, "Name resolution",
-- "Expressions", "Statements", "P4 grammar").
use Rattle.std.specs.Prelude.{List, true, ◌≡◌}
use Rattle.p416_syntax.specs.Breaks.{BreaksNone, program_rules}
use Rattle.p416_syntax.specs.Kinds.{Kind}
use Rattle.p416_syntax.specs.Names.{Name}
use Rattle.p416_syntax.specs.Spelt.{is_spelt16}
use Rattle.p416_syntax.specs.declared.program.Decl16.{Decl16}
use Rattle.p416_syntax.specs.declared.program.Syntax16.{Syntax16}
use Rattle.lower_laws_rules.specs.Spelling.{SpeltProgram}
use Rattle.lower_laws_rules.specs.Whole.{ProgramKeeps}

-- A program whose declarations keep what is asked breaks no rule of P4_16.
abbrev pub ProgramsBreakNone : Type 0
ProgramsBreakNone =
    (s : Syntax16) (h m : Name) (held : Decl16 → List Kind) → ProgramKeeps s h m held → BreaksNone s program_rules

-- A program whose parts are spelt is spelt.
abbrev pub ProgramsSpelt : Type 0
ProgramsSpelt =
    (s : Syntax16) → SpeltProgram s → is_spelt16 s ≡ true
