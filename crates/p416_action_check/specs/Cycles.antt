-- Actions that call themselves, in some declaration of a program whose names at the top and in `main` are these.
use Rattle.std.specs.Prelude.{List}
use Rattle.p416_syntax.specs.declared.program.Decl16.{Decl16}
use Rattle.p416_syntax.specs.Names.{Name}
use Rattle.p416_syntax.specs.Scopes.{Scope}
use Rattle.p416_syntax.specs.Declarations.{top_scope}
use Rattle.p416_syntax.specs.Unknown.{declared_name}
use Rattle.p416_syntax.specs.Main.{positions_from}
use Rattle.p416_syntax.specs.Breaks.{SomeDeclaration, HasCallCycle}

-- the scope of a declaration at the top
abbrev pub scope_in : List Decl16 → List Name → Decl16 → Scope
scope_in ds main d = top_scope ds (positions_from 0 main (declared_name d))

abbrev pub CallsItself : List Decl16 → List Name → Decl16 → Type 0
CallsItself ds main d = HasCallCycle (scope_in ds main d) d

abbrev pub SomeCallsItself : List Decl16 → List Name → Type 0
SomeCallsItself ds main = SomeDeclaration (CallsItself ds main) ds
