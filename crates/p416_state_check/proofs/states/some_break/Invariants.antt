use Rattle.std.proofs.Common.{drop}
use Rattle.p416_syntax.specs.Breaks.{SomeDeclaration, ParserBreaks}
use Rattle.p416_state_check.proofs.states.some_break.Given as goal

-- what is broken lies ahead
abbrev pub invariant-loop-decl : goal.invariant-loop-decl
invariant-loop-decl l = SomeDeclaration ParserBreaks l.decls → SomeDeclaration ParserBreaks (drop l.decl-index l.decls)
