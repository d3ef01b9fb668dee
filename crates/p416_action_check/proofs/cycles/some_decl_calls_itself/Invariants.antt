use Rattle.std.proofs.Common.{drop}
use Rattle.p416_syntax.specs.Breaks.{SomeDeclaration}
use Rattle.p416_action_check.specs.Cycles.{CallsItself}
use Rattle.p416_action_check.proofs.cycles.some_decl_calls_itself.Given as goal

-- what calls itself lies ahead
abbrev pub invariant-loop-decl : goal.invariant-loop-decl
invariant-loop-decl l = SomeDeclaration (CallsItself l.top l.places) l.decls → SomeDeclaration (CallsItself l.top l.places) (drop l.decl-index l.decls)
