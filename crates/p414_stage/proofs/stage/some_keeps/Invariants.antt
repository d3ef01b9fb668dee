use Rattle.std.proofs.Common.{◌≡◌, drop}
use Rattle.std.specs.List.{list_any}
use Rattle.p414_sem.specs.Stages.{keeps_something}
use Rattle.p414_stage.proofs.stage.some_keeps.Given as goal

abbrev pub invariant-loop-decl : goal.invariant-loop-decl
invariant-loop-decl l = list_any keeps_something (drop l.decl-index l.decls) ≡ list_any keeps_something l.decls
