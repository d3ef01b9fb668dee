use Rattle.std.proofs.Common.{◌≡◌, map, drop}
use Rattle.std.specs.List.{list_any}
use Rattle.p414_syntax.specs.References.{referred}
use Rattle.p414_sem.specs.Stages.{calls_in_decl}
use Rattle.p414_stage.proofs.stage.calls_some.Given as goal

abbrev pub invariant-loop-decl : goal.invariant-loop-decl
invariant-loop-decl l =
    list_any (calls_in_decl (map referred l.primitives)) (drop l.decl-index l.decls)
    ≡ list_any (calls_in_decl (map referred l.primitives)) l.decls
