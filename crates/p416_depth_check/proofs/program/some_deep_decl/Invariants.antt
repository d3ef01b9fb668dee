use Rattle.std.proofs.Common.{◌≡◌, drop}
use Rattle.std.specs.List.{list_any}
use Rattle.p416_depth_check.specs.internal.Deep.{is_deep_decl}
use Rattle.p416_depth_check.proofs.program.some_deep_decl.Given as goal

abbrev pub invariant-loop-decl : goal.invariant-loop-decl
invariant-loop-decl l = list_any is_deep_decl (drop l.decl-index l.decls) ≡ list_any is_deep_decl l.decls
