use Rattle.std.proofs.Common.{◌≡◌, ◌++◌, drop}
use Rattle.std.specs.List.{flat_map}
use Rattle.p414_syntax.specs.Cells.{direct_in}
use Rattle.p414_flat_check.proofs.cells.direct_tables.Given as goal

abbrev pub invariant-loop-decl : goal.invariant-loop-decl
invariant-loop-decl l = l.found ++ flat_map direct_in (drop l.decl-index l.decls) ≡ flat_map direct_in l.decls
