use Rattle.std.proofs.Common.{◌≡◌, drop}
use Rattle.v1_core.specs.Blocks.{control_called}
use Rattle.v1_ready_whole.proofs.blocks.control_called.Given as goal

abbrev pub invariant-loop-decl : goal.invariant-loop-decl
invariant-loop-decl l = control_called (drop l.decl-index l.decls) l.name ≡ control_called l.decls l.name
