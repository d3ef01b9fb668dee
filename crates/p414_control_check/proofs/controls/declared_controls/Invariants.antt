use Rattle.std.proofs.Common.{◌≡◌, ◌++◌, drop}
use Rattle.p414_syntax.specs.ControlExpansion.{controls}
use Rattle.p414_control_check.proofs.controls.declared_controls.Given as goal

abbrev pub invariant-loop-decl : goal.invariant-loop-decl
invariant-loop-decl l = l.found ++ controls (drop l.decl-index l.decls) ≡ controls l.decls
