use Rattle.std.proofs.Common.{◌≡◌, ◌++◌, map, drop}
use Rattle.p414_syntax.specs.ControlExpansion.{controls, control_name}
use Rattle.p414_control_check.proofs.controls.control_names.Given as goal

abbrev pub invariant-loop-decl : goal.invariant-loop-decl
invariant-loop-decl l = map (λ name. name.now) l.names.items ++ map control_name (controls (drop l.decl-index l.decls)) ≡ map control_name (controls l.decls)
