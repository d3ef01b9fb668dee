use Rattle.std.proofs.Common.{◌≡◌, ◌++◌, map, drop}
use Rattle.p414_syntax.specs.ControlExpansion.{controls}
use Rattle.p414_ready_controls.specs.Nodes.{body_nodes}
use Rattle.p414_ready_controls.proofs.controls.bodies_of.Given as goal

abbrev pub invariant-loop-decl : goal.invariant-loop-decl
invariant-loop-decl l = l.bodies.items ++ map (body_nodes l.names) (controls (drop l.decl-index l.decls)) ≡ map (body_nodes l.names) (controls l.decls)
