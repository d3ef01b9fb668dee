-- The controls of a program, ready to run, `ingress` and `egress` among them (P4_14 1.0.5, "Packet Processing and Control Flow").
use Rattle.std.specs.Prelude.{◌≡◌, List}
use Rattle.p414_syntax.specs.declared.syntax.Decl.{Decl}
use Rattle.p414_syntax.specs.ControlExpansion.{control_number, ingress, egress}
use Rattle.p414_ready_controls.specs.Nodes.{control_nodes}
use Rattle.p414_control_run.specs.declared.bodies.Bodies.{Bodies}

-- these are the controls of a program, and its pipelines are found by number
pub record AreBodies (ds : List Decl) (b : Bodies) : Type 0 where
  pub controls : b.controls ≡ control_nodes ds
  pub to_ingress : b.ingress ≡ control_number ds ingress
  pub to_egress : b.egress ≡ control_number ds egress
