-- The nodes of ready expressions over the frames of a layout, and the expressions that they keep, by their places.
use Rattle.std.specs.Prelude.{List, []}
use Rattle.node_lists.specs.Trees.{grow}
use Rattle.v1_core.specs.Layouts.{Layout}
use Rattle.v1_core.specs.declared.node.Node.{Node}
use Rattle.v1_core.specs.Ready.{Ready}
use Rattle.v1_core.specs.Nodes.{ready_of}

pub record Kept : Type 0 where
  pub layout : Layout
  pub nodes : List Node

abbrev pub kept : Layout → List Node → Kept
kept l nodes = record { layout = l; nodes = nodes }

abbrev pub trees : Kept → List Ready
trees k = grow ready_of [] k.nodes
