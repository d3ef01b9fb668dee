-- The statements that are kept, by the places of their nodes.
use Rattle.std.specs.Prelude.{ℕ, ◌+◌, List, max}
use Rattle.v1_ready_blocks.specs.declared.nodes.TestNode.{TestNode}
use Rattle.v1_ready_blocks.specs.declared.nodes.TestNode.TheVariants as test_node
use Rattle.v1_ready_blocks.specs.declared.nodes.Node.{Node}
use Rattle.v1_ready_blocks.specs.declared.nodes.Node.TheVariants as node
use Rattle.v1_ready_blocks.specs.Nodes.{Ground}

pub record Kept : Type 0 where
  pub ground : Ground
  pub nodes : List Node

abbrev pub kept : Ground → List Node → Kept
kept g nodes = record { ground = g; nodes = nodes }

-- over so many expressions
abbrev pub over : ℕ → Ground → Ground
over expressions g = record g { expressions = expressions }

-- how many expressions there are at least, with the one that a node names

abbrev pub needed_by : TestNode → ℕ → ℕ
needed_by (test_node.Plain e) expressions = max expressions (e + 1)
needed_by _ expressions = expressions

abbrev pub needed : Node → ℕ → ℕ
needed (node.Test of) expressions = needed_by of expressions
needed _ expressions = expressions

abbrev pub over_node : Node → Ground → Ground
over_node n g = over (needed n g.expressions) g
