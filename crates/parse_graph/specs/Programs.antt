-- The graph of a program's parser states (P4_14 1.0.5, "Parser Specification").
use Rattle.std.specs.Prelude.{◌≡◌, ◌<◌, List, length, map, codes, Some, unwrap_or}
use Rattle.p414_syntax.specs.declared.parsers.Parser.{Parser}
use Rattle.p414_syntax.specs.declared.syntax.Decl.{Decl}
use Rattle.p414_syntax.specs.ParserGraph.{states, state_number, extracts_in, next_in}
use Rattle.parse_graph.specs.declared.nodes.Graph.{Graph}
use Rattle.parse_graph.specs.declared.nodes.StateNode.{StateNode}

-- what a state extracts, and the states that its return names, by their numbers
abbrev pub node_of : List Decl → Parser → StateNode
node_of ds state = record { extracts = extracts_in ds state; next = next_in ds state }

-- a graph has each state of these declarations, and begins in the one that is named `start`; in state 0, where there is
-- none
pub record IsGraph (ds : List Decl) (g : Graph) : Type 0 where
  pub states_are : g.states ≡ map (node_of ds) (states ds)
  pub start_is : g.start ≡ unwrap_or (state_number ds (codes "start")) 0

-- a graph of these declarations begins in their state `start`, which is there
pub record BeginsInStart (ds : List Decl) (g : Graph) : Type 0 where
  pub named : state_number ds (codes "start") ≡ Some g.start
  pub within : g.start < length g.states
