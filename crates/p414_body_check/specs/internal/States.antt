-- The graph of a program's parser states, with all that is known of it.
use Rattle.std.specs.Prelude.{◌≡◌, ◌↔◌, ℕ, List}
use Rattle.p414_syntax.specs.declared.syntax.Decl.{Decl}
use Rattle.p414_syntax.specs.ParserGraph.{HasIdleCycle}
use Rattle.parse_graph.specs.declared.nodes.Graph.{Graph}
use Rattle.parse_graph.specs.Graphs.{IsWhole, IsIdle}
use Rattle.parse_graph.specs.Programs.{IsGraph, BeginsInStart}

pub record IsGraphOf (ds : List Decl) (g : Graph) : Type 0 where
  pub graph : IsGraph ds g
  pub whole : IsWhole g.states
  pub idle : HasIdleCycle ds ↔ ((s : ℕ) × IsIdle g.states s)
  pub start : BeginsInStart ds g
