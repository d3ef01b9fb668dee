-- The order in which the headers of a program leave.
use Rattle.std.specs.Prelude.{◌≡◌, ℕ, List, codes, Some, Result, Ok, Err}
use Rattle.p414_syntax.specs.declared.syntax.Decl.{Decl}
use Rattle.p414_syntax.specs.ParserGraph.{state_number, Order, HasNoOrder}
use Rattle.parse_graph.specs.declared.nodes.Graph.{Graph}
use Rattle.parse_graph.specs.Programs.{IsGraph}
use Rattle.deparse_order.specs.declared.fault.OrderFault.{OrderFault}
use Rattle.deparse_order.specs.declared.fault.OrderFault.TheVariants.{Memory, Cycle}

-- the graph is that of declarations with a state `start`, in which it begins
pub record IsProgramGraph (ds : List Decl) (g : Graph) : Type 0 where
  pub graph : IsGraph ds g
  pub start_is : state_number ds (codes "start") ≡ Some g.start

-- The order of the program's headers; or it has none, as C10 says; or memory ran out.
abbrev pub AnswersProgram : List Decl → Result (List ℕ) OrderFault → Type 0
AnswersProgram ds (Ok order) = Order ds order
AnswersProgram ds (Err Memory) = Unit {0}
AnswersProgram ds (Err Cycle) = HasNoOrder ds
