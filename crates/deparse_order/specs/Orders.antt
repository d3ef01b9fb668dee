-- The order in which headers leave, by the graph of the parser states (P4_14 1.0.5, "Deparsing"; that an order is the
-- least one by number is this project's own).
use Rattle.std.specs.Prelude.{ℕ, List, map, Result, Ok, Err}
use Rattle.least_order.specs.Labelled as labelled
use Rattle.least_order.specs.Orders.{HasNoOrder, IsLeastOrder}
use Rattle.parse_graph.specs.Graphs.{extracts_in, next_in}
use Rattle.parse_graph.specs.declared.nodes.Graph.{Graph}
use Rattle.parse_graph.specs.declared.nodes.StateNode.{StateNode}
use Rattle.deparse_order.specs.declared.fault.OrderFault.{OrderFault}
use Rattle.deparse_order.specs.declared.fault.OrderFault.TheVariants.{Memory, Cycle}

-- what each state leads to, and what it extracts
abbrev pub next_lists : List StateNode → List (List ℕ)
next_lists states = map next_in states

abbrev pub extract_lists : List StateNode → List (List ℕ)
extract_lists states = map extracts_in states

-- a state that the start reaches extracts the instance
abbrev pub IsExtracted : Graph → ℕ → Type 0
IsExtracted g x = labelled.IsFound (next_lists g.states) (extract_lists g.states) g.start x

-- x is before y: they differ, and a walk from the start extracts x and later y
abbrev pub IsBefore : Graph → ℕ → ℕ → Type 0
IsBefore g x y = labelled.IsBefore (next_lists g.states) (extract_lists g.states) g.start x y

-- The least order of the instances that are extracted, which inverts no pair; or there is none; or memory ran out.
abbrev pub IsAnswer : Graph → Result (List ℕ) OrderFault → Type 0
IsAnswer g (Ok order) = IsLeastOrder (IsExtracted g) (IsBefore g) order
IsAnswer g (Err Memory) = Unit {0}
IsAnswer g (Err Cycle) = HasNoOrder (IsExtracted g) (IsBefore g)
