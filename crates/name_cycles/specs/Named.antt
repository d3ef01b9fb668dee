-- Nodes with names, each of which leads to others by their names.
use Rattle.std.specs.Prelude.{ℕ, List, map, filter_map}
use Rattle.name_numbers.specs.Names.{Name, find_name}

-- a node by its name, and the names that it leads to, in order
pub record NamedNode : Type 0 where
  pub called : Name
  pub leads_to : List Name

abbrev pub called_of : NamedNode → Name
called_of n = n.called

-- The nodes that a node leads to, by their numbers. A name that no node has leads nowhere, and one that several have leads to
-- the first of them.
abbrev pub next_of : List Name → NamedNode → List ℕ
next_of names n = filter_map (find_name names) n.leads_to

abbrev pub named_graph : List NamedNode → List (List ℕ)
named_graph ns = map (next_of (map called_of ns)) ns
