-- What the parameters of an action start with, and which go back, at a place, where there is one.
use Rattle.std.specs.Prelude.{ℕ, ◌<◌, List, length, Option, option_map, IfSome}
use Rattle.v1_ready_blocks.specs.Arguments.{Incoming, Outgoing}
use Rattle.v1_ready_blocks.specs.Nodes.{incoming_at, outgoing_at}
use Rattle.v1_ready_nodes.specs.Held.{Held, trees_in}

abbrev pub seen_incoming : Held → Option ℕ → Option (List Incoming)
seen_incoming h place = option_map (incoming_at (trees_in h)) place

abbrev pub seen_outgoing : Held → Option ℕ → Option (List Outgoing)
seen_outgoing h place = option_map (outgoing_at (trees_in h)) place

abbrev pub ArePassedIn : Held → Option ℕ → Type 0
ArePassedIn h place = IfSome place (λ i. i < length (trees_in h))
