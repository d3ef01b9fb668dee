-- The arguments at a place, where there is one.
use Rattle.std.specs.Prelude.{ℕ, ◌<◌, List, length, Option, option_map, IfSome}
use Rattle.v1_ready_blocks.specs.Arguments.{Argument}
use Rattle.v1_ready_blocks.specs.Nodes.{arguments_at}
use Rattle.v1_ready_nodes.specs.Held.{Held, trees_in}

abbrev pub seen_arguments : Held → Option ℕ → Option (List Argument)
seen_arguments h place = option_map (arguments_at (trees_in h)) place

abbrev pub AreArgumentsIn : Held → Option ℕ → Type 0
AreArgumentsIn h place = IfSome place (λ i. i < length (trees_in h))
