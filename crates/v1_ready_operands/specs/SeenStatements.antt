-- The statement at a place, where there is one.
use Rattle.std.specs.Prelude.{ℕ, ◌<◌, length, Option, option_map, IfSome}
use Rattle.v1_ready_blocks.specs.Statements.{Statement}
use Rattle.v1_ready_blocks.specs.Nodes.{statement_at}
use Rattle.v1_ready_nodes.specs.Held.{Held, trees_in}

abbrev pub seen_statement : Held → Option ℕ → Option Statement
seen_statement h place = option_map (statement_at (trees_in h)) place

abbrev pub IsStatementIn : Held → Option ℕ → Type 0
IsStatementIn h place = IfSome place (λ i. i < length (trees_in h))
