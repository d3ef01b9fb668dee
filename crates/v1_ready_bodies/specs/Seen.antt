-- The test, or the statement, at a place, where there is one; and where statements stand.
use Rattle.std.specs.Prelude.{◌≡◌, ℕ, ◌<◌, length, Option, option_map, IfSome}
use Rattle.p416_syntax.specs.Declarations.{layouts_of}
use Rattle.v1_ready_blocks.specs.Tests.{Test}
use Rattle.v1_ready_blocks.specs.Statements.{Statement}
use Rattle.v1_ready_blocks.specs.Nodes.{test_at, statement_at}
use Rattle.v1_ready_nodes.specs.Held.{Held, trees_in}
use Rattle.v1_ready_bodies.specs.declared.standing.Standing.{Standing}

abbrev pub seen_test : Held → Option ℕ → Option Test
seen_test h place = option_map (test_at (trees_in h)) place

abbrev pub seen_statement : Held → Option ℕ → Option Statement
seen_statement h place = option_map (statement_at (trees_in h)) place

abbrev pub IsNodeIn : Held → Option ℕ → Type 0
IsNodeIn h place = IfSome place (λ i. i < length (trees_in h))

-- the table of types is that of the declarations
abbrev pub IsStanding : Standing → Type 0
IsStanding p = p.types.now ≡ layouts_of p.scope.top.now

-- declarations and types stay
pub record Stays (old new : Standing) : Type 0 where
  pub top : new.scope.top ≡ old.scope.top
  pub types : new.types ≡ old.types
