-- Bits that were read ahead.
use Rattle.std.specs.Prelude.{◌≡◌, ◌≤◌, Bool, List, length, take}
use Rattle.p4x_bits.specs.BitLists.{bits}
use Rattle.v1_statement_run.specs.declared.packets.Window.{Window}

-- the last bits of its word, as many as it holds, are those in front of these
pub record Holds (w : Window) (rest : List Bool) : Type 0 where
  pub within : w.held ≤ length rest
  pub few : w.held ≤ 64
  pub same : bits w.held w.word ≡ take w.held rest
