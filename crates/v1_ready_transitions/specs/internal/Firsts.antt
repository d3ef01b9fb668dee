-- Keys in front of others.
use Rattle.std.specs.Prelude.{List, ◌++◌, Option, Some, None}
use Rattle.v1_core.specs.Ready.{Ready}

-- these keys, and those behind them, where all of these are ready
abbrev pub in_front : List Ready → Option (List Ready) → Option (List Ready)
in_front keys None = None
in_front keys (Some rest) = Some (keys ++ rest)
