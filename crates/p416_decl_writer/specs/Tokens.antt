-- Tokens that a text can have.
use Rattle.std.specs.Prelude.{Bool, List}
use Rattle.std.specs.List.{list_all}
use Rattle.p416_syntax.specs.Tokens.{Seen16, is_spelt_seen}

abbrev pub are_spelt : List Seen16 → Bool
are_spelt tokens = list_all is_spelt_seen tokens
