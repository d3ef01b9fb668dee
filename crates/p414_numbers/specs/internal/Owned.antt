-- Names as octets that are owned.
use Rattle.std.specs.Prelude.{ℕ}
use Rattle.std.specs.Global.{Vec}
use Rattle.p414_syntax.specs.Names.{Name}

-- the octets that are owned
abbrev pub octets_of : Vec ℕ → Name
octets_of owned = owned.items
