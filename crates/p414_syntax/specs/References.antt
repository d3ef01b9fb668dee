-- What a reference refers to.
use Rattle.std.specs.Borrow.{Bor}

-- the value that lies behind a reference
abbrev pub referred : {A : Type 0} → Bor A → A
referred reference = reference.now
