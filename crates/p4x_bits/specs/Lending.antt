-- What becomes of a list whose items are lent for writing.
use Rattle.std.specs.Prelude.{List, ◌++◌, length, take, drop}
use Rattle.std.specs.Borrow.{Lends, Fml, RattleType, MutBor, Array}
use Rattle.p4x_bits.specs.contracts.rows.Rows.{the_row}

-- The list whose items were overwritten from the first one on. As many are written as were lent, so that it is what was
-- written.
abbrev pub overwritten : {X : Type 0} → List X → List X → List X
overwritten old written = take (length old) (written ++ drop (length written) old)

-- The list ends as its items overwritten by the last ones behind the loan.
abbrev pub LendsItems : (T : RattleType) → MutBor (List T.Denot) → MutBor (List T.Denot) → Fml
LendsItems T rows lent = Lends (the_row T) (Array T 0) rows lent (overwritten rows.now)
