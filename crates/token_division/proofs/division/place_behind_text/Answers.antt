use Rattle.std.proofs.Common.{[], refl}
use Rattle.token_division.proofs.division.place_behind_text.Goals as goal

pub returns : goal.returns
returns c = c.place_behind.ensures [] refl
