use Rattle.std.proofs.Common.{drop}
use Rattle.lower_expressions.specs.Table.{words_in}
use Rattle.lower_parser.specs.Has.{StatesHave}
use Rattle.lower_parser.proofs.fits.states_have.Given as goal

-- where those that are left have it, all have
abbrev pub invariant-loop-row : goal.invariant-loop-row
invariant-loop-row l = StatesHave (words_in l.table) (drop l.row-index l.rows) → StatesHave (words_in l.table) l.rows
