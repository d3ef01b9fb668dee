use Rattle.std.proofs.Common.{drop}
use Rattle.lower_expressions.specs.Table.{words_in}
use Rattle.lower_parser.specs.Has.{PartsHave}
use Rattle.lower_parser.proofs.fits.parts_have.Given as goal

-- where those that are left have it, all have
abbrev pub invariant-loop-part : goal.invariant-loop-part
invariant-loop-part l = PartsHave (words_in l.table) (drop l.part-index l.parts) → PartsHave (words_in l.table) l.parts
