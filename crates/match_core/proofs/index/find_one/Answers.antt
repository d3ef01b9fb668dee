use Rattle.std.proofs.Common.{arith}
use Rattle.match_core.proofs.Coded.{number_best}
use Rattle.match_core.proofs.index.find_one.Goals as goal

pub returns-in-len1 : goal.returns-in-len1
returns-in-len1 c =
    number_best c.args.specs.now c.args.entries.now c.args.levels.now c.args.key.now c.find_number.result _ (omega arith)
    c.requires.fits c.requires.index c.find_number.ensures
