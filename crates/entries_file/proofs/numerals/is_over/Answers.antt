use Rattle.entries_file.proofs.Digits.{wide_over}
use Rattle.entries_file.proofs.numerals.is_over.Goals as goal

pub returns-in-Large-Large : goal.returns-in-Large-Large
returns-in-Large-Large c =
    wide_over c.args.low.now c.args.high.now c.args.first c.args.second c.is_numeral_over.result c.in-Large-Large.is-0 c.in-Large-Large.is-1 c.is_numeral_over.ensures
