use Rattle.entries_file.specs.Numbers.{number_of, numeral_of, quad_of, pairs_of}
use Rattle.entries_file.proofs.Digits.{or_none}
use Rattle.entries_file.proofs.numerals.read_number.Goals as goal

pub returns-in-None-quad : goal.returns-in-None-quad
unfolding number_of
returns-in-None-quad c =
    or_none (numeral_of c.args.word.now) (quad_of c.args.word.now) (pairs_of c.args.word.now) c.pairs.result c.in-None.ensures c.in-None-quad.ensures c.pairs.ensures
