use Rattle.std.proofs.Common.{arith}
use Rattle.match_core.proofs.Coded.{own_bits}
use Rattle.match_core.proofs.plain.prefix_bits.Goals as goal

pub returns : goal.returns
returns c =
    let most = (own_bits c.args.specs.now c.args.ones.now c.requires.specs.one_lpm c.requires.specs.widths c.requires.fits).1 in
    omega (arith, most, c.prefix_rank.ensures)
