-- The items of a slice of octets are octets.
use Rattle.p4x_bits.proofs.BitLists.{octets_fit}
use Rattle.calc_core.proofs.crcs.divide_octets.Goals as goal

pub returns-clause-octets : goal.returns-clause-octets
returns-clause-octets c = octets_fit c.args.octets.now c.type_inv.octets
