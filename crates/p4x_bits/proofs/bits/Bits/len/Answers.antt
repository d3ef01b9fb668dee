-- There are as many octets as the bits need.
use Rattle.std.proofs.Common.{length, ap, sym, ◌∙◌, arith, length-take-le}
use Rattle.p4x_bits.specs.BitLists.{octet_bits}
use Rattle.p4x_bits.proofs.BitLists.{length-octet_bits}
use Rattle.p4x_bits.proofs.bits.Bits.len.Goals as goal

pub returns : goal.returns
returns c =
    let octets = c.self.inside.octets.items in
    sym (ap length (sym c.self.view_is) ∙ length-take-le c.self.inside.len (octet_bits octets) (omega (arith, length-octet_bits octets)))
