-- The field lies within the first bits of the octets.
use Rattle.std.proofs.Common.{◌≡◌, length, take, drop, ap, sym, ◌∙◌, arith, length-take-le}
use Rattle.p4x_bits.specs.BitLists.{num, octet_bits}
use Rattle.p4x_bits.proofs.BitLists.{length-octet_bits}
use Rattle.p4x_bits.proofs.Splices.{window_within}
use Rattle.p4x_bits.proofs.bits.Bits.read_field.Goals as goal

pub returns : goal.returns
returns c =
    let octets = c.self.inside.octets.items in
    let len = c.self.inside.len in
    let long : length c.args.self.now ≡ len = ap length (sym c.self.view_is) ∙ length-take-le len (octet_bits octets) (omega (arith, length-octet_bits octets)) in
    c.read_octet_field.ensures
    ∙ ap (λ xs. num (take c.args.width (drop c.args.at (octet_bits xs)))) c.deref.ensures.value
    ∙ ap num (sym (window_within len c.args.at c.args.width (octet_bits octets) (omega arith)))
    ∙ ap (λ xs. num (take c.args.width (drop c.args.at xs))) c.self.view_is
