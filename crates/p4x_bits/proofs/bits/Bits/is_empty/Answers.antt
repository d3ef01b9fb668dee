-- A list of no bits is the empty one, and it alone.
use Rattle.std.proofs.Common.{◌≡◌, length, ap, sym, ◌∙◌, arith, length-take-le, eq-eqb, eqb-true}
use Rattle.std.proofs.lemmas.List.{nil_from_length}
use Rattle.p4x_bits.specs.BitLists.{octet_bits}
use Rattle.p4x_bits.proofs.BitLists.{length-octet_bits}
use Rattle.p4x_bits.proofs.bits.Bits.is_empty.Goals as goal

pub returns : goal.returns
returns c =
    let octets = c.self.inside.octets.items in
    let len = c.self.inside.len in
    let long : length c.args.self.now ≡ len = ap length (sym c.self.view_is) ∙ length-take-le len (octet_bits octets) (omega (arith, length-octet_bits octets)) in
    (λ h. nil_from_length c.args.self.now (long ∙ eqb-true len 0 h), λ e. eq-eqb len 0 (sym long ∙ ap length e))
