-- The whole octets are the first bits.
use Rattle.std.proofs.Common.{◌≡◌, ℕ, ◌*◌, ◌/◌, ◌≤◌, length, take, ap, sym, ◌∙◌, arith, length-take-le, take-take}
use Rattle.p4x_bits.specs.BitLists.{octet_bits}
use Rattle.p4x_bits.proofs.BitLists.{length-octet_bits, take-octet_bits}
use Rattle.p4x_bits.proofs.bits.Bits.as_octets.Goals as goal

pub returns-clause-count : goal.returns-clause-count
returns-clause-count c =
    let octets = c.self.inside.octets.items in
    let len = c.self.inside.len in
    let long : length c.args.self.now ≡ len = ap length (sym c.self.view_is) ∙ length-take-le len (octet_bits octets) (omega (arith, length-octet_bits octets)) in
    let room : len / 8 ≤ length c.deref.result.now = omega (arith, ap length c.deref.ensures.value) in
    length-take-le (len / 8) c.deref.result.now room ∙ ap (λ (n : ℕ). n / 8) (sym long)

pub returns-clause-bits : goal.returns-clause-bits
returns-clause-bits c =
    let octets = c.self.inside.octets.items in
    let len = c.self.inside.len in
    let long : length c.args.self.now ≡ len = ap length (sym c.self.view_is) ∙ length-take-le len (octet_bits octets) (omega (arith, length-octet_bits octets)) in
    ap (λ xs. octet_bits (take (len / 8) xs)) c.deref.ensures.value
    ∙ sym (take-octet_bits (len / 8) octets)
    ∙ sym (take-take (8 * (len / 8)) len (octet_bits octets) (omega arith))
    ∙ ap (take (8 * (len / 8))) c.self.view_is
    ∙ ap (λ (n : ℕ). take (8 * (n / 8)) c.args.self.now) (sym long)
