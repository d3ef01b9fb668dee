use Rattle.std.proofs.Common.{◌≡◌, ℕ, ◌-◌, ◌*◌, ◌/◌, ◌<◌, ◌≤◌, Bool, List, ◌++◌, length, sum, take, drop, ap, ◌∙◌, arith, take_all, length-drop}
use Rattle.state_store.specs.Ports.{drop_port}
use Rattle.p4x_bits.specs.BitLists.{octet_bits}
use Rattle.p4x_bits.proofs.BitLists.{length-octet_bits}
use Rattle.p4x_cmd.specs.Headers.{numbers_in, bits_in}
use Rattle.command_examples.proofs.Steps.{leaving_is}
use Rattle.command_examples.proofs.plain.pass14.Goals as goal

pub header_again-requires-clause-fits : goal.header_again-requires-clause-fits
header_again-requires-clause-fits c =
    let pushed : c.push_octets.new.self ≡ octet_bits c.args.octets.now = c.in_ok-push_octets.ensures.ok ∙ ap (λ (l : List Bool). l ++ octet_bits c.args.octets.now) c.new-packet.ensures in
    omega (arith, ap (λ (l : List Bool). length l) pushed, length-octet_bits c.args.octets.now)

pub returns : goal.returns
returns c =
    let octets = c.args.octets.now in
    let widths = c.args.widths.now in
    let pushed : c.push_octets.new.self ≡ octet_bits octets = c.in_ok-push_octets.ensures.ok ∙ ap (λ (l : List Bool). l ++ octet_bits octets) c.new-packet.ensures in
    let bits : c.header_bits-bits.result ≡ sum widths = c.header_bits-bits.ensures in
    let whole : sum widths ≤ 8 * length octets = omega arith in
    let small : c.args.port < drop_port = omega arith in
    let size = c.header_bits-bits.result / 8 in
    let rest : take (length octets - size) (drop size octets) ≡ drop size octets = take_all (length octets - size) (drop size octets) (omega (arith, length-drop size octets)) in
    leaving_is widths octets c.as_octets.result.now c.extend_from_slice.new.self _ c.args.port c.requires.widths whole small
    (c.in_ok-header.ensures ∙ ap (λ (l : List Bool). bits_in widths (numbers_in widths l)) pushed)
    c.copied.ensures.octets
    c.as_octets.ensures.bits
    (c.in_ok-extend_from_slice.ensures.ok ∙ ap (λ (l : List ℕ). c.in_ok-leaving.leaving ++ l) rest ∙ ap (λ (l : List ℕ). l ++ drop size octets) c.in_ok-leaving.ensures.same ∙ ap (λ (n : ℕ). c.as_octets.result.now ++ drop (n / 8) octets) bits)
