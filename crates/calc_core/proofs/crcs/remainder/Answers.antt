-- The octets of the list, and its rest filled with zeros, are divided away.
use Rattle.std.proofs.Common.{◌≡◌, ℕ, ◌-◌, ◌*◌, ◌/◌, ◌%◌, ◌^◌, ◌<◌, length, take, drop, fold, sym, ap, ◌∙◌, subst, arith}
use Rattle.p4x_bits.specs.BitLists.{num}
use Rattle.p4x_bits.proofs.BitLists.{num_of_take_below}
use Rattle.calc_core.specs.internal.Tables.{divided_octet}
use Rattle.calc_core.proofs.Division.{number}
use Rattle.calc_core.proofs.Ends.{tail_is, filled_is, filled_below, crc_whole, crc_filled}
use Rattle.calc_core.proofs.crcs.remainder.Goals as goal

pub overflow_cast-last : goal.overflow_cast-last
overflow_cast-last c =
    let rest = c.len.result % 8 in
    let field = c.read_field-last.result in
    let P : ℕ → Type 0 = λ n. n < 2 ^ rest in
    let small : field < 2 ^ rest = subst P (sym c.read_field-last.ensures) (num_of_take_below rest (drop (c.len-2.result - c.from.result) c.args.list.now)) in
    let is : field * 2 ^ (8 - rest) % 340282366920938463463374607431768211456 ≡ field * 2 ^ (8 - rest) = filled_is 8 rest field small (omega arith) (omega arith) in
    rw is (omega (arith, filled_below 8 rest field small (omega arith)))

pub returns : goal.returns
returns c divisor start pos long is test =
    let list = c.args.list.now in
    let octets = c.as_octets.result.now in
    let rest = c.len.result % 8 in
    let field = c.read_field-last.result in
    let at = c.len-2.result - c.from.result in
    let whole = length list / 8 * 8 in
    let P : ℕ → Type 0 = λ n. n < 2 ^ rest in
    let small : field < 2 ^ rest = subst P (sym c.read_field-last.ensures) (num_of_take_below rest (drop at list)) in
    let filled : field * 2 ^ (8 - rest) % 340282366920938463463374607431768211456 ≡ field * 2 ^ (8 - rest) = filled_is 8 rest field small (omega arith) (omega arith) in
    let last = field * 2 ^ (8 - rest) % 340282366920938463463374607431768211456 in
    let behind : take rest (drop at list) ≡ drop whole list = tail_is list at rest whole (omega (arith, c.len.ensures, c.len-2.ensures, c.from.ensures)) (omega (arith, c.len.ensures, c.len-2.ensures, c.from.ensures)) in
    let value : last ≡ num (drop whole list) * 2 ^ (8 - rest) = filled ∙ ap (λ (n : ℕ). n * 2 ^ (8 - rest)) (c.read_field-last.ensures ∙ ap num behind) in
    let below : last < 256 = rw filled (filled_below 8 rest field small (omega arith)) in
    let some : 0 < rest = omega arith in
    let register : c.divide_octets-register.result ≡ fold (divided_octet (number divisor)) (number start) octets =
    c.divide_octets-register.ensures.remainder (number divisor) test ∙ ap (λ (n : ℕ). fold (divided_octet (number divisor)) n octets) (sym is) in
    c.divide_octet.ensures (number divisor) test
    ∙ crc_filled divisor start list octets c.divide_octets-register.result rest last long pos c.divide_octets-register.ensures.octets c.as_octets.ensures.count c.as_octets.ensures.bits (ap (λ (n : ℕ). n % 8) (sym c.len.ensures)) some register value below

pub returns-then-rest-eq0 : goal.returns-then-rest-eq0
returns-then-rest-eq0 c divisor start pos long is test =
    let list = c.args.list.now in
    let octets = c.as_octets.result.now in
    let register : c.divide_octets-register.result ≡ fold (divided_octet (number divisor)) (number start) octets =
    c.divide_octets-register.ensures.remainder (number divisor) test ∙ ap (λ (n : ℕ). fold (divided_octet (number divisor)) n octets) (sym is) in
    crc_whole divisor start list octets c.divide_octets-register.result long pos c.divide_octets-register.ensures.octets c.as_octets.ensures.count c.as_octets.ensures.bits (omega (arith, c.len.ensures)) register
