-- The words of the whole octets are added, and the rest filled with zeros.
use Rattle.std.proofs.Common.{◌≡◌, ℕ, ◌+◌, ◌-◌, ◌*◌, ◌/◌, ◌%◌, ◌^◌, ◌<◌, length, take, drop, get_or, bit_or, sym, ap, ◌∙◌, subst, arith}
use Rattle.p4x_bits.specs.BitLists.{num, octet_bits, IsOctets}
use Rattle.p4x_bits.proofs.BitLists.{num_of_take_below, octets_fit}
use Rattle.calc_core.proofs.Words.{sum_of, sums_on, csum_whole, csum_filled}
use Rattle.calc_core.proofs.Ends.{tail_is, filled_is, filled_below, pair_is}
use Rattle.calc_core.proofs.sums.csum16.Goals as goal
use Rattle.calc_core.proofs.sums.csum16.Goals.{then-rest-gt0, else-rest-gt0}

pub loop-i-preserved : goal.loop-i-preserved
loop-i-preserved c =
    let octets = c.as_octets-octets.result.now in
    let i = c.loop-i.i in
    let small : IsOctets octets = octets_fit octets c.type_inv.octets in
    let inside : 2 * i + 1 < length octets = omega arith in
    let word = bit_or (c.from.result * 256 % 65536) c.from-in-loop-i.result in
    let value : word ≡ get_or octets (2 * i) 0 * 256 + get_or octets (2 * i + 1) 0 =
    ap (λ (n : ℕ). bit_or (n * 256 % 65536) c.from-in-loop-i.result) c.from.ensures
    ∙ ap (bit_or (get_or octets (2 * i) 0 * 256 % 65536)) c.from-in-loop-i.ensures
    ∙ pair_is (get_or octets (2 * i) 0) (get_or octets (2 * i + 1) 0) (small (2 * i) 0 (omega arith)) (small (2 * i + 1) 0 inside) in
    c.add_word-sum.ensures ∙ sums_on octets i c.loop-i.sum word small inside c.loop-i.invariant value

pub overflow_cast-last : goal.overflow_cast-last
overflow_cast-last c =
    let rest = c.len.result % 16 in
    let field = c.read_field-last.result in
    let P : ℕ → Type 0 = λ n. n < 2 ^ rest in
    let small : field < 2 ^ rest = subst P (sym c.read_field-last.ensures) (num_of_take_below rest (drop (c.len-then-rest-gt0.result - c.from-then-rest-gt0.result) c.args.list.now)) in
    let is : field * 2 ^ (16 - rest) % 340282366920938463463374607431768211456 ≡ field * 2 ^ (16 - rest) = filled_is 16 rest field small (omega arith) (omega arith) in
    rw is (omega (arith, filled_below 16 rest field small (omega arith)))

pub returns : goal.returns
returns c =
    let list = c.args.list.now in
    let octets = c.as_octets-octets.result.now in
    let ends : c.loop-i.i ≡ length list / 16 = omega (arith, c.as_octets-octets.ensures.count) in
    let sum : c.loop-i.sum ≡ sum_of (length list / 16) (octet_bits octets) = c.loop-i.invariant ∙ ap (λ (k : ℕ). sum_of k (octet_bits octets)) ends in
    elim c.if-rest-gt0.branch [
      | then-rest-gt0 w ↦
          let rest = c.len.result % 16 in
          let field = w.read_field-last.result in
          let at = w.len-then-rest-gt0.result - w.from-then-rest-gt0.result in
          let whole = length list / 16 * 16 in
          let P : ℕ → Type 0 = λ n. n < 2 ^ rest in
          let small : field < 2 ^ rest = subst P (sym w.read_field-last.ensures) (num_of_take_below rest (drop at list)) in
          let filled : field * 2 ^ (16 - rest) % 340282366920938463463374607431768211456 ≡ field * 2 ^ (16 - rest) = filled_is 16 rest field small (omega arith) (omega arith) in
          let last = field * 2 ^ (16 - rest) % 340282366920938463463374607431768211456 in
          let behind : take rest (drop at list) ≡ drop whole list = tail_is list at rest whole (omega (arith, c.len.ensures, w.len-then-rest-gt0.ensures, w.from-then-rest-gt0.ensures)) (omega (arith, c.len.ensures, w.len-then-rest-gt0.ensures, w.from-then-rest-gt0.ensures)) in
          let value : last ≡ num (drop whole list) * 2 ^ (16 - rest) = filled ∙ ap (λ (n : ℕ). n * 2 ^ (16 - rest)) (w.read_field-last.ensures ∙ ap num behind) in
          let below : last < 65536 = rw filled (filled_below 16 rest field small (omega arith)) in
          ap (λ (n : ℕ). 65535 - n) (w.sum-is ∙ w.add_word-sum-then-rest-gt0.ensures)
          ∙ csum_filled list octets c.loop-i.sum rest last c.as_octets-octets.ensures.bits (ap (λ (n : ℕ). n % 16) (sym c.len.ensures)) w.if-rest-gt0.true sum value below
      | else-rest-gt0 w ↦ ap (λ (n : ℕ). 65535 - n) w.sum-is ∙ csum_whole list octets c.loop-i.sum c.as_octets-octets.ensures.bits (omega (arith, c.len.ensures, w.if-rest-gt0.false)) sum
    ]
