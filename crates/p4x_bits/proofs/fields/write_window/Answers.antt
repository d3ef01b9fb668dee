-- A wide number is written as two, one behind the other.
use Rattle.std.proofs.Common.{rules, ◌≡◌, ◌+◌, ◌-◌, ◌^◌, ◌<◌, ◌≤◌, arith, pow_mono}
use Rattle.p4x_bits.specs.BitLists.{octet_bits}
use Rattle.std.proofs.lemmas.Nat.{shr_below}
use Rattle.p4x_bits.proofs.BitLists.{length-octet_bits}
use Rattle.p4x_bits.proofs.Words.{wide_written}
use Rattle.p4x_bits.proofs.fields.write_window.Goals as goal

pub overflow_cast-value : goal.overflow_cast-value
overflow_cast-value c =
    let short : c.args.width ≤ 64 = omega (arith, c.if-lies_in_word.ensures.one (search rules)) in
    let most : 2 ^ c.args.width ≤ 2 ^ 64 = pow_mono short in
    omega (arith, most, c.requires.value)

pub write_in_word-requires-in-Some-clause-value : goal.write_in_word-requires-in-Some-clause-value
write_in_word-requires-in-Some-clause-value c =
    let some : 64 < c.args.width = c.in-Some.ensures.0 in
    let all : c.args.width - 64 + 64 ≡ c.args.width = omega arith in
    let below : c.args.value < 2 ^ (c.args.width - 64 + 64) = rw all c.requires.value in
    shr_below c.args.value (c.args.width - 64) 64 below

pub returns-in-Some : goal.returns-in-Some
returns-in-Some c =
    let octets = c.args.octets.now in
    wide_written c.args.at c.args.width c.in-Some.behind c.args.value (octet_bits octets) (octet_bits c.write_in_word-in-Some.new.octets) (octet_bits c.write_in_word-in-Some-2.new.octets) c.in-Some.ensures.0 c.in-Some.ensures.3 (omega (arith, length-octet_bits octets)) c.write_in_word-in-Some.ensures c.write_in_word-in-Some-2.ensures
