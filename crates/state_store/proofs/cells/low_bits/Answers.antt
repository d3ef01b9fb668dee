use Rattle.std.proofs.Common.{arith, sym, ◌≤◌, ◌^◌}
use Rattle.std.proofs.Math.Nat.{mod-eq_of_lt, pow-le-pow_right}
use Rattle.state_store.proofs.cells.low_bits.Goals as goal

pub returns-else-width-lt128 : goal.returns-else-width-lt128
returns-else-width-lt128 c =
    let wide : 2 ^ 128 ≤ 2 ^ c.args.width = pow-le-pow_right (omega arith) c.if-width-lt128.false in
    sym (mod-eq_of_lt (omega (arith, wide)))
