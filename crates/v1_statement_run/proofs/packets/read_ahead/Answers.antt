use Rattle.std.proofs.Common.{◌≡◌, ◌+◌, ◌-◌, drop, refl, arith}
use Rattle.p4x_bits.specs.BitLists.{octet_bits}
use Rattle.v1_statement_run.proofs.Windows.{holds_rest, holds_none}
use Rattle.v1_statement_run.proofs.packets.read_ahead.Goals as goal

pub returns-then-width-window-clause-holds : goal.returns-then-width-window-clause-holds
returns-then-width-window-clause-holds c =
    let held = c.look_ahead.new.window.held in
    let parts : held ≡ c.args.width + (held - c.args.width) = omega (arith, c.if-width-window.true) in
    holds_rest c.look_ahead.new.window (record { word = c.look_ahead.new.window.word; held = held - c.args.width }) (octet_bits c.args.octets.now) c.args.at c.args.width c.look_ahead.ensures.holds refl parts

pub returns-clause-holds : goal.returns-clause-holds
returns-clause-holds c = holds_none (record { word = c.if-width-lt57.window.word; held = 0 }) (drop (c.args.at + c.args.width) (octet_bits c.args.octets.now)) refl
