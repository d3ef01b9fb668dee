use Rattle.std.proofs.Common.{◌≤◌, ◌-◌, ◌/◌, ◌%◌, length, refl, arith}
use Rattle.v1_statement_run.proofs.Windows.{holds_read}
use Rattle.v1_statement_run.proofs.packets.look_ahead.Goals as goal

pub returns-clause-holds : goal.returns-clause-holds
returns-clause-holds c =
    let long : 8 ≤ length c.args.octets.now - c.args.at / 8 = omega (arith, c.if-octets-at-lt8.false) in
    holds_read (record { word = c.read_octet_field.result; held = 64 - c.args.at % 8 }) c.args.octets.now c.args.at long refl c.read_octet_field.ensures
