use Rattle.std.proofs.Common.{ℕ, ◌+◌, ◌%◌, ◌^◌, sym, ap}
use Rattle.p4x_cmd.proofs.Running.{work_is, outs_are}
use Rattle.p4x_cmd.proofs.plain.PlainRunner.one.Goals as goal

pub returns-clause-work : goal.returns-clause-work
returns-clause-work c =
    let runner = c.args.self.now in
    ap (λ (n : ℕ). (runner.work + n) % 2 ^ 64) (sym (work_is runner.program.now runner.bits c.args.arrival.now runner.sized runner.bits_are c.requires _ c.pass-port.ensures.work))

pub returns-clause-sent : goal.returns-clause-sent
returns-clause-sent c =
    let runner = c.args.self.now in
    let port = c.pass-port.result.0 in
    outs_are runner.program.now runner.bits c.args.arrival.now runner.sized runner.bits_are c.requires port _ c.pass-port.ensures.end
    c.in_ok-leave.ensures.sent
