use Rattle.std.proofs.Common.{sym}
use Rattle.p4x_cmd.proofs.Delivering.{delivers_own}
use Rattle.p4x_cmd.proofs.Named.{apart_of}
use Rattle.p4x_cmd.proofs.capture.run_capture.Goals as goal

pub invariant_of-files : goal.invariant_of-files
invariant_of-files g c =
    let apart = apart_of c.args.names.now in
    record { sent_apart = λ is. apart.2.0.1.1.0 (sym is); report_apart = λ is. apart.2.2.0.1.1.0 (sym is); apart = apart.2.1.0 }

pub returns-clause-gives : goal.returns-clause-gives
returns-clause-gives g c = λ file told.
    delivers_own c.new-runner.result.program.now c.args.program.now c.args.names.now.passes c.args.names.now.bound c.new-runner.ensures.program c.args.ports.now file _ _ _ _ _ (c.run_command.ensures.gives file told)
