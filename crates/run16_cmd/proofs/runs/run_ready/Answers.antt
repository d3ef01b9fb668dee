use Rattle.std.proofs.Common.{refl, sym}
use Rattle.run16_cmd.specs.Run16.{setting_for}
use Rattle.run16_cmd.proofs.Named.{apart_of}
use Rattle.run16_cmd.proofs.Running.{delivers_behind}
use Rattle.run16_cmd.proofs.runs.run_ready.Goals as goal

pub invariant_of-files : goal.invariant_of-files
invariant_of-files g c =
    let apart = apart_of c.args.names.now in
    record { sent_apart = λ is. apart.0.1.1.0 (sym is); report_apart = λ is. apart.2.0.1.1.0 (sym is); apart = apart.1.0 }

pub returns-clause-gives : goal.returns-clause-gives
returns-clause-gives g c = λ file told.
    let b = c.args.beginning.now in
    let n = c.args.names.now in
    delivers_behind (setting_for b.program b.entries) n.passes _ _ _ _ _ _ _ _ b.ports _ _ n.bound c.requires.begins
    refl refl refl refl c.requires.bound c.requires.runs c.as_slice.ensures
    file _ _ _ _ _ (c.run_command.ensures.gives file told)
