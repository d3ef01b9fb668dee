use Rattle.std.proofs.Common.{sym, ◌∙◌, ap}
use Rattle.command_words.specs.Views.{run14_files_of}
use Rattle.p414_pipe_run.specs.Prepared.{Running, setting_of, comes_to}
use Rattle.p414_ready_tables.specs.Loaded.{Loaded, setting}
use Rattle.match_core.specs.Stores.{first_store}
use Rattle.match_core.specs.declared.signatures.Signature.{Signature}
use Rattle.run14_cmd.specs.Run14.{setting_for}
use Rattle.run14_cmd.proofs.Named.{apart_of}
use Rattle.run14_cmd.proofs.Running.{delivers_so}
use Rattle.run14_cmd.proofs.runs.run_ready.Goals as goal

pub invariant_of-files : goal.invariant_of-files
invariant_of-files g c =
    let apart = apart_of c.args.names.now in
    record { sent_apart = λ is. apart.0.1.1.0 (sym is); report_apart = λ is. apart.2.0.1.1.0 (sym is); apart = apart.1.0 }

pub returns-clause-gives : goal.returns-clause-gives
returns-clause-gives g c = λ file told.
    let b = c.args.beginning.now in
    let n = c.args.names.now in
    let p = c.args.ready.program in
    let made = c.new-runner.ensures.passes ∙ c.new-passes.ensures in
    let runner = c.new-runner.result in
    delivers_so c.packed_runs_as_the_program.ensures.packet (setting_of runner.passes.prepared) (setting_for (run14_files_of n) b.program b.entries (comes_to p)) runner.signature.now runner.sessions.now runner.bound n.passes
    c.as_slice-2.result.now b.ports runner.passes.between.store n.bound c.new-runner.ensures.bound c.as_slice-2.ensures
    (ap (λ (x : Running). setting_of x.prepared) made ∙ ap (λ (l : Loaded). setting l (comes_to p)) c.requires.loaded)
    (c.new-runner.ensures.signature ∙ c.requires.signature) (c.new-runner.ensures.sessions ∙ c.as_slice.ensures)
    (ap (λ (x : Running). x.between.store) made ∙ c.requires.store ∙ ap (λ (x : Signature). first_store x b.entries) c.requires.signature)
    file _ _ _ _ _ (c.run_command.ensures.gives file told)
