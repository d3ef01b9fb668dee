use Rattle.p414_control_run.specs.Steps.{GoesOn}
use Rattle.p414_control_run.proofs.pipelines.ReadyPipelines.run_all.Given as goal

abbrev pub invariant-loop : goal.invariant-loop
invariant-loop l = GoesOn l.self l.fn.stack.left l.stack.left l.fn.state l.state l.fn.store l.store
