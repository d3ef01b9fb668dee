use Rattle.std.proofs.Common.{ap, sym, ◌∙◌}
use Rattle.p414_sem.specs.Passes.{Preserved, none_preserved}
use Rattle.p414_pipe_run.specs.Prepared.{Running}
use Rattle.p414_pipe_run.proofs.passes.Passes14Passes.nothing.Goals as goal

pub returns-clause-gives : goal.returns-clause-gives
returns-clause-gives c =
    ap (λ (k : Preserved). (k, c.args.self.now.between)) (sym (c.in_ok-kept.ensures.is ∙ ap (λ (r : Running). none_preserved r.prepared.loaded.decls) c.self.view_is))
