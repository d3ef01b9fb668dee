use Rattle.std.proofs.Common.{ap, ◌∙◌}
use Rattle.p414_sem.specs.Parsing.{parsed}
use Rattle.p414_sem.specs.Passes.{begins, held_of}
use Rattle.p414_pipe_run.specs.Held.{packed}
use Rattle.p414_pipe_run.specs.Prepared.{Running}
use Rattle.p414_pipe_run.proofs.passes.Passes14.hold.Goals as goal

pub returns-clause-is : goal.returns-clause-is
returns-clause-is c =
    c.in_ok-held.ensures
    ∙ ap (λ (r : Running). packed r.prepared.loaded.decls (held_of (parsed r.prepared.loaded.decls (begins r.prepared.loaded.decls c.args.item.now)))) c.self.view_is
