use Rattle.std.proofs.Common.{ℕ, List, ap, ◌∙◌}
use Rattle.p414_layout.specs.Shapes.{layout_of}
use Rattle.p414_sem.specs.Passes.{with_preserved}
use Rattle.p414_sem.specs.State.{new_state}
use Rattle.p414_pipe_run.proofs.Steps.{laid_now}
use Rattle.p414_pipe_run.proofs.ready.ReadyProgram14.begin_anew.Goals as goal

pub returns : goal.returns
returns c =
    c.in_ok-state.ensures c.args.self.now.loaded.decls (laid_now (record { loaded = c.self.inside.pipelines; order = c.self.inside.order }) c.args.self.now c.self.inside.parser c.self.inside.layout c.self.inside.lists c.self.inside.fields c.self.inside.calculations c.self.view_is c.self.invariant)
    ∙ ap (λ (o : List ℕ). record { layout = layout_of c.args.self.now.loaded.decls; state = with_preserved c.args.self.now.loaded.decls c.args.item.now.kept (new_state c.args.self.now.loaded.decls o c.args.item.now.port c.args.item.now.instance) }) c.as_slice.ensures
