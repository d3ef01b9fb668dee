use Rattle.std.proofs.Common.{ℕ, List, sym, ap, subst, ◌∙◌}
use Rattle.p414_layout.specs.declared.shape.Shape.{Shape}
use Rattle.p414_layout.specs.Shapes.{layout_of}
use Rattle.p414_passes.specs.Kept.{FitsKept}
use Rattle.p414_sem.specs.Passes.{with_preserved}
use Rattle.p414_sem.specs.State.{new_state}
use Rattle.p414_pipe_run.proofs.Steps.{whole_there}
use Rattle.p414_pipe_run.proofs.ready.ReadyProgram14.begin_in.Goals as goal

pub begin_again-requires-clause-whole : goal.begin_again-requires-clause-whole
begin_again-requires-clause-whole c =
    whole_there (record { loaded = c.self.inside.pipelines; order = c.self.inside.order }) c.args.self.now c.self.inside.parser c.self.inside.layout c.self.inside.lists c.self.inside.fields c.self.inside.calculations c.self.view_is c.self.invariant
    c.args.spare c.requires.spare

pub begin_again-requires-clause-kept : goal.begin_again-requires-clause-kept
begin_again-requires-clause-kept c =
    subst (λ (l : List Shape). FitsKept l c.args.item.now.kept) (sym c.requires.spare) c.requires.kept

pub returns : goal.returns
returns c =
    c.in_ok-begin_again.ensures c.args.self.now.loaded.decls c.requires.spare
    ∙ ap (λ (o : List ℕ). record { layout = layout_of c.args.self.now.loaded.decls; state = with_preserved c.args.self.now.loaded.decls c.args.item.now.kept (new_state c.args.self.now.loaded.decls o c.args.item.now.port c.args.item.now.instance) }) c.as_slice.ensures
