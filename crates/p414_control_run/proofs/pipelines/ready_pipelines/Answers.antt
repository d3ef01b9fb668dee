use Rattle.std.proofs.Common.{rules, ◌≡◌, List, sym, ap, ◌∙◌, subst}
use Rattle.p414_syntax.specs.declared.syntax.Decl.{Decl}
use Rattle.p414_ready_tables.specs.Loaded.{Loaded}
use Rattle.p414_control_run.specs.internal.Bodies.{AreBodies}
use Rattle.p414_control_run.proofs.pipelines.ready_pipelines.Goals as goal

pub invariant_of-result : goal.invariant_of-result
invariant_of-result c =
    let same : c.as_slice.result.now ≡ c.args.program.now.decls = search rules in
    subst (λ (ds : List Decl). AreBodies ds c.in_ok-bodies.bodies)
    (same ∙ ap (λ (v : Loaded). v.decls) (sym c.in_ok-tables.ensures)) c.in_ok-bodies.ensures
