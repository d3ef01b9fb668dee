use Rattle.std.proofs.Common.{◌≡◌, rules, false}
use Rattle.p414_sem.specs.State.{elements_at}
use Rattle.p414_sem.specs.Effects.{pushed}
use Rattle.p414_layout.specs.Shapes.{shape_at}
use Rattle.runs_examples.proofs.stacks.move_elements.Goals as goal

pub put_stack-requires : goal.put_stack-requires
put_stack-requires c =
    let shape = shape_at c.args.state.now.layout 1 in
    let headers = elements_at c.args.state.now.state 1 in
    let header : (shape_at c.args.state.now.layout 1).metadata ≡ false = search rules in
    (c.pop.ensures shape (pushed c.args.up headers) header (c.push.ensures shape headers header c.in_ok-stack.ensures)).packed
