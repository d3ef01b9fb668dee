use Rattle.p414_state.proofs.Programs.{new_of_layout}
use Rattle.p414_state.proofs.state.State14.new.Goals as goal

pub returns : goal.returns
returns c =
    new_of_layout c.args.program.now.decls c.in_ok-layout.layout c.args.octets.now c.as_slice.result.now c.args.port c.args.kind c.of_layout.result
    c.of_layout.ensures c.in_ok-layout.ensures c.as_slice.ensures
