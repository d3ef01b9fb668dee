use Rattle.v1model_program.proofs.Making.{are_ready, laid_so}
use Rattle.v1model_program.proofs.program.ready_program16.Goals as goal

pub new-requires-clause-layout : goal.new-requires-clause-layout
new-requires-clause-layout c =
    laid_so c.args.program.now c.syntax-syntax.result.now c.in_ok-packets.packets c.args.layout.now c.requires.layout c.syntax-syntax.ensures.is c.in_ok-packets.ensures

pub new-requires-clause-blocks : goal.new-requires-clause-blocks
new-requires-clause-blocks c =
    are_ready c.args.program.now c.syntax-syntax.result.now c.in_ok-packets.packets c.args.signature.now c.args.entries.now c.args.layout.now c.in_ok-fill.fill
    c.in_ok-store.store c.shapes.result.now c.in_ok-made.made c.taken.result c.syntax-syntax.ensures.accepted c.syntax-syntax.ensures.is c.in_ok-packets.ensures
    c.requires.layout c.requires.signature c.requires.fits c.in_ok-fill.ensures c.in_ok-store.ensures.first c.shapes.ensures c.in_ok-made.ensures c.taken.ensures
