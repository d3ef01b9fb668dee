use Rattle.lower_decls.proofs.Accepted.{names_are, once_named, ready_named, lowered_named}
use Rattle.lower_decls.proofs.program.lower_types.Goals as goal

pub lowered-requires-clause-once : goal.lowered-requires-clause-once
lowered-requires-clause-once c =
    once_named c.as_slice-decls.result.now c.in_ok-names.field-0 c.in-Some.names (cc c.in-Some.is) c.in_ok-names.ensures

pub lowered-requires-clause-ready : goal.lowered-requires-clause-ready
lowered-requires-clause-ready c =
    ready_named c.args.program.now.decls c.in-Some.names c.in_ok-lists.lists
    (names_are c.args.program.now c.syntax.result.now c.as_slice-decls.result.now c.in_ok-names.field-0 c.in-Some.names c.syntax.ensures.is c.as_slice-decls.ensures (cc c.in-Some.is) c.in_ok-names.ensures)
    c.in_ok-lists.ensures.ready

pub returns : goal.returns
returns c =
    lowered_named c.lowered.result c.args.program.now.decls c.in-Some.names
    (names_are c.args.program.now c.syntax.result.now c.as_slice-decls.result.now c.in_ok-names.field-0 c.in-Some.names c.syntax.ensures.is c.as_slice-decls.ensures (cc c.in-Some.is) c.in_ok-names.ensures)
    c.lowered.ensures
