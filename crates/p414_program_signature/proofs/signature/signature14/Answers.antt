use Rattle.p414_program_signature.proofs.Acyclic.{acyclic_names}
use Rattle.p414_program_signature.proofs.signature.signature14.Goals as goal

pub signature_of-requires : goal.signature_of-requires
signature_of-requires c =
    acyclic_names c.args.program.now c.syntax.result.now c.as_slice.result.now c.in_ok-found.found c.in-Some.names
    c.syntax.ensures.accepted c.syntax.ensures.is c.as_slice.ensures c.in-Some.is c.in_ok-found.ensures
