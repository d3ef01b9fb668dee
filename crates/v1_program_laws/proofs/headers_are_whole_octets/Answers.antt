use Rattle.v1_program_laws.proofs.Headers.{headers_are_whole}
use Rattle.v1_program_laws.proofs.headers_are_whole_octets.Goals as goal

pub returns : goal.returns
returns c = headers_are_whole
