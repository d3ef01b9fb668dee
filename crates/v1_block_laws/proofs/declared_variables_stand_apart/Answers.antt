use Rattle.v1_block_laws.proofs.Apart.{body_declares}
use Rattle.v1_block_laws.proofs.declared_variables_stand_apart.Goals as goal

pub returns : goal.returns
returns c = body_declares
