use Rattle.v1_block_laws.proofs.Apart.{body_scope}
use Rattle.v1_block_laws.proofs.variables_apart_can_be_in_scope.Goals as goal

pub returns : goal.returns
returns c = body_scope
