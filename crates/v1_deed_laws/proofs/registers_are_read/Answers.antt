use Rattle.v1_deed_laws.proofs.Externs.{read_shows}
use Rattle.v1_deed_laws.proofs.registers_are_read.Goals as goal

pub returns : goal.returns
returns c = read_shows
