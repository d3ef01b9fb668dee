use Rattle.v1_deed_laws.proofs.Externs.{write_shows}
use Rattle.v1_deed_laws.proofs.registers_are_written.Goals as goal

pub returns : goal.returns
returns c = write_shows
