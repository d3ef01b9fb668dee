use Rattle.v1_seats.proofs.Naming.{row_named}
use Rattle.v1_seats.proofs.rows.Rows.row.Goals as goal

pub returns : goal.returns
returns c = row_named c.args.self.now c.args.of.now c.in_ok-number.number c.in_ok-row.row.now c.in_ok-number.ensures c.in_ok-row.ensures
