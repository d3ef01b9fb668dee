use Rattle.std.proofs.Common.{◌≡◌, drop}
use Rattle.std.specs.Prelude.{fold}
use Rattle.p414_passes.specs.Kept.{FitsKept, keeping_row}
use Rattle.p414_passes.proofs.kept.Kept14.keep_rows.Given as goal

abbrev pub invariant-loop-row : goal.invariant-loop-row
invariant-loop-row l = record {
  kept : fold (keeping_row l.state.state) l.self (drop l.row-index l.rows) ≡ fold (keeping_row l.state.state) l.fn.self l.rows;
  fits : FitsKept l.state.layout l.fn.self → FitsKept l.state.layout l.self;
}
