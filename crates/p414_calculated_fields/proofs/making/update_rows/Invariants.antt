use Rattle.std.proofs.Common.{◌≡◌, ◌++◌, map, drop}
use Rattle.std.specs.Prelude.{filter}
use Rattle.p414_syntax.specs.Lists.{is_update}
use Rattle.p414_calculated_fields.specs.Rows.{entry_row}
use Rattle.p414_calculated_fields.proofs.making.update_rows.Given as goal

abbrev pub invariant-loop-entry : goal.invariant-loop-entry
invariant-loop-entry l = l.rows ++ map (entry_row l.slots) (filter is_update (drop l.entry-index l.entries)) ≡ map (entry_row l.slots) (filter is_update l.entries)
