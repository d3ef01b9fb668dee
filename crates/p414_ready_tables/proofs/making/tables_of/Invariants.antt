use Rattle.std.proofs.Common.{take}
use Rattle.std.specs.List.{AllZip}
use Rattle.p414_sem.specs.Signatures.{tables_in_order}
use Rattle.p414_ready_tables.specs.Tables.{IsReadyTable}
use Rattle.p414_ready_tables.proofs.making.tables_of.Given as goal

abbrev pub invariant-loop-sig : goal.invariant-loop-sig
invariant-loop-sig l = AllZip (IsReadyTable l.slots) (take l.sig-index (tables_in_order l.slots)) l.tables
