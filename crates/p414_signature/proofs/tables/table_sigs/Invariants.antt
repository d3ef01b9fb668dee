use Rattle.std.proofs.Common.{◌≡◌, ◌++◌, map, drop}
use Rattle.std.specs.Prelude.{filter_map}
use Rattle.p414_syntax.specs.References.{referred}
use Rattle.p414_sem.specs.Signatures.{table_of, table_sig}
use Rattle.p414_signature.proofs.tables.table_sigs.Given as goal

abbrev pub invariant-loop-name : goal.invariant-loop-name
invariant-loop-name l =
    l.tables ++ map (table_sig l.names) (filter_map (table_of l.names) (map referred (drop l.name-index l.ordered)))
    ≡ map (table_sig l.names) (filter_map (table_of l.names) (map referred l.ordered))
