use Rattle.p414_syntax.specs.References.{referred}
use Rattle.p414_sem.specs.Signatures.{table_of, table_sig}
use Rattle.p414_signature.proofs.TableNames.{table_now}
use Rattle.p414_signature.proofs.tables.table_sigs.Goals as goal

pub loop-name-preserved : goal.loop-name-preserved
loop-name-preserved c =
    table_now referred (table_of c.args.names.now) (table_sig c.args.names.now) c.args.ordered.now c.loop-name.name-index _ c.loop-name.tables c.add_table.new.found _
    c.loop-name-test.true c.in_ok-add_table.ensures c.loop-name.invariant
