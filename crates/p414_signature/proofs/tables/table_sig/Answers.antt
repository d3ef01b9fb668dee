use Rattle.p414_signature.proofs.Gathering.{table_made}
use Rattle.p414_signature.proofs.tables.table_sig.Goals as goal

pub returns : goal.returns
returns c =
    table_made c.args.names.now c.args.objects.now c.args.table.now c.in_ok-name.name c.as_slice-2.result.now c.as_slice.result.now c.in_ok-keys.keys c.reads.result.now c.in_ok-actions.actions c.table_size.result c.in_ok-direct.direct
    c.requires.objects c.in_ok-name.ensures c.as_slice-2.ensures c.in_ok-keys.ensures c.reads.ensures c.in_ok-actions.ensures c.table_size.ensures c.in_ok-direct.ensures c.as_slice.ensures
