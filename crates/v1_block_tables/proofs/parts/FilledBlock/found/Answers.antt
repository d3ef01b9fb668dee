use Rattle.v1_block_tables.proofs.Keying.{entry_found}
use Rattle.v1_block_tables.proofs.parts.FilledBlock.found.Goals as goal

pub returns : goal.returns
returns c =
    entry_found c.args.self.now.fill.now c.args.self.now.block.now c.args.table.now c.args.frame.now c.args.store.now c.args.unparsed.now
    c.fill_key.new.key c.as_slice.result.now c.args.run.now c.found.result c.as_slice.ensures c.in_ok-fill_key.ensures
    c.found.ensures
