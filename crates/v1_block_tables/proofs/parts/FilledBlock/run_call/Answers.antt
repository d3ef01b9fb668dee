use Rattle.v1_statement_run.specs.Steps.{ground_of}
use Rattle.v1_block_tables.proofs.Arriving.{parameters_over}
use Rattle.v1_block_tables.proofs.parts.FilledBlock.run_call.Goals as goal

pub bind-requires : goal.bind-requires
bind-requires c =
    parameters_over (ground_of c.args.self.now.block.now.code) c.args.frame.now c.args.store.now c.args.unparsed.now c.args.run.now
    c.args.self.now.block.now.actions c.requires.over c.requires.block.parameters
