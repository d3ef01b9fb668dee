use Rattle.std.proofs.Common.{option_map, ◌∙◌}
use Rattle.p416_scopes.specs.Seen.{seen_scope}
use Rattle.v1_block_run.specs.Blocks.{seen_chosen}
use Rattle.v1_ready_program.specs.Seen.{seen_seats}
use Rattle.v1_ready_tables.specs.Seen.{seen_keys}
use Rattle.v1_ready_tables.proofs.Telling.{parts_are}
use Rattle.v1_ready_tables.proofs.tables.ready_table.Goals as goal

pub returns-clause-table : goal.returns-clause-table
returns-clause-table c =
    let g = c.ready_keys.new.nodes in
    c.joined.ensures.table g
    ∙ parts_are c.args.names (seen_scope c.args.scope.now) (seen_scope c.args.keys.scope.now) (seen_seats c.args.keys.seats.now) c.args.table.now _ c.in_ok-number.number c.in_ok-direct.direct (option_map (seen_keys g) c.in_ok-ready.ready) c.in_ok-actions.actions.numbers (option_map (option_map seen_chosen) c.in_ok-actions.actions.default)
    c.in_ok-number.ensures c.in_ok-direct.ensures c.in_ok-ready.ensures.ready c.keys.ensures c.requires.keys c.in_ok-actions.ensures.numbers c.in_ok-actions.ensures.default
