use Rattle.std.proofs.Common.{sym}
use Rattle.p414_ready_tables.specs.Loaded.{Loaded}
use Rattle.p414_ready_tables.proofs.Applying.{actions_fit_seen, all_applied, direct_fits_seen}
use Rattle.p414_ready_tables.proofs.ready.ReadyTables.apply.Goals as goal

pub returns-clause-applies : goal.returns-clause-applies
returns-clause-applies c =
    let kept : Loaded =
    record { decls = c.self.inside.program.now.decls; rule = c.self.inside.actions.rule; entries = c.self.inside.entries.now } in
    all_applied c.apply_found.result kept c.args.self.now c.self.inside.tables c.self.inside.filled c.self.inside.actions
    c.args.number c.in-Some.table.now c.in-Some-get.filled.now c.in-Some-get-2.fill.now c.in_ok-entry.entry c.args.state.now
    c.apply_found.new.state c.args.store.now c.apply_found.new.store c.self.view_is c.self.invariant (sym c.in-Some.ensures)
    (sym c.in-Some-get.ensures) (sym c.in-Some-get-2.ensures) c.in_ok-entry.ensures c.apply_found.ensures

pub apply_found-requires-clause-actions : goal.apply_found-requires-clause-actions
apply_found-requires-clause-actions c =
    let kept : Loaded =
    record { decls = c.self.inside.program.now.decls; rule = c.self.inside.actions.rule; entries = c.self.inside.entries.now } in
    actions_fit_seen kept c.args.self.now c.self.inside.tables c.self.inside.filled c.self.inside.actions c.args.state.now
    c.args.store.now c.self.view_is c.self.invariant c.requires.layout c.requires.shapes

pub apply_found-requires-clause-direct : goal.apply_found-requires-clause-direct
apply_found-requires-clause-direct c =
    let kept : Loaded =
    record { decls = c.self.inside.program.now.decls; rule = c.self.inside.actions.rule; entries = c.self.inside.entries.now } in
    direct_fits_seen kept c.args.self.now c.self.inside.tables c.self.inside.filled c.self.inside.actions c.args.number
    c.in-Some.table.now c.args.store.now c.self.view_is c.self.invariant (sym c.in-Some.ensures) c.requires.shapes
