use Rattle.p414_ready_tables.specs.internal.Applying.{noted_by}
use Rattle.p414_act_run.specs.Moments.{moment}
use Rattle.p414_ready_tables.proofs.Applying.{still_fit}
use Rattle.p414_ready_tables.proofs.apply.apply_found.Goals as goal

pub call-requires : goal.call-requires
call-requires c =
    still_fit c.args.actions.now c.args.state.now c.note.new.state c.args.store.now c.note.new.store
    (noted_by c.args.number c.args.table.now c.args.fill.now c.args.entry (moment c.args.state.now c.args.store.now))
    c.in_ok-note.ensures c.requires.actions
