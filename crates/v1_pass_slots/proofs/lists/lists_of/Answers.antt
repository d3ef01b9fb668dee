use Rattle.v1_pass_slots.proofs.Listing.{note_on}
use Rattle.v1_pass_slots.proofs.lists.lists_of.Goals as goal

pub loop-note-preserved : goal.loop-note-preserved
loop-note-preserved c =
    note_on c.args.notes.now c.loop-note.note-index c.note-item.result c.loop-note.lists c.add_note.new.lists _ c.loop-note-test.true c.note-item.is c.in_ok-add_note.ensures c.loop-note.invariant
