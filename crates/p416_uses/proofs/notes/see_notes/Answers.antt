use Rattle.p416_uses.proofs.Loops.{notes_on}
use Rattle.p416_uses.proofs.notes.see_notes.Goals as goal

pub loop-note-preserved : goal.loop-note-preserved
loop-note-preserved c = notes_on c.args.notes.now c.loop-note.note-index c.note-item.result _ _ _ c.loop-note-test.true c.note-item.is c.see_note.ensures c.loop-note.invariant
