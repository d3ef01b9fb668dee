use Rattle.std.proofs.Common.{◌≡◌, drop}
use Rattle.p416_syntax.specs.Properties.{name_note_of}
use Rattle.p416_syntax.proofs.parts.name_note.Given as goal

abbrev pub invariant-loop-note : goal.invariant-loop-note
invariant-loop-note l = name_note_of (drop l.note-index l.notes) ≡ name_note_of l.notes
