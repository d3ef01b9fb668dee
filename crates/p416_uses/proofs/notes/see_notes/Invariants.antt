use Rattle.std.proofs.Common.{◌≡◌, map, flat_map, drop}
use Rattle.p416_syntax.specs.Uses.{a_number}
use Rattle.p416_syntax.specs.Declarations.{list_numbers, note_uses}
use Rattle.p416_expression_uses.specs.Found.{after_all}
use Rattle.p416_uses.proofs.notes.see_notes.Given as goal

abbrev pub invariant-loop-note : goal.invariant-loop-note
invariant-loop-note l = after_all l.found (map a_number (flat_map list_numbers (drop l.note-index l.notes))) ≡ after_all l.fn.found (note_uses l.notes)
