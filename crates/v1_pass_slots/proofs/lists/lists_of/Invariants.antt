use Rattle.std.proofs.Common.{◌≡◌, ◌++◌, drop}
use Rattle.std.specs.Prelude.{flat_map}
use Rattle.p416_syntax.specs.Declarations.{list_numbers}
use Rattle.v1_pass_slots.specs.Lists.{small_numbers}
use Rattle.v1_pass_slots.proofs.lists.lists_of.Given as goal

abbrev pub invariant-loop-note : goal.invariant-loop-note
invariant-loop-note l =
    l.lists ++ small_numbers (flat_map list_numbers (drop l.note-index l.notes)) ≡ small_numbers (flat_map list_numbers l.notes)
