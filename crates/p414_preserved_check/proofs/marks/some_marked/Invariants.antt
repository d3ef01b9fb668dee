use Rattle.std.proofs.Common.{◌≡◌, drop, map}
use Rattle.std.specs.List.{list_any}
use Rattle.p414_syntax.specs.References.{referred}
use Rattle.p414_preserved_check.specs.internal.Marks.{is_marked_name}
use Rattle.p414_preserved_check.proofs.marks.some_marked.Given as goal

abbrev pub invariant-loop-name : goal.invariant-loop-name
invariant-loop-name l = list_any (is_marked_name l.names l.marks) (map referred (drop l.name-index l.listed)) ≡ list_any (is_marked_name l.names l.marks) (map referred l.listed)
