use Rattle.std.proofs.Common.{◌≡◌, ◌++◌, drop, map}
use Rattle.p414_syntax.specs.Expansion.{lists}
use Rattle.p414_preserved_check.specs.internal.Marks.{own_mark, own_marks}
use Rattle.p414_preserved_check.specs.internal.Asking.{asked_of}
use Rattle.p414_preserved_check.proofs.asking.own_marks.Given as goal

abbrev pub invariant-loop-decl : goal.invariant-loop-decl
invariant-loop-decl l = l.found.items ++ map (own_mark l.names (asked_of l.names l.sets l.asked)) (lists (drop l.decl-index l.names)) ≡ own_marks l.names (asked_of l.names l.sets l.asked)
