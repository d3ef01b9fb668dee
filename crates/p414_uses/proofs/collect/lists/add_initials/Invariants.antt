use Rattle.std.proofs.Common.{◌≡◌, ◌++◌, map, drop}
use Rattle.p414_syntax.specs.Uses.{use_of_initial}
use Rattle.p414_uses.specs.Shown.{shown_use}
use Rattle.p414_uses.proofs.collect.lists.add_initials.Given as goal

abbrev pub invariant-loop-initial : goal.invariant-loop-initial
invariant-loop-initial l = map shown_use l.found.items ++ map (use_of_initial l.header_type) (drop l.initial-index l.initials) ≡ map shown_use l.fn.found.items ++ map (use_of_initial l.header_type) l.initials
