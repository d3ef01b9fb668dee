use Rattle.std.proofs.Common.{◌≡◌, ◌++◌, drop}
use Rattle.p414_syntax.specs.Arguments.{actions}
use Rattle.p414_expanded_check.specs.internal.Flow.{starts_from, end_from, starts, count}
use Rattle.p414_expanded_check.proofs.flow.begins_of.Given as goal

abbrev pub invariant-loop-decl : goal.invariant-loop-decl
invariant-loop-decl l =
    (l.found.items ++ starts_from l.first (actions (drop l.decl-index l.decls)) ≡ starts l.decls)
    × (end_from l.first (actions (drop l.decl-index l.decls)) ≡ count l.decls)
