use Rattle.std.proofs.Common.{◌≡◌, ◌++◌, map, drop}
use Rattle.p414_syntax.specs.Arguments.{actions}
use Rattle.p414_parameter_widths.specs.internal.Noting.{parameter_count}
use Rattle.p414_parameter_widths.proofs.widths.parameter_counts.Given as goal

abbrev pub invariant-loop-decl : goal.invariant-loop-decl
invariant-loop-decl l = l.found.items ++ map parameter_count (actions (drop l.decl-index l.decls)) ≡ map parameter_count (actions l.decls)
