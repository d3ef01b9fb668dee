use Rattle.std.proofs.Common.{◌≡◌, drop}
use Rattle.std.specs.List.{list_any}
use Rattle.p414_syntax.specs.Twice.{repeats_within}
use Rattle.p414_names.proofs.twice.some_repeat_within.Given as goal

abbrev pub invariant-loop-decl : goal.invariant-loop-decl
invariant-loop-decl l = list_any (repeats_within) (drop l.decl-index l.decls) ≡ list_any (repeats_within) l.decls
