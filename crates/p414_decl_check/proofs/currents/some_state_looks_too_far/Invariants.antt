use Rattle.std.proofs.Common.{◌≡◌, drop}
use Rattle.std.specs.List.{list_any}
use Rattle.p414_syntax.specs.Widths.{state_looks_too_far}
use Rattle.p414_decl_check.proofs.currents.some_state_looks_too_far.Given as goal

abbrev pub invariant-loop-decl : goal.invariant-loop-decl
invariant-loop-decl l = list_any (state_looks_too_far) (drop l.decl-index l.decls) ≡ list_any (state_looks_too_far) l.decls
