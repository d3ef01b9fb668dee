use Rattle.std.proofs.Common.{◌≡◌, drop}
use Rattle.std.specs.List.{list_any}
use Rattle.p414_syntax.specs.Selects.{state_joins_too_much}
use Rattle.p414_decl_check.proofs.selects.some_joins_too_much.Given as goal

abbrev pub invariant-loop-decl : goal.invariant-loop-decl
invariant-loop-decl l = list_any (state_joins_too_much l.names) (drop l.decl-index l.decls) ≡ list_any (state_joins_too_much l.names) l.decls
