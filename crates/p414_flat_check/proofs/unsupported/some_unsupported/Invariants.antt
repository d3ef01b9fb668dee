use Rattle.std.proofs.Common.{◌≡◌, drop}
use Rattle.std.specs.List.{list_any}
use Rattle.p414_syntax.specs.Unsupported.{declares_unsupported}
use Rattle.p414_flat_check.proofs.unsupported.some_unsupported.Given as goal

abbrev pub invariant-loop-decl : goal.invariant-loop-decl
invariant-loop-decl l = list_any declares_unsupported (drop l.decl-index l.decls) ≡ list_any declares_unsupported l.decls
