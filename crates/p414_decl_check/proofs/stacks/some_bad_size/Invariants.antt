use Rattle.std.proofs.Common.{◌≡◌, drop}
use Rattle.std.specs.List.{list_any}
use Rattle.p414_syntax.specs.Stacks.{declares_bad_size}
use Rattle.p414_decl_check.proofs.stacks.some_bad_size.Given as goal

abbrev pub invariant-loop-decl : goal.invariant-loop-decl
invariant-loop-decl l = list_any (declares_bad_size) (drop l.decl-index l.decls) ≡ list_any (declares_bad_size) l.decls
