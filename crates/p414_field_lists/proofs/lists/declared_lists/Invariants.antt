use Rattle.std.proofs.Common.{◌≡◌, ◌++◌, drop}
use Rattle.p414_syntax.specs.Expansion.{lists}
use Rattle.p414_field_lists.proofs.lists.declared_lists.Given as goal

abbrev pub invariant-loop-decl : goal.invariant-loop-decl
invariant-loop-decl l = l.found ++ lists (drop l.decl-index l.decls) ≡ lists l.decls
