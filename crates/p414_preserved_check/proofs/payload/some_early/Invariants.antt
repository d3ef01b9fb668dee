use Rattle.std.proofs.Common.{◌≡◌, drop}
use Rattle.std.specs.List.{list_any}
use Rattle.p414_syntax.specs.Expansion.{lists}
use Rattle.p414_preserved_check.specs.internal.Early.{is_early}
use Rattle.p414_preserved_check.proofs.payload.some_early.Given as goal

abbrev pub invariant-loop-decl : goal.invariant-loop-decl
invariant-loop-decl l = list_any (is_early l.names l.pays l.fills) (lists (drop l.decl-index l.decls)) ≡ list_any (is_early l.names l.pays l.fills) (lists l.decls)
