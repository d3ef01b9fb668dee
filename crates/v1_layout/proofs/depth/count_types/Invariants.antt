use Rattle.std.proofs.Common.{◌≡◌, ◌+◌, ◌≤◌, drop}
use Rattle.v1_layout.specs.Left.{counted}
use Rattle.v1_layout.proofs.depth.count_types.Given as goal

abbrev pub invariant-loop-decl : goal.invariant-loop-decl
invariant-loop-decl l = record {
  counted : l.count + counted (drop l.decl-index l.decls) ≡ counted l.decls;
  few : l.count ≤ l.decl-index;
}
