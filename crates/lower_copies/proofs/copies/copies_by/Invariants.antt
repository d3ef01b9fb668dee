use Rattle.std.proofs.Common.{◌≡◌, ◌≤◌, ◌++◌, [], map, drop}
use Rattle.p414_syntax.specs.Tables.{tables}
use Rattle.lower_copies.specs.Copying.{action_copy, copies_from}
use Rattle.lower_copies.proofs.copies.copies_by.Given as goal

abbrev pub invariant-loop-decl : goal.invariant-loop-decl
invariant-loop-decl l = record {
  copies : l.found ++ map (action_copy l.names) (copies_from l.counted l.in_egress l.ingress l.egress l.number l.line (tables (drop l.decl-index l.decl-items))) ≡ map (action_copy l.names) (copies_from l.counted l.in_egress [] [] 0 0 (tables l.decl-items));
  few : l.number ≤ l.decl-index;
}
