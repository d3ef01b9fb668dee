use Rattle.std.proofs.Common.{◌≡◌, ◌≤◌, ◌++◌, map, drop}
use Rattle.lower_laws_names.specs.Types.{members_from}
use Rattle.lower_decls.specs.Table.{member_in}
use Rattle.lower_decls.proofs.rows.member_rows.Given as goal

abbrev pub invariant-loop-decl : goal.invariant-loop-decl
invariant-loop-decl l = record {
  rows : map member_in l.found ++ members_from l.names l.number l.metadata (drop l.decl-index l.decl-items) ≡ members_from l.names 0 0 l.decl-items;
  few : l.number ≤ l.decl-index;
  fewer : l.metadata ≤ l.decl-index;
}
