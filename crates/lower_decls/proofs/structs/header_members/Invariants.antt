use Rattle.std.proofs.Common.{◌≡◌, ◌++◌, map, filter_map, drop}
use Rattle.lower_laws_names.specs.Types.{header_member}
use Rattle.lower_decls.specs.Table.{member_in}
use Rattle.lower_decls.proofs.structs.header_members.Given as goal

abbrev pub invariant-loop-row : goal.invariant-loop-row
invariant-loop-row l = l.found ++ filter_map header_member (map member_in (drop l.row-index l.rows)) ≡ filter_map header_member (map member_in l.rows)
