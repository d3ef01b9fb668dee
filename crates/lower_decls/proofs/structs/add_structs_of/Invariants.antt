use Rattle.std.proofs.Common.{◌≡◌, ◌++◌, map, filter_map, drop}
use Rattle.lower_decls.specs.Table.{member_in}
use Rattle.lower_decls.specs.Tops.{struct_by}
use Rattle.lower_decls.proofs.structs.add_structs_of.Given as goal

abbrev pub invariant-loop-row : goal.invariant-loop-row
invariant-loop-row l = l.found ++ filter_map (struct_by l.marks) (map member_in (drop l.row-index l.rows)) ≡ l.fn.found ++ filter_map (struct_by l.marks) (map member_in l.rows)
