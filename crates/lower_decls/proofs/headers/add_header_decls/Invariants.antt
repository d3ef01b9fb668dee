use Rattle.std.proofs.Common.{◌≡◌, ◌≤◌, ◌++◌, map, drop}
use Rattle.p414_syntax.specs.Fields.{types}
use Rattle.lower_laws_names.specs.Types.{header_decl}
use Rattle.lower_decls.specs.Tops.{used_from}
use Rattle.lower_decls.proofs.headers.add_header_decls.Given as goal

abbrev pub invariant-loop-decl : goal.invariant-loop-decl
invariant-loop-decl l = record {
  decls : l.found ++ map (header_decl l.names) (used_from l.used l.number (types (drop l.decl-index l.decl-items))) ≡ l.fn.found ++ map (header_decl l.names) (used_from l.used 0 (types l.decl-items));
  few : l.number ≤ l.decl-index;
}
