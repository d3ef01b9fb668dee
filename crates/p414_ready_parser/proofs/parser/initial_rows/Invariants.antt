use Rattle.std.proofs.Common.{◌≡◌, ◌++◌, drop, flat_map}
use Rattle.p414_ready_parser.specs.Rows.{initials_in}
use Rattle.p414_ready_parser.proofs.parser.initial_rows.Given as goal

abbrev pub invariant-loop-decl : goal.invariant-loop-decl
invariant-loop-decl l = l.found ++ flat_map (initials_in l.names) (drop l.decl-index l.decls) ≡ flat_map (initials_in l.names) l.decls
