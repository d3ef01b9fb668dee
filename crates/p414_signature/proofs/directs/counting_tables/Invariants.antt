use Rattle.std.proofs.Common.{◌≡◌, ◌++◌, map, drop}
use Rattle.p414_syntax.specs.References.{referred}
use Rattle.p414_signature.specs.internal.Gathered.{counting_tables}
use Rattle.p414_signature.proofs.directs.counting_tables.Given as goal

abbrev pub invariant-loop-decl : goal.invariant-loop-decl
invariant-loop-decl l = map referred l.found.items ++ counting_tables (drop l.decl-index l.decls) ≡ counting_tables l.decls
