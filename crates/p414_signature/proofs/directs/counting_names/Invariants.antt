use Rattle.std.proofs.Common.{◌≡◌, ◌++◌, map, drop}
use Rattle.p414_syntax.specs.References.{referred}
use Rattle.p414_signature.specs.internal.Gathered.{counting_names}
use Rattle.p414_signature.proofs.directs.counting_names.Given as goal

abbrev pub invariant-loop-decl : goal.invariant-loop-decl
invariant-loop-decl l = map referred l.found.items ++ counting_names (drop l.decl-index l.decls) ≡ counting_names l.decls
