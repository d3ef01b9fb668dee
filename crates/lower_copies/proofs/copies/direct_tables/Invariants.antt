use Rattle.std.proofs.Common.{◌≡◌, [], drop}
use Rattle.lower_copies.specs.Copying.{directs_from}
use Rattle.lower_copies.proofs.copies.direct_tables.Given as goal

abbrev pub invariant-loop-decl : goal.invariant-loop-decl
invariant-loop-decl l = directs_from l.found (drop l.decl-index l.decls) ≡ directs_from [] l.decls
