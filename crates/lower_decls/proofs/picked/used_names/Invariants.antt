use Rattle.std.proofs.Common.{◌≡◌, [], drop}
use Rattle.lower_names.specs.Picked.{picked_from}
use Rattle.lower_decls.specs.Using.{used_in}
use Rattle.lower_decls.proofs.picked.used_names.Given as goal

abbrev pub invariant-loop-decl : goal.invariant-loop-decl
invariant-loop-decl l = picked_from used_in l.found (drop l.decl-index l.decls) ≡ picked_from used_in [] l.decls
