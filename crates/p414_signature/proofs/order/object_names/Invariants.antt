use Rattle.std.proofs.Common.{◌≡◌, map, drop}
use Rattle.p414_syntax.specs.References.{referred}
use Rattle.p414_syntax.specs.declared.syntax.Sort.TheVariants as sort
use Rattle.p414_syntax.specs.Names.{names_in}
use Rattle.p414_sem.specs.Operations.{in_order}
use Rattle.p414_signature.specs.internal.Gathered.{put_all}
use Rattle.p414_signature.proofs.order.object_names.Given as goal

abbrev pub invariant-loop-decl : goal.invariant-loop-decl
invariant-loop-decl l = put_all (map referred l.set.keys) (names_in sort.Object (drop l.decl-index l.decls)) ≡ in_order (names_in sort.Object l.decls)
