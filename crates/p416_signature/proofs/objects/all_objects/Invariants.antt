use Rattle.std.proofs.Common.{◌≡◌, ◌++◌, map, flat_map, drop}
use Rattle.v1_core.specs.Signatures.{objects_in}
use Rattle.p416_signature.specs.internal.Seen.{seen_object}
use Rattle.p416_signature.proofs.objects.all_objects.Given as goal

abbrev pub invariant-loop-decl : goal.invariant-loop-decl
invariant-loop-decl l =
    map seen_object l.found.items ++ flat_map objects_in (drop l.decl-index l.decls) ≡ flat_map objects_in l.decls
