use Rattle.std.proofs.Common.{◌≡◌, ◌++◌, map, filter_map, drop}
use Rattle.v1_core.specs.Signatures.{top_object}
use Rattle.p416_signature.specs.internal.Seen.{seen_object}
use Rattle.p416_signature.proofs.objects.top_objects.Given as goal

abbrev pub invariant-loop-decl : goal.invariant-loop-decl
invariant-loop-decl l =
    map seen_object l.found.items ++ filter_map top_object (drop l.decl-index l.decls) ≡ filter_map top_object l.decls
