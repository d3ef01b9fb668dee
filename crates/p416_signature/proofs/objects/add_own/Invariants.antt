use Rattle.std.proofs.Common.{◌≡◌, ◌++◌, map, filter_map, drop}
use Rattle.v1_core.specs.Signatures.{own_object}
use Rattle.p416_signature.specs.internal.Seen.{seen_object}
use Rattle.p416_signature.proofs.objects.add_own.Given as goal

abbrev pub invariant-loop-declared : goal.invariant-loop-declared
invariant-loop-declared l =
    map seen_object l.found.items ++ filter_map own_object (drop l.declared-index l.locals)
    ≡ map seen_object l.fn.found.items ++ filter_map own_object l.locals
