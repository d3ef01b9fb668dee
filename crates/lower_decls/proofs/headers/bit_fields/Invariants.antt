use Rattle.std.proofs.Common.{◌≡◌, ◌++◌, map, drop}
use Rattle.lower_laws_names.specs.Instances.{named_from}
use Rattle.lower_laws_names.specs.Types.{bit_field}
use Rattle.lower_decls.proofs.headers.bit_fields.Given as goal

abbrev pub invariant-loop-i : goal.invariant-loop-i
invariant-loop-i l = l.found ++ map bit_field (named_from l.i (drop l.i l.fields)) ≡ map bit_field (named_from 0 l.fields)
