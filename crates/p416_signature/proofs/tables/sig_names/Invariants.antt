use Rattle.std.proofs.Common.{◌≡◌, ◌++◌, map, drop}
use Rattle.p416_signature.specs.internal.Gathered.{sig_name}
use Rattle.p416_signature.proofs.tables.sig_names.Given as goal

abbrev pub invariant-loop-sig : goal.invariant-loop-sig
invariant-loop-sig l =
    map (λ name. name.now) l.names.items ++ map sig_name (drop l.sig-index l.sigs) ≡ map sig_name l.sigs
