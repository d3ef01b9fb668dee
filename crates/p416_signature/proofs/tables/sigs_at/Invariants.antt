use Rattle.std.proofs.Common.{◌≡◌, ◌++◌, map, filter_map, drop}
use Rattle.p416_signature.specs.internal.Gathered.{sig_at}
use Rattle.p416_signature.proofs.tables.sigs_at.Given as goal

abbrev pub invariant-loop-name : goal.invariant-loop-name
invariant-loop-name l =
    l.tables ++ filter_map (sig_at l.sigs l.names) (map (λ name. name.now) (drop l.name-index l.ordered))
    ≡ filter_map (sig_at l.sigs l.names) (map (λ name. name.now) l.ordered)
