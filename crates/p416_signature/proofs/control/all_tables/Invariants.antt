use Rattle.std.proofs.Common.{◌≡◌, ◌++◌, flat_map, drop}
use Rattle.p416_signature.specs.internal.Gathered.{sigs_of}
use Rattle.p416_signature.proofs.control.all_tables.Given as goal

abbrev pub invariant-loop-decl : goal.invariant-loop-decl
invariant-loop-decl l =
    l.sigs ++ flat_map (sigs_of l.top l.objects) (drop l.decl-index l.decls) ≡ flat_map (sigs_of l.top l.objects) l.decls
