use Rattle.std.proofs.Common.{◌≡◌, ◌++◌, drop}
use Rattle.p414_syntax.specs.Names.{names_in, declared_in, repeats, repeats_behind}
use Rattle.p414_names.proofs.scope.put_all.Given as goal

abbrev pub invariant-loop-decl : goal.invariant-loop-decl
invariant-loop-decl l = record {
  names : l.all.names ++ names_in l.sort (drop l.decl-index l.decls) ≡ names_in l.sort l.decls;
  declared : l.all.declared ++ declared_in l.sort (drop l.decl-index l.decls) ≡ declared_in l.sort l.decls;
  same : repeats_behind l.all.names (names_in l.sort (drop l.decl-index l.decls)) ≡ repeats (names_in l.sort l.decls);
}
