use Rattle.std.proofs.Common.{◌≡◌, ◌++◌, drop, false}
use Rattle.p414_syntax.specs.Names.{names_in, repeats_behind}
use Rattle.p414_numbers.proofs.numbers.names_in.Given as goal

abbrev pub invariant-loop-decl : goal.invariant-loop-decl
invariant-loop-decl l = record {
  all : l.names ++ names_in l.sort (drop l.decl-index l.decls) ≡ names_in l.sort l.decls;
  once : repeats_behind l.names (names_in l.sort (drop l.decl-index l.decls)) ≡ false;
}
