use Rattle.std.proofs.Common.{◌≡◌, ◌++◌, map, drop}
use Rattle.p414_syntax.specs.declared.syntax.Sort.TheVariants as sort
use Rattle.p414_syntax.specs.Names.{names_in}
use Rattle.program_commands.proofs.headers.instance_names.Given as goal

abbrev pub invariant-loop-decl : goal.invariant-loop-decl
invariant-loop-decl l = map (λ name. name.now) l.names.items ++ names_in sort.Instance (drop l.decl-index l.decls) ≡ names_in sort.Instance l.decls
