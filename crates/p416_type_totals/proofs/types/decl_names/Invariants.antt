use Rattle.std.proofs.Common.{◌≡◌, ◌++◌, map, drop}
use Rattle.p416_syntax.specs.Unknown.{declared_name}
use Rattle.p416_type_totals.proofs.types.decl_names.Given as goal

abbrev pub invariant-loop-decl : goal.invariant-loop-decl
invariant-loop-decl l = map (λ name. name.now) l.names.items ++ map declared_name (drop l.decl-index l.decls) ≡ map declared_name l.decls
