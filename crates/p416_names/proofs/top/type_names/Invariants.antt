use Rattle.std.proofs.Common.{◌≡◌, ◌++◌, map, drop, filter}
use Rattle.p416_syntax.specs.Unknown.{declared_name}
use Rattle.p416_names.specs.internal.Tables.{is_type}
use Rattle.p416_names.proofs.top.type_names.Given as goal

abbrev pub invariant-loop-decl : goal.invariant-loop-decl
invariant-loop-decl l = map (λ name. name.now) l.names.items ++ map declared_name (filter is_type (drop l.decl-index l.decls)) ≡ map declared_name (filter is_type l.decls)
