use Rattle.std.proofs.Common.{◌≡◌, ◌++◌, drop, filter}
use Rattle.p416_names.specs.internal.Tables.{is_type}
use Rattle.p416_names.proofs.layout.layouts_of.Given as goal

abbrev pub invariant-loop-decl : goal.invariant-loop-decl
invariant-loop-decl l = l.layouts.items ++ filter is_type (drop l.decl-index l.decls) ≡ filter is_type l.decls
