use Rattle.std.proofs.Common.{◌≡◌, ◌++◌, map, drop}
use Rattle.p416_syntax.specs.Unknown.{declared_name}
use Rattle.v1_pass_slots.proofs.structs.names_of.Given as goal

abbrev pub invariant-loop-decl : goal.invariant-loop-decl
invariant-loop-decl l =
    map (λ name. name.now) l.names.items ++ map declared_name (map (λ d. d.now) (drop l.decl-index l.decls))
    ≡ map declared_name (map (λ d. d.now) l.decls)
