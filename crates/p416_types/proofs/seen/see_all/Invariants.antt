use Rattle.std.proofs.Common.{◌≡◌, ◌||◌, drop}
use Rattle.p416_expression_uses.specs.Found.{after_all}
use Rattle.p416_types.specs.internal.Seen.{uses_of_all, counts_wrongly}
use Rattle.p416_types.proofs.seen.see_all.Given as goal

abbrev pub invariant-loop-decl : goal.invariant-loop-decl
invariant-loop-decl l =
    (after_all l.found (uses_of_all l.top l.places (drop l.decl-index l.decls)) ≡ after_all l.fn.found (uses_of_all l.top l.places l.decls))
    × ((l.outside || counts_wrongly (uses_of_all l.top l.places (drop l.decl-index l.decls))) ≡ counts_wrongly (uses_of_all l.top l.places l.decls))
