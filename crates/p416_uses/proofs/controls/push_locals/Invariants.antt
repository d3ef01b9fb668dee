use Rattle.std.proofs.Common.{◌≡◌, ◌++◌, map, drop}
use Rattle.p416_uses.specs.Parts.{local_name}
use Rattle.p416_uses.proofs.controls.push_locals.Given as goal

abbrev pub invariant-loop-declared : goal.invariant-loop-declared
invariant-loop-declared l = map (λ name. name.now) l.names.items ++ map local_name (drop l.declared-index l.locals) ≡ map (λ name. name.now) l.fn.names.items ++ map local_name l.locals
