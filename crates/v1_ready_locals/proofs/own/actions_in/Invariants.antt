use Rattle.std.proofs.Common.{◌≡◌, ◌++◌, map, filter_map, drop}
use Rattle.p416_syntax.specs.Declarations.{action_in}
use Rattle.v1_ready_locals.proofs.own.actions_in.Given as goal

abbrev pub invariant-loop-local : goal.invariant-loop-local
invariant-loop-local l =
    map (λ a. a.now) l.found.items ++ filter_map action_in (drop l.local-index l.locals) ≡ filter_map action_in l.locals
