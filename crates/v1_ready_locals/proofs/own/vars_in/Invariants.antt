use Rattle.std.proofs.Common.{◌≡◌, ◌++◌, map, filter_map, drop}
use Rattle.v1_core.specs.Blocks.{var_in}
use Rattle.v1_ready_locals.proofs.own.vars_in.Given as goal

abbrev pub invariant-loop-local : goal.invariant-loop-local
invariant-loop-local l =
    map (λ v. v.now) l.found.items ++ filter_map var_in (drop l.local-index l.locals) ≡ filter_map var_in l.locals
