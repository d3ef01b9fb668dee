use Rattle.std.proofs.Common.{◌≡◌, ◌++◌, map, drop}
use Rattle.v1_ready_locals.specs.Owned.{seen_own}
use Rattle.v1_ready_locals.specs.internal.Zipped.{zip_variables}
use Rattle.v1_ready_locals.proofs.own.numbered_variables.Given as goal

abbrev pub invariant-loop-var : goal.invariant-loop-var
invariant-loop-var l =
    map seen_own l.found.items ++ zip_variables (drop l.next l.numbers) (map (λ v. v.now) (drop l.var-index l.vars)) ≡ zip_variables l.numbers (map (λ v. v.now) l.vars)
