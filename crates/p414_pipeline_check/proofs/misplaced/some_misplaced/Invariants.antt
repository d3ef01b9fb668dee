use Rattle.std.proofs.Common.{◌≡◌, ℕ, ◌<◌, true}
use Rattle.p414_pipeline_check.specs.internal.Requests.{is_misplaced}
use Rattle.p414_pipeline_check.proofs.misplaced.some_misplaced.Given as goal

abbrev pub invariant-loop-table : goal.invariant-loop-table
invariant-loop-table l = (k : ℕ) → k < l.table → is_misplaced (record { ingress = l.in_ingress; egress = l.in_egress; of_ingress = l.of_ingress; of_egress = l.of_egress }) k ≡ true → ⊥
