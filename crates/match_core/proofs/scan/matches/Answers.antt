use Rattle.std.proofs.Common.{sym, inl, inr}
use Rattle.match_core.proofs.Matches.{matches-differ}
use Rattle.match_core.proofs.scan.matches.Goals as goal
use Rattle.match_core.proofs.scan.matches.Goals.{then-ones-specs-via-then-ones-specs, then-ones-specs-via-else-ones-specs+then-key-specs}

pub returns-then-ones-specs : goal.returns-then-ones-specs
returns-then-ones-specs c =
    elim c.then-ones-specs.branch [
      | then-ones-specs-via-then-ones-specs w ↦ sym (matches-differ c.args.specs.now c.args.ones.now c.args.key.now (inl w.if-ones-specs.true))
      | then-ones-specs-via-else-ones-specs+then-key-specs w ↦ sym (matches-differ c.args.specs.now c.args.ones.now c.args.key.now (inr w.if-key-specs.true))
    ]
