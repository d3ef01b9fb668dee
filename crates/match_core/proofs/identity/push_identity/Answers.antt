use Rattle.std.proofs.Common.{◌≡◌, List, ◌∷◌, ◌++◌, sym, subst, arith}
use Rattle.match_core.specs.declared.entries.KeyMatch.{KeyMatch}
use Rattle.match_core.specs.Identity.{counted_all}
use Rattle.match_core.proofs.CountedKeys.{counted_end}
use Rattle.match_core.proofs.identity.push_identity.Goals as goal

pub returns : goal.returns
returns c =
    let whole = counted_end c.args.specs.now c.as_slice-ones.result.now c.loop-i.i _ c.loop-i.key (omega arith) c.loop-i.invariant in
    sym (subst (λ (ones : List KeyMatch). c.args.key.now ++ (c.args.entry.now.priority ∷ counted_all c.args.specs.now ones) ≡ c.loop-i.key) c.as_slice-ones.ensures whole)
