-- New octets stand behind the old ones.
use Rattle.std.proofs.Common.{◌≡◌, ℕ, ◌-◌, ◌*◌, List, ◌++◌, length, take, replicate, vec_len, ap, ◌∙◌, arith, take_all}
use Rattle.p4x_bits.specs.BitLists.{octet_bits}
use Rattle.p4x_bits.proofs.Splices.{grown, not_grown}
use Rattle.p4x_bits.proofs.bits.grow.Goals as goal

pub returns-in_ok-resize-clause-keeps : goal.returns-in_ok-resize-clause-keeps
returns-in_ok-resize-clause-keeps c =
    let old = c.args.octets.now.items in
    let more : List ℕ = replicate (c.div_ceil-needed.result - vec_len c.args.octets.now) 0 in
    let all : take c.div_ceil-needed.result old ≡ old = take_all c.div_ceil-needed.result old (omega arith) in
    ap (λ xs. take (8 * length old) (octet_bits xs)) (c.in_ok-resize.ensures.items ∙ ap (λ xs. xs ++ more) all) ∙ grown old more

pub returns-else-len-needed-clause-keeps : goal.returns-else-len-needed-clause-keeps
returns-else-len-needed-clause-keeps c = not_grown c.args.octets.now.items
