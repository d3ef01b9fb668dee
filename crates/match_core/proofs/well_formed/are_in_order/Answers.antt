use Rattle.std.proofs.Common.{◌≡◌, ◌-◌, get_or, refl, arith}
use Rattle.std.specs.Cmp.Lexicographic.{nat_list_cmp_total}
use Rattle.std.proofs.lemmas.List.{get_or_read}
use Rattle.match_core.specs.Signatures.{ComesBefore}
use Rattle.match_core.proofs.InPairs.{pairs_chain}
use Rattle.match_core.proofs.well_formed.are_in_order.Goals as goal

pub loop-i-preserved : goal.loop-i-preserved
loop-i-preserved g c =
    let named = g.T.Named.named in
    pairs_chain (λ a b. ComesBefore (named a) (named b)) (λ a b d. nat_list_cmp_total.trans (named a) (named b) (named d)) c.args.items.now c.loop-i.i (omega arith) c.loop-i.invariant
    (λ d.
    let before : c.index-items-i.result ≡ get_or c.args.items.now (c.loop-i.i - 1) d = get_or_read c.args.items.now (c.loop-i.i - 1) c.index-items-i.result (omega arith) c.index-items-i.is d in
    let here : c.index-items-i-in-loop-i.result ≡ get_or c.args.items.now c.loop-i.i d = get_or_read c.args.items.now c.loop-i.i c.index-items-i-in-loop-i.result (omega arith) c.index-items-i-in-loop-i.is d in
    let told = c.if-not-comes_before.ensures.0 refl in
    rw (← before, ← here) (rw (c.name.ensures, c.name-in-loop-i.ensures) at told))
