use Rattle.std.proofs.Common.{◌≡◌, ◌<◌, length, true, sym, ap, ◌∙◌, arith}
use Rattle.match_core.specs.Best.{Filled}
use Rattle.match_core.specs.Matching.{matches}
use Rattle.match_core.proofs.Ordered.{first_is, none_is, number_within, hits_at}
use Rattle.match_core.proofs.order.first.Goals as goal

pub returns-then-matches : goal.returns-then-matches
returns-then-matches c =
    let table : Filled = record { specs = c.args.specs.now; entries = c.args.entries.now } in
    let key = c.args.key.now in
    let order = c.args.order.now in
    let i = c.loop-place.place-index in
    let n = c.number_at-number.result in
    let within : n < length table.entries = number_within table order i n c.requires.few c.requires.order (omega arith) c.number_at-number.ensures in
    let passes : matches table.specs c.as_slice.result.now key ≡ true = sym c.matches.ensures ∙ c.if-matches.true in
    first_is table key order i n c.requires.few c.requires.order c.loop-place.invariant (omega arith) c.number_at-number.ensures
    (hits_at table key n c.index-entries-number.result within (ap (λ l. matches table.specs l key) (sym c.as_slice.ensures) ∙ passes))

pub returns : goal.returns
returns c =
    none_is (record { specs = c.args.specs.now; entries = c.args.entries.now }) c.args.key.now c.args.order.now c.loop-place.place-index c.requires.few c.requires.order c.loop-place.invariant (omega arith)
