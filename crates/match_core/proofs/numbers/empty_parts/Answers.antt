use Rattle.std.proofs.Common.{List, [], ◌∷◌, ℕ, ap, ◌∙◌, length, arith}
use Rattle.std.proofs.lemmas.List.{length-append}
use Rattle.match_core.proofs.InParts.{empty_more, empty_joined, empty_parts}
use Rattle.match_core.proofs.numbers.empty_parts.Goals as goal

pub loop-preserved : goal.loop-preserved
loop-preserved c =
    let long = c.loop.invariant.0 in
    let more = ap (λ (parts : List (List (ℕ × ℕ))). length parts) c.in_ok-push.ensures.items ∙ length-append c.loop.parts.items (c.new.result ∷ []) in
    (omega (arith, long, more), rw (c.in_ok-push.ensures.items, c.new.ensures) (empty_more c.loop.parts.items c.loop.invariant.1))

pub returns-clause-are : goal.returns-clause-are
returns-clause-are c =
    let long = c.loop.invariant.0 in
    let done = c.loop-test.false in
    let some = c.requires in
    empty_parts c.loop.parts.items (omega (arith, long, done, some)) c.loop.invariant.1

pub returns-clause-empty : goal.returns-clause-empty
returns-clause-empty c = empty_joined c.loop.parts.items c.loop.invariant.1
