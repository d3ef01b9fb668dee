use Rattle.std.proofs.Common.{◌∙◌, ◌<◌, sym, ap, map, [], length, arith, below_more}
use Rattle.std.proofs.lemmas.List.{get_or-map, length-map}
use Rattle.entries_file.specs.Forms.{is_arrow}
use Rattle.entries_file.proofs.WordLaws.{position_at, position_none}
use Rattle.entries_file.proofs.judge.arrow.Goals as goal

pub loop-i-preserved : goal.loop-i-preserved
loop-i-preserved c =
    let here = get_or-map (λ word. word.now) c.args.words.now c.loop-i.i _ [] c.loop-i-test.true in
    below_more _ _ c.loop-i.invariant (ap is_arrow here ∙ (sym c.eq.ensures ∙ c.if-eq.false))

pub returns-then-eq-clause-is : goal.returns-then-eq-clause-is
returns-then-eq-clause-is c =
    let here = get_or-map (λ word. word.now) c.args.words.now c.loop-i.i _ [] c.loop-i-test.true in
    let within : c.loop-i.i < length (map (λ word. word.now) c.args.words.now) = omega (arith, length-map c.args.words.now (λ word. word.now)) in
    sym (position_at is_arrow (map (λ word. word.now) c.args.words.now) c.loop-i.i [] within c.loop-i.invariant (ap is_arrow here ∙ (sym c.eq.ensures ∙ c.if-eq.true)))

pub returns-clause-is : goal.returns-clause-is
returns-clause-is c =
    sym (position_none is_arrow (map (λ word. word.now) c.args.words.now) [] (λ k lt. c.loop-i.invariant k (omega (arith, length-map c.args.words.now (λ word. word.now)))))
