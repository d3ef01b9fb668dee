use Rattle.std.proofs.Common.{refl, ◌≡◌, ◌≤◌, ◌<◌, ◌∙◌, ap, sym, subst, Some, Err, length, drop, ◌+◌, arith}
use Rattle.std.specs.Prelude.{slice_get}
use Rattle.predictive_parser.specs.declared.parser.ParseError.TheVariants.{Refused}
use Rattle.predictive_parser.specs.Machine.{run}
use Rattle.predictive_parser.specs.Grammar.{move, parse}
use Rattle.predictive_parser.specs.Answers.{Parses}
use Rattle.predictive_parser.proofs.Turns.{token_at, run_taken, run_stopped, run_finished, run_cut}
use Rattle.predictive_parser.proofs.parser.parse.Goals as goal

pub returns-then-not-branch-clause-is : goal.returns-then-not-branch-clause-is
returns-then-not-branch-clause-is g c =
    let l : c.loop-place.place < length (g.B.Lookahead.tokens c.args.builder.now) = omega (arith, c.loop-place-test.true, c.count-count.ensures) in
    let t = token_at (g.B.Lookahead.tokens c.args.builder.now) c.loop-place.place l in
    let s : slice_get (g.B.Lookahead.tokens c.loop-place.builder) c.loop-place.place ≡ Some t.0 = ap (λ ts. slice_get ts c.loop-place.place) c.loop-place.invariant.tokens ∙ t.1 in
    let e = run_stopped g.B.Lookahead.grammar (λ b. g.B.Lookahead.held c.settle.new.builder ≡ b) (g.B.Lookahead.tokens c.args.builder.now) c.loop-place.stack c.settle.new.stack (g.B.Lookahead.held c.loop-place.builder) c.loop-place.place t.0 c.in_ok-settle.field-0
    (parse g.B.Lookahead.grammar c.args.word (g.B.Lookahead.held c.args.builder.now) (g.B.Lookahead.tokens c.args.builder.now)) t.2 c.loop-place.invariant.runs c.if-not-branch.true (c.in_ok-settle.ensures.settles t.0 s) in
    subst (λ r. Parses {R = Unit {0}} (Err (Refused c.loop-place.place)) r (λ done b. g.B.Lookahead.held c.settle.new.builder ≡ b)) (sym e) refl

pub loop-place-preserved : goal.loop-place-preserved
loop-place-preserved g c = record {
  runs =
      let l : c.loop-place.place < length (g.B.Lookahead.tokens c.args.builder.now) = omega (arith, c.loop-place-test.true, c.count-count.ensures) in
      let t = token_at (g.B.Lookahead.tokens c.args.builder.now) c.loop-place.place l in
      let s : slice_get (g.B.Lookahead.tokens c.loop-place.builder) c.loop-place.place ≡ Some t.0 = ap (λ ts. slice_get ts c.loop-place.place) c.loop-place.invariant.tokens ∙ t.1 in
      let r = run_taken g.B.Lookahead.grammar (λ b. g.B.Lookahead.held c.settle.new.builder ≡ b) (g.B.Lookahead.tokens c.args.builder.now) c.loop-place.stack c.settle.new.stack (g.B.Lookahead.held c.loop-place.builder) c.loop-place.place t.0 c.in_ok-settle.field-0
      (parse g.B.Lookahead.grammar c.args.word (g.B.Lookahead.held c.args.builder.now) (g.B.Lookahead.tokens c.args.builder.now)) t.2 c.loop-place.invariant.runs c.if-not-branch.false (c.in_ok-settle.ensures.settles t.0 s) in
      r.2 ∙ ap (λ b. run (move g.B.Lookahead.grammar) c.settle.new.stack b (c.loop-place.place + 1) (drop (c.loop-place.place + 1) (g.B.Lookahead.tokens c.args.builder.now))) (sym r.1);
  tokens = c.in_ok-settle.ensures.tokens ∙ c.loop-place.invariant.tokens;
}

pub returns-then-branch-clause-is : goal.returns-then-branch-clause-is
returns-then-branch-clause-is g c =
    let l : length (g.B.Lookahead.tokens c.args.builder.now) ≤ c.loop-place.place = omega (arith, c.loop-place-test.false, c.count-count.ensures) in
    run_finished g.B.Lookahead.grammar (λ b. g.B.Lookahead.held c.finish.new.builder ≡ b) (g.B.Lookahead.tokens c.args.builder.now) c.loop-place.stack (g.B.Lookahead.held c.loop-place.builder) c.loop-place.place c.in_ok-finish.field-0
    (parse g.B.Lookahead.grammar c.args.word (g.B.Lookahead.held c.args.builder.now) (g.B.Lookahead.tokens c.args.builder.now)) l c.loop-place.invariant.runs c.if-branch.true (c.in_ok-finish.ensures.finishes c.loop-place.place)

pub returns-clause-is : goal.returns-clause-is
returns-clause-is g c =
    let l : length (g.B.Lookahead.tokens c.args.builder.now) ≤ c.loop-place.place = omega (arith, c.loop-place-test.false, c.count-count.ensures) in
    run_cut g.B.Lookahead.grammar (λ b. g.B.Lookahead.held c.finish.new.builder ≡ b) (g.B.Lookahead.tokens c.args.builder.now) c.loop-place.stack (g.B.Lookahead.held c.loop-place.builder) c.loop-place.place c.count-count.result c.in_ok-finish.field-0
    (parse g.B.Lookahead.grammar c.args.word (g.B.Lookahead.held c.args.builder.now) (g.B.Lookahead.tokens c.args.builder.now)) l (omega (arith, c.loop-place-test.false, c.loop-place.auto.place-end)) c.loop-place.invariant.runs c.if-branch.false (c.in_ok-finish.ensures.finishes c.loop-place.place)
