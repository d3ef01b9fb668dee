use Rattle.std.proofs.Common.{ap, sym, ◌∙◌, drop, ◌∷◌, [], ◌+◌}
use Rattle.predictive_parser.specs.Grammar.{lines_of}
use Rattle.predictive_parser.specs.Told.{told}
use Rattle.predictive_parser.proofs.FirstRow.{next, found_none, here, past, lines_split}
use Rattle.predictive_parser.proofs.choosing.choose.Goals as goal

pub returns-then-is_some-clause-chooses : goal.returns-then-is_some-clause-chooses
returns-then-is_some-clause-chooses g c = λ token s.
    here g.B.Lookahead.grammar token (g.B.Lookahead.held c.args.builder.now) c.in_ok-found.found c.loop-row.stack c.args.stack.now c.choose_row.new.stack _ (lines_of g.B.Lookahead.grammar (told (g.B.Lookahead.coded c.args.word) (drop c.loop-row.row-index c.rows.result.rows.now))) (lines_of g.B.Lookahead.grammar (told (g.B.Lookahead.coded c.args.word) (c.row-item.result ∷ []))) (lines_of g.B.Lookahead.grammar (told (g.B.Lookahead.coded c.args.word) (drop (c.loop-row.row-index + 1) c.rows.result.rows.now)))
    (c.loop-row.invariant.none_before token s)
    (ap (λ rows. lines_of g.B.Lookahead.grammar (told (g.B.Lookahead.coded c.args.word) rows)) (next c.rows.result.rows.now c.loop-row.row-index c.row-item.result _ c.loop-row-test.true c.row-item.is) ∙ lines_split g.B.Lookahead.grammar (g.B.Lookahead.coded c.args.word) c.row-item.result (drop (c.loop-row.row-index + 1) c.rows.result.rows.now))
    c.loop-row.invariant.same (sym c.is_some.ensures ∙ c.if-is_some.true) (c.in_ok-found.ensures.chooses token s)

pub loop-row-preserved : goal.loop-row-preserved
loop-row-preserved g c = record {
  none_before = λ token s.
      past g.B.Lookahead.grammar token (g.B.Lookahead.held c.args.builder.now) c.in_ok-found.found c.loop-row.stack c.choose_row.new.stack _ (lines_of g.B.Lookahead.grammar (told (g.B.Lookahead.coded c.args.word) (drop c.loop-row.row-index c.rows.result.rows.now))) (lines_of g.B.Lookahead.grammar (told (g.B.Lookahead.coded c.args.word) (c.row-item.result ∷ []))) (lines_of g.B.Lookahead.grammar (told (g.B.Lookahead.coded c.args.word) (drop (c.loop-row.row-index + 1) c.rows.result.rows.now)))
      (c.loop-row.invariant.none_before token s)
      (ap (λ rows. lines_of g.B.Lookahead.grammar (told (g.B.Lookahead.coded c.args.word) rows)) (next c.rows.result.rows.now c.loop-row.row-index c.row-item.result _ c.loop-row-test.true c.row-item.is) ∙ lines_split g.B.Lookahead.grammar (g.B.Lookahead.coded c.args.word) c.row-item.result (drop (c.loop-row.row-index + 1) c.rows.result.rows.now))
      (sym c.is_some.ensures ∙ c.if-is_some.false) (c.in_ok-found.ensures.chooses token s);
  same = c.in_ok-found.ensures.none (found_none c.in_ok-found.found (sym c.is_some.ensures ∙ c.if-is_some.false)) ∙ c.loop-row.invariant.same;
}
