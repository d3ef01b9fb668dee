use Rattle.std.proofs.Common.{ap, sym, ◌∙◌, drop, map, ◌∷◌, [], ◌+◌}
use Rattle.predictive_parser.specs.Grammar.{plain_lines, with_more}
use Rattle.predictive_parser.specs.Told.{told}
use Rattle.predictive_parser.proofs.FirstRow.{next, found_none, here, past, plain_split}
use Rattle.predictive_parser.proofs.choosing.choose_like.Goals as goal

pub returns-then-is_some-clause-chooses : goal.returns-then-is_some-clause-chooses
returns-then-is_some-clause-chooses g c = λ token s.
    here g.B.Lookahead.grammar token (g.B.Lookahead.held c.args.builder.now) c.in_ok-found.found c.loop-row.stack c.args.stack.now c.choose_line.new.stack _ (map (with_more c.args.more.now) (plain_lines (told (g.B.Lookahead.coded c.args.word) (drop c.loop-row.row-index c.rows.result.rows.now)))) (map (with_more c.args.more.now) (plain_lines (told (g.B.Lookahead.coded c.args.word) (c.row-item.result ∷ [])))) (map (with_more c.args.more.now) (plain_lines (told (g.B.Lookahead.coded c.args.word) (drop (c.loop-row.row-index + 1) c.rows.result.rows.now))))
    (c.loop-row.invariant.none_before token s)
    (ap (λ rows. map (with_more c.args.more.now) (plain_lines (told (g.B.Lookahead.coded c.args.word) rows))) (next c.rows.result.rows.now c.loop-row.row-index c.row-item.result _ c.loop-row-test.true c.row-item.is) ∙ plain_split g.B.Lookahead.grammar (g.B.Lookahead.coded c.args.word) c.args.more.now c.row-item.result (drop (c.loop-row.row-index + 1) c.rows.result.rows.now))
    c.loop-row.invariant.same (sym c.is_some.ensures ∙ c.if-is_some.true) (c.in_ok-found.ensures.chooses token s)

pub loop-row-preserved : goal.loop-row-preserved
loop-row-preserved g c = record {
  none_before = λ token s.
      past g.B.Lookahead.grammar token (g.B.Lookahead.held c.args.builder.now) c.in_ok-found.found c.loop-row.stack c.choose_line.new.stack _ (map (with_more c.args.more.now) (plain_lines (told (g.B.Lookahead.coded c.args.word) (drop c.loop-row.row-index c.rows.result.rows.now)))) (map (with_more c.args.more.now) (plain_lines (told (g.B.Lookahead.coded c.args.word) (c.row-item.result ∷ [])))) (map (with_more c.args.more.now) (plain_lines (told (g.B.Lookahead.coded c.args.word) (drop (c.loop-row.row-index + 1) c.rows.result.rows.now))))
      (c.loop-row.invariant.none_before token s)
      (ap (λ rows. map (with_more c.args.more.now) (plain_lines (told (g.B.Lookahead.coded c.args.word) rows))) (next c.rows.result.rows.now c.loop-row.row-index c.row-item.result _ c.loop-row-test.true c.row-item.is) ∙ plain_split g.B.Lookahead.grammar (g.B.Lookahead.coded c.args.word) c.args.more.now c.row-item.result (drop (c.loop-row.row-index + 1) c.rows.result.rows.now))
      (sym c.is_some.ensures ∙ c.if-is_some.false) (c.in_ok-found.ensures.chooses token s);
  same = c.in_ok-found.ensures.none (found_none c.in_ok-found.found (sym c.is_some.ensures ∙ c.if-is_some.false)) ∙ c.loop-row.invariant.same;
}
