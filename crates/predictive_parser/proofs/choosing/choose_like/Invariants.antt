use Rattle.std.proofs.Common.{◌≡◌, Some, drop, map}
use Rattle.std.specs.Prelude.{slice_get}
use Rattle.predictive_parser.specs.Grammar.{first_fit, plain_lines, with_more}
use Rattle.predictive_parser.specs.Told.{told}
use Rattle.predictive_parser.proofs.choosing.choose_like.Given as goal

abbrev pub invariant-loop-row : goal.invariant-loop-row
invariant-loop-row g l = record {
  none_before : (token : g.B.Lookahead.Token) → slice_get (g.B.Lookahead.tokens l.builder) l.place ≡ Some token
      → first_fit g.B.Lookahead.grammar token (g.B.Lookahead.held l.builder) (map (with_more l.more) (plain_lines (g.B.Lookahead.grammar.rows l.word))) ≡ first_fit g.B.Lookahead.grammar token (g.B.Lookahead.held l.builder) (map (with_more l.more) (plain_lines (told (g.B.Lookahead.coded l.word) (drop l.row-index l.row-items))));
  same : l.stack ≡ l.fn.stack;
}
