use Rattle.std.proofs.Common.{◌≡◌, Some, drop}
use Rattle.std.specs.Prelude.{slice_get}
use Rattle.predictive_parser.specs.Choices.{first_of}
use Rattle.predictive_parser.proofs.alternatives.choose_first.Given as goal

abbrev pub invariant-loop-row : goal.invariant-loop-row
invariant-loop-row g l = record {
  none_before : (token : g.L.Lookahead.Token) → slice_get (g.L.Lookahead.tokens l.lookahead) l.place ≡ Some token
      → first_of g.L.Lookahead.grammar token (g.L.Lookahead.held l.lookahead) l.rows l.more ≡ first_of g.L.Lookahead.grammar token (g.L.Lookahead.held l.lookahead) (drop l.row-index l.rows) l.more;
  same : l.stack ≡ l.fn.stack;
}
