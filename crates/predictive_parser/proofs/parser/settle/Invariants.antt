use Rattle.std.proofs.Common.{◌≡◌, length, Some}
use Rattle.std.specs.Prelude.{slice_get}
use Rattle.predictive_parser.specs.Machine.{settle}
use Rattle.predictive_parser.specs.Grammar.{move}
use Rattle.predictive_parser.proofs.parser.settle.Given as goal

abbrev pub invariant-loop-symbol : goal.invariant-loop-symbol
invariant-loop-symbol g l = record {
  settles : (token : g.B.Lookahead.Token) → slice_get (g.B.Lookahead.tokens l.fn.builder) l.place ≡ Some token
      → settle (move g.B.Lookahead.grammar) l.fn.stack (g.B.Lookahead.held l.fn.builder) token ≡ settle (move g.B.Lookahead.grammar) l.stack (g.B.Lookahead.held l.builder) token;
  tokens : g.B.Lookahead.tokens l.builder ≡ g.B.Lookahead.tokens l.fn.builder;
}

abbrev pub decreases-loop-symbol : goal.decreases-loop-symbol
decreases-loop-symbol g l = length l.stack
