use Rattle.std.proofs.Common.{◌≡◌, ℕ, length}
use Rattle.predictive_parser.specs.Machine.{finish}
use Rattle.predictive_parser.specs.Grammar.{move}
use Rattle.predictive_parser.proofs.parser.finish.Given as goal

abbrev pub invariant-loop-symbol : goal.invariant-loop-symbol
invariant-loop-symbol g l = record {
  finishes : (place : ℕ) → finish (move g.B.Lookahead.grammar) l.fn.stack (g.B.Lookahead.held l.fn.builder) place ≡ finish (move g.B.Lookahead.grammar) l.stack (g.B.Lookahead.held l.builder) place;
  tokens : g.B.Lookahead.tokens l.builder ≡ g.B.Lookahead.tokens l.fn.builder;
}

abbrev pub decreases-loop-symbol : goal.decreases-loop-symbol
decreases-loop-symbol g l = length l.stack
