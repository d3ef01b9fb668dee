use Rattle.std.proofs.Common.{◌≡◌, drop, ◌∷◌, []}
use Rattle.predictive_parser.specs.declared.symbol.Symbol.TheVariants.{Word}
use Rattle.predictive_parser.specs.Machine.{run}
use Rattle.predictive_parser.specs.Grammar.{move}
use Rattle.predictive_parser.proofs.parser.parse.Given as goal

abbrev pub invariant-loop-place : goal.invariant-loop-place
invariant-loop-place g l = record {
  runs : run (move g.B.Lookahead.grammar) (Word l.fn.word ∷ []) (g.B.Lookahead.held l.fn.builder) 0 (g.B.Lookahead.tokens l.fn.builder)
      ≡ run (move g.B.Lookahead.grammar) l.stack (g.B.Lookahead.held l.builder) l.place (drop l.place (g.B.Lookahead.tokens l.fn.builder));
  tokens : g.B.Lookahead.tokens l.builder ≡ g.B.Lookahead.tokens l.fn.builder;
}
