use Rattle.std.proofs.Common.{◌≡◌, ◌++◌, reverse, map}
use Rattle.predictive_parser.proofs.stack.Stack.push_all.Given as goal

abbrev pub invariant-loop-symbol : goal.invariant-loop-symbol
invariant-loop-symbol g l = l.self ≡ reverse (map (λ symbol. symbol.now) l.yielded) ++ l.fn.self
