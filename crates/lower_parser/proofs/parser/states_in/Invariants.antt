use Rattle.std.proofs.Common.{◌≡◌, ◌++◌, map, drop}
use Rattle.p414_syntax.specs.References.{referred}
use Rattle.p414_syntax.specs.ParserGraph.{states}
use Rattle.lower_parser.proofs.parser.states_in.Given as goal

abbrev pub invariant-loop-decl : goal.invariant-loop-decl
invariant-loop-decl l = map referred l.found.items ++ states (drop l.decl-index l.decls) ≡ states l.decls
