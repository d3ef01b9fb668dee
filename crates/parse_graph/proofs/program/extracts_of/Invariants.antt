use Rattle.std.proofs.Common.{◌≡◌, take, flat_map}
use Rattle.p414_syntax.specs.ParserGraph.{extracted_by}
use Rattle.parse_graph.proofs.program.extracts_of.Given as goal

abbrev pub invariant-loop-statement : goal.invariant-loop-statement
invariant-loop-statement l = l.extracts ≡ flat_map (extracted_by l.names) (take l.statement-index l.state.statements)
