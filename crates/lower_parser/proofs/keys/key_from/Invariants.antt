use Rattle.std.proofs.Common.{drop}
use Rattle.p416_syntax.specs.Tree.{exp_at}
use Rattle.lower_expressions.specs.Table.{words_in}
use Rattle.lower_parser.specs.Rows.{row_key_from}
use Rattle.lower_parser.proofs.Turning.{GoesKey}
use Rattle.lower_parser.proofs.keys.key_from.Given as goal

abbrev pub invariant-loop-part : goal.invariant-loop-part
invariant-loop-part l = GoesKey (words_in l.fn.table) l.fn.nodes l.nodes l.fn.element l.done (drop l.part-index l.fn.parts) (row_key_from (words_in l.fn.table) l.fn.element (exp_at l.fn.nodes.exps l.fn.done) l.fn.parts)
