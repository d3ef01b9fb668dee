use Rattle.std.proofs.Common.{◌-◌}
use Rattle.p416_syntax.specs.Tree.{stmt_at}
use Rattle.lower_laws_actions.specs.Mirror.{behind_stmts, elements_set}
use Rattle.lower_expressions.specs.Table.{words_in}
use Rattle.lower_expressions.proofs.Turning.{Goes}
use Rattle.lower_primitives.proofs.stacks.elements_set.Given as goal

abbrev pub invariant-loop-element : goal.invariant-loop-element
invariant-loop-element l =
    Goes l.fn.nodes l.nodes l.done (elements_set (words_in l.fn.table) l.fn.stack l.element (l.fn.count - l.element))
    (behind_stmts (stmt_at l.fn.nodes.stmts l.fn.done) (elements_set (words_in l.fn.table) l.fn.stack 0 l.fn.count))
