use Rattle.std.proofs.Common.{◌≡◌, ◌+◌, ◌++◌, [], map, drop}
use Rattle.lower_copies.specs.Copying.{action_copy, lines_of, table_copies, names_behind}
use Rattle.lower_copies.proofs.copies.add_lines.Given as goal

abbrev pub invariant-loop-i : goal.invariant-loop-i
invariant-loop-i l = record {
  copies : l.found ++ map (action_copy l.names) (table_copies l.pipeline l.own (lines_of l.at (l.first + l.i) (drop l.i l.actions))) ≡ l.fn.found ++ map (action_copy l.names) (table_copies l.fn.pipeline [] (lines_of l.at l.first l.actions));
  pipeline : names_behind l.pipeline (lines_of l.at (l.first + l.i) (drop l.i l.actions)) ≡ names_behind l.fn.pipeline (lines_of l.at l.first l.actions);
}
