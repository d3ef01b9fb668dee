use Rattle.std.proofs.Common.{◌≡◌, ◌++◌, drop, map}
use Rattle.std.specs.Prelude.{filter_map}
use Rattle.p414_ready_parser.specs.Rows.{row_to, test_of}
use Rattle.p414_ready_parser.proofs.cases.add_values.Given as goal

abbrev pub invariant-loop-masked : goal.invariant-loop-masked
invariant-loop-masked l =
    l.rows ++ map (row_to l.next) (filter_map (test_of l.width) (drop l.masked-index l.values))
    ≡ l.fn.rows ++ map (row_to l.next) (filter_map (test_of l.width) l.values)
