use Rattle.std.proofs.Common.{◌≡◌, ◌++◌, map, drop}
use Rattle.p414_ready_parser.specs.Rows.{initial_row}
use Rattle.p414_ready_parser.proofs.parser.add_initials.Given as goal

abbrev pub invariant-loop-initial : goal.invariant-loop-initial
invariant-loop-initial l =
    l.found ++ map (initial_row l.names l.instance) (drop l.initial-index l.initials)
    ≡ l.fn.found ++ map (initial_row l.names l.instance) l.initials
