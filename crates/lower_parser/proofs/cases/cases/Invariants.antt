use Rattle.std.proofs.Common.{◌≡◌, ◌++◌, drop}
use Rattle.agreement_of_meanings.specs.Lowered.{select_cases}
use Rattle.lower_laws_parser.specs.Words.{next_of}
use Rattle.lower_parser.specs.Written.{parser_names}
use Rattle.lower_parser.proofs.cases.cases.Given as goal

abbrev pub invariant-loop-case : goal.invariant-loop-case
invariant-loop-case l =
    l.made ++ select_cases l.fn.width (next_of l.fn.names (parser_names l.fn.names)) (drop l.case-index l.fn.cases)
    ≡ select_cases l.fn.width (next_of l.fn.names (parser_names l.fn.names)) l.fn.cases
