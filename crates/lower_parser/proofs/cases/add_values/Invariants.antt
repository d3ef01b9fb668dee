use Rattle.std.proofs.Common.{◌≡◌, ◌++◌, drop}
use Rattle.agreement_of_meanings.specs.Lowered.{target16, value_cases}
use Rattle.lower_laws_parser.specs.Words.{next_of}
use Rattle.lower_parser.specs.Written.{parser_names}
use Rattle.lower_parser.proofs.cases.add_values.Given as goal

abbrev pub invariant-loop-masked : goal.invariant-loop-masked
invariant-loop-masked l =
    l.made ++ value_cases l.fn.width (target16 (next_of l.fn.names (parser_names l.fn.names)) l.fn.to) (drop l.masked-index l.fn.values)
    ≡ l.fn.made ++ value_cases l.fn.width (target16 (next_of l.fn.names (parser_names l.fn.names)) l.fn.to) l.fn.values
