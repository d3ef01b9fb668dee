use Rattle.std.proofs.Common.{◌≡◌, ◌∙◌, ap, List}
use Rattle.p414_syntax.specs.declared.parsers.Case.{Case}
use Rattle.agreement_of_meanings.specs.Lowered.{select_cases}
use Rattle.lower_laws_parser.specs.Words.{next_of}
use Rattle.lower_expressions.specs.Table.{words_in}
use Rattle.lower_parser.specs.Written.{parser_names}
use Rattle.lower_parser.proofs.SameStates.{select_same}
use Rattle.lower_parser.proofs.states.transition.Goals as goal

pub returns-in_ok-cases-in-Select : goal.returns-in_ok-cases-in-Select
returns-in_ok-cases-in-Select c =
    select_same c.args.names.now (words_in c.args.table.now) c.requires.names c.args.state.now _ _ c.args.element c.args.parts.now _ _ _ c.in-Select.is c.requires.element c.requires.parts
    c.in_ok-key_bits-in-Select.ensures c.in_ok-keys-in-Select.ensures
    (c.in_ok-cases-in-Select.ensures ∙ ap (λ (cs : List Case). select_cases c.in_ok-key_bits-in-Select.field-0 (next_of c.args.names.now (parser_names c.args.names.now)) cs) c.as_slice.ensures)
