use Rattle.std.proofs.Common.{◌≡◌, ◌∙◌, ap, List, None}
use Rattle.p414_syntax.specs.declared.syntax.Sort.TheVariants as sort
use Rattle.p414_ready_parser.specs.declared.rows.ReadyStatement.{ReadyStatement}
use Rattle.p416_syntax.specs.Tree.{no_statements}
use Rattle.lower_laws_names.specs.NewNames.{new_name}
use Rattle.lower_expressions.specs.Table.{words_in}
use Rattle.lower_parser.specs.Rows.{rows_behind}
use Rattle.lower_parser.proofs.SameStates.{state_same}
use Rattle.lower_parser.proofs.states.state.Goals as goal

pub returns : goal.returns
returns c =
    state_same c.args.names.now (words_in c.args.table.now) c.requires.names c.args.row.now c.args.state.now c.in_ok-name.name c.in_ok-body.body c.in_ok-transition.transition c.requires.row c.requires.there
    (c.in_ok-name.ensures ∙ ap (new_name c.args.names.now sort.Parse) c.as_slice.ensures)
    (c.in_ok-body.ensures ∙ ap (λ (rs : List ReadyStatement). rows_behind (words_in c.args.table.now) None no_statements rs) c.as_slice-rows.ensures)
    c.in_ok-transition.ensures
