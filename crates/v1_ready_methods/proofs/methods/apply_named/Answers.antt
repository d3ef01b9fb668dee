use Rattle.std.proofs.Common.{ℕ, Option, option_map, ap, ◌∙◌}
use Rattle.p416_syntax.specs.Names.{Name}
use Rattle.v1_core.specs.Expressions.{name_in}
use Rattle.v1_ready_blocks.specs.Statements.{apply, does}
use Rattle.name_numbers.specs.Names.{find_name}
use Rattle.v1_ready_operands.proofs.Naming.{tables_found}
use Rattle.v1_ready_methods.proofs.methods.apply_named.Goals as goal

pub returns-clause-statement : goal.returns-clause-statement
returns-clause-statement c =
    c.in_ok-statement.ensures.statement
    ∙ (ap (λ o. option_map does (option_map apply o)) c.find-table.ensures
    ∙ (ap (λ (x : Name). option_map does (option_map apply (find_name c.args.callees.tables.now x))) c.name_in-name.ensures
    ∙ ap (λ (t : Name → Option ℕ). option_map does (option_map apply (t (name_in c.args.named.now)))) (tables_found c.args.callees c.requires.callees)))
