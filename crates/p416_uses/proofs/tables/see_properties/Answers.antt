use Rattle.p416_scopes.specs.Seen.{seen_scope}
use Rattle.p416_uses.proofs.TableUses.{rest_told}
use Rattle.p416_uses.proofs.tables.see_properties.Goals as goal

pub returns : goal.returns
returns c =
    rest_told c.args.found.now c.see_action_names.new.found c.see_size.new.found c.see_counters.new.found c.see_defaults.new.found (seen_scope c.args.scope.now) c.args.table.now
    (rw c.actions.ensures at c.see_action_names.ensures) (rw c.size.ensures at c.see_size.ensures) (rw c.counters.ensures at c.see_counters.ensures)
    (rw (c.default_action.ensures, c.default_arguments.ensures) at c.in_ok-see_defaults.ensures)
