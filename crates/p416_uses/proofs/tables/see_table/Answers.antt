use Rattle.std.proofs.Common.{rules}
use Rattle.p416_scopes.specs.Seen.{seen_scope}
use Rattle.p416_uses.proofs.TableUses.{table_told}
use Rattle.p416_uses.proofs.tables.see_table.Goals as goal

pub returns-clause-found : goal.returns-clause-found
returns-clause-found c =
    table_told c.args.found.now c.see_notes.new.found c.see_whole.new.found c.see_keys.new.found c.see_properties.new.found (seen_scope c.args.scope.now) (seen_scope c.see_keys.new.scope) c.args.table.now
    (search rules) c.in_ok-see_whole.ensures.found (rw c.keys.ensures at c.in_ok-see_keys.ensures.found) c.in_ok-see_keys.ensures.scope c.in_ok-see_properties.ensures
