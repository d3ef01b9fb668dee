use Rattle.std.proofs.Common.{rules, ◌≡◌, Some, sym}
use Rattle.p414_syntax.specs.declared.syntax.Decl.TheVariants as decl
use Rattle.p414_syntax.specs.declared.syntax.Sort.TheVariants as sort
use Rattle.p414_syntax.specs.Names.{declaration_of}
use Rattle.p414_ready_tables.proofs.Kept.{all_made}
use Rattle.p414_ready_tables.proofs.making.table_named.Goals as goal

pub returns-in-Some-Table : goal.returns-in-Some-Table
returns-in-Some-Table c =
    let there : declaration_of sort.Table c.args.slots.now c.as_slice.result.now ≡ Some (decl.Table c.in-Some-Table.table) =
    search rules in
    all_made c.ready_table.result c.args.slots.now c.args.sig.now c.as_slice.result.now c.in-Some-Table.table there
    c.as_slice.ensures c.ready_table.ensures
