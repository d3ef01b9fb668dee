use Rattle.std.proofs.Common.{◌∙◌, ◌<◌, sym, ap, map, subst, Some, arith, length}
use Rattle.entries_file.specs.declared.name_index.NameIndex.{NameIndex}
use Rattle.entries_file.specs.Filling.{table_at}
use Rattle.entries_file.specs.Rules.{table_name, action_name, table_call, listed_call}
use Rattle.entries_file.specs.internal.Drafts.{IsNameIndex}
use Rattle.entries_file.proofs.NameLaws.{place_within}
use Rattle.entries_file.proofs.calls.Names.call.Goals as goal

pub index-requires : goal.index-requires
index-requires c =
    let place = c.in-Some.ensures _ c.requires.tables in
    let within = place_within table_name c.args.signature.now.tables c.args.table.now (Some c.in-Some.table) place in
    omega (arith, c.requires.actions.count)

pub returns-in-Some-find-clause-table : goal.returns-in-Some-find-clause-table
returns-in-Some-find-clause-table c =
    place_within table_name c.args.signature.now.tables c.args.table.now (Some c.in-Some.table) (c.in-Some.ensures _ c.requires.tables)

pub returns-in-Some-find-clause-is : goal.returns-in-Some-find-clause-is
returns-in-Some-find-clause-is c =
    let place = c.in-Some.ensures _ c.requires.tables in
    let within : c.in-Some.table < length c.args.signature.now.tables = place_within table_name c.args.signature.now.tables c.args.table.now (Some c.in-Some.table) place in
    let index : IsNameIndex (λ key. key.now) c.index.result.now.map (map action_name (table_at c.args.signature.now c.in-Some.table).actions) =
    subst (λ (i : NameIndex). IsNameIndex (λ key. key.now) i.map (map action_name (table_at c.args.signature.now c.in-Some.table).actions)) (sym c.index.ensures)
    (c.requires.actions.each c.in-Some.table _ c.index.result.now within) in
    ap (listed_call c.in-Some.table) (c.in-Some-find.ensures _ index) ∙ ap (table_call c.args.signature.now c.args.action.now) place

pub returns-in-Some-find-clause-action : goal.returns-in-Some-find-clause-action
returns-in-Some-find-clause-action c =
    let place = c.in-Some.ensures _ c.requires.tables in
    let within : c.in-Some.table < length c.args.signature.now.tables = place_within table_name c.args.signature.now.tables c.args.table.now (Some c.in-Some.table) place in
    let index : IsNameIndex (λ key. key.now) c.index.result.now.map (map action_name (table_at c.args.signature.now c.in-Some.table).actions) =
    subst (λ (i : NameIndex). IsNameIndex (λ key. key.now) i.map (map action_name (table_at c.args.signature.now c.in-Some.table).actions)) (sym c.index.ensures)
    (c.requires.actions.each c.in-Some.table _ c.index.result.now within) in
    place_within action_name (table_at c.args.signature.now c.in-Some.table).actions c.args.action.now (Some c.in-Some-find.action) (c.in-Some-find.ensures _ index)

pub returns-in-None-clause-is : goal.returns-in-None-clause-is
returns-in-None-clause-is c =
    let place = c.in-Some.ensures _ c.requires.tables in
    let within : c.in-Some.table < length c.args.signature.now.tables = place_within table_name c.args.signature.now.tables c.args.table.now (Some c.in-Some.table) place in
    let index : IsNameIndex (λ key. key.now) c.index.result.now.map (map action_name (table_at c.args.signature.now c.in-Some.table).actions) =
    subst (λ (i : NameIndex). IsNameIndex (λ key. key.now) i.map (map action_name (table_at c.args.signature.now c.in-Some.table).actions)) (sym c.index.ensures)
    (c.requires.actions.each c.in-Some.table _ c.index.result.now within) in
    ap (listed_call c.in-Some.table) (c.in-None.ensures _ index) ∙ ap (table_call c.args.signature.now c.args.action.now) place
