use Rattle.std.proofs.Common.{map, subst, List, arith}
use Rattle.std.proofs.lemmas.Grind.{common_steps}
use Rattle.match_core.specs.declared.signatures.TableSig.{TableSig}
use Rattle.match_core.specs.declared.signatures.ActionSig.{ActionSig}
use Rattle.entries_file.specs.declared.name_index.NameIndex.{NameIndex}
use Rattle.entries_file.specs.Rules.{action_name}
use Rattle.entries_file.specs.internal.Drafts.{IsNameIndex}
use Rattle.entries_file.proofs.Pairs.{each_more}
use Rattle.entries_file.proofs.calls.action_indexes.Goals as goal

pub loop-table-preserved : goal.loop-table-preserved
loop-table-preserved c = record {
  count = grind (arith, common_steps);
  each = rw c.in_ok-push.ensures.items
      (each_more (λ (table : TableSig) (index : NameIndex). IsNameIndex (λ key. key.now) index.map (map action_name table.actions)) c.args.tables.now c.loop-table.indexes.items c.loop-table.table-index c.table-item.result c.in_ok-index_of.field-0
      c.loop-table.invariant.count c.loop-table-test.true c.table-item.is c.loop-table.invariant.each
      (subst (λ (actions : List ActionSig). IsNameIndex (λ key. key.now) c.in_ok-index_of.field-0.map (map action_name actions)) c.as_slice.ensures c.in_ok-index_of.ensures));
}

pub returns : goal.returns
returns c = record {
  count = omega (arith, c.loop-table.invariant.count);
  each = λ table d e lt. c.loop-table.invariant.each table d e (omega arith);
}
