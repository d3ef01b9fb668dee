use Rattle.std.proofs.Common.{◌≡◌, ◌++◌, take, drop, All}
use Rattle.v1_pass_slots.specs.Lists.{all_lists}
use Rattle.v1_pass_slots.specs.Found.{IsMetadataField}
use Rattle.v1_pass_slots.proofs.lists.add_fields.Given as goal

abbrev pub invariant-loop-field : goal.invariant-loop-field
invariant-loop-field l = record {
  lists : l.lists.items ++ all_lists l.types.top.now (drop l.field-index l.fields) ≡ l.fn.lists.items ++ all_lists l.types.top.now l.fields;
  each : All (IsMetadataField l.types.top.now) (take l.field-index l.fields);
}
