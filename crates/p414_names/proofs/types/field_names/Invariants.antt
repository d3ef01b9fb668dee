use Rattle.std.proofs.Common.{◌≡◌, map, take, drop}
use Rattle.p414_syntax.specs.Names.{field_name, repeats, repeats_behind}
use Rattle.p414_names.proofs.types.field_names.Given as goal

abbrev pub invariant-loop-field : goal.invariant-loop-field
invariant-loop-field l = record {
  names : l.names ≡ map field_name (take l.field-index l.fields);
  same : repeats_behind l.names (map field_name (drop l.field-index l.fields)) ≡ repeats (map field_name l.fields);
}
