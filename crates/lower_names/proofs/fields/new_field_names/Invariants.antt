use Rattle.std.proofs.Common.{◌≡◌, ◌≤◌, ◌++◌, drop}
use Rattle.lower_names.specs.FieldNames.{instance_names_from}
use Rattle.lower_names.proofs.fields.new_field_names.Given as goal

abbrev pub invariant-loop-decl : goal.invariant-loop-decl
invariant-loop-decl l = record {
  names : l.found ++ instance_names_from l.names l.instance (drop l.decl-index l.decl-items) ≡ instance_names_from l.names 0 l.decl-items;
  few : l.instance ≤ l.decl-index;
}
