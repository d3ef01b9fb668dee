use Rattle.std.proofs.Common.{◌≡◌, ◌++◌, map, drop}
use Rattle.p414_syntax.specs.Names.{field_name}
use Rattle.lower_laws_names.specs.Made.{called}
use Rattle.lower_laws_names.specs.NewNames.{numbered_from, field_thing, new_fields}
use Rattle.lower_names.proofs.members.new_fields.Given as goal

abbrev pub invariant-loop-i : goal.invariant-loop-i
invariant-loop-i l = l.found ++ map called (numbered_from field_thing l.i (map field_name (drop l.i l.fields))) ≡ new_fields l.fields
