use Rattle.std.proofs.Common.{◌≡◌, ◌++◌, map, drop}
use Rattle.p414_syntax.specs.Names.{field_name}
use Rattle.p414_field_lists.specs.internal.Expanding.{named_row}
use Rattle.p414_field_lists.proofs.items.add_declared.Given as goal

abbrev pub invariant-loop-field : goal.invariant-loop-field
invariant-loop-field l =
    l.rows ++ map (named_row l.slots l.instance) (map field_name (drop l.field-index l.fields))
    ≡ l.fn.rows ++ map (named_row l.slots l.instance) (map field_name l.fields)
