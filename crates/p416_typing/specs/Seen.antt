-- What a row of code says.
use Rattle.std.specs.Prelude.{List, option_to_list}
use Rattle.p416_syntax.specs.Scopes.{Known}
use Rattle.p416_names.specs.SeenKinds.{seen_kind}
use Rattle.p416_calls.specs.Seen.{seen_callee}
use Rattle.p416_typing.specs.Rows.{RowOf}
use Rattle.p416_typing.specs.declared.row.Row.{Row}

abbrev pub seen_row : List Known → Row → RowOf
seen_row top r = record {
  kind = seen_kind r.kind;
  left = seen_kind r.left;
  right = seen_kind r.right;
  callee = seen_callee top r.callee;
  called = seen_callee top r.called;
  count = r.count;
  given = r.given;
  clone = option_to_list r.clone;
  first = option_to_list r.first;
  given_first = option_to_list r.given_first;
  can_write = r.can_write;
}
