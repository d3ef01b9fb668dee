use Rattle.std.proofs.Common.{◌≡◌, take, drop}
use Rattle.std.specs.List.{list_any}
use Rattle.p414_syntax.specs.Twice.{repeats_in}
use Rattle.p414_names.specs.internal.Tables.{scopes}
use Rattle.p414_names.proofs.names.scopes_of.Given as goal

abbrev pub invariant-loop-sort : goal.invariant-loop-sort
invariant-loop-sort l = record {
  found : l.found.items ≡ scopes l.decls (take l.sort-index l.sorts);
  same : list_any (repeats_in l.decls) (drop l.sort-index l.sorts) ≡ list_any (repeats_in l.decls) l.sorts;
}
