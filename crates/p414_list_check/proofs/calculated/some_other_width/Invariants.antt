use Rattle.std.proofs.Common.{◌≡◌, drop}
use Rattle.std.specs.List.{list_any}
use Rattle.p414_syntax.specs.Lists.{gives_other_width}
use Rattle.p414_list_check.proofs.calculated.some_other_width.Given as goal

abbrev pub invariant-loop-entry : goal.invariant-loop-entry
invariant-loop-entry l = list_any (gives_other_width l.names l.field) (drop l.entry-index l.entries) ≡ list_any (gives_other_width l.names l.field) l.entries
