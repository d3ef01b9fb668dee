use Rattle.std.proofs.Common.{◌≡◌, drop}
use Rattle.std.specs.List.{list_any}
use Rattle.p414_syntax.specs.Widths.{is_unaligned_header}
use Rattle.p414_decl_check.proofs.totals.some_unaligned_header.Given as goal

abbrev pub invariant-loop-decl : goal.invariant-loop-decl
invariant-loop-decl l = list_any (is_unaligned_header l.names) (drop l.decl-index l.decls) ≡ list_any (is_unaligned_header l.names) l.decls
