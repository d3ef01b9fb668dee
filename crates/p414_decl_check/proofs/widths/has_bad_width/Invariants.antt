use Rattle.std.proofs.Common.{◌≡◌, drop}
use Rattle.std.specs.List.{list_any}
use Rattle.p414_syntax.specs.Widths.{declares_bad_width}
use Rattle.p414_decl_check.proofs.widths.has_bad_width.Given as goal

abbrev pub invariant-loop-decl : goal.invariant-loop-decl
invariant-loop-decl l = list_any (declares_bad_width) (drop l.decl-index l.decls) ≡ list_any (declares_bad_width) l.decls
