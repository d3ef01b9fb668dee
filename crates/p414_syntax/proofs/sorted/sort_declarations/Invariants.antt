use Rattle.std.proofs.Common.{◌≡◌, drop}
use Rattle.p414_syntax.specs.Sorted.{put_all, sorted}
use Rattle.p414_syntax.proofs.sorted.sort_declarations.Given as goal

abbrev pub invariant-loop-decl : goal.invariant-loop-decl
invariant-loop-decl l = put_all l.all (drop l.decl-index l.syntax.decls) ≡ sorted l.syntax.decls
