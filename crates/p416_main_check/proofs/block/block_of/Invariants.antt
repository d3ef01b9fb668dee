use Rattle.std.proofs.Common.{◌≡◌, List, drop}
use Rattle.p416_syntax.specs.Scopes.{Known}
use Rattle.p416_syntax.specs.Main.{block_of}
use Rattle.p416_main_check.proofs.block.block_of.Given as goal

abbrev pub invariant-loop-decl : goal.invariant-loop-decl
invariant-loop-decl l = (names : List Known) → block_of names (drop l.decl-index l.decls) l.name ≡ block_of names l.decls l.name
