use Rattle.std.proofs.Common.{◌≡◌, drop}
use Rattle.v1_core.specs.Parsing.{parser_called}
use Rattle.v1_ready_whole.proofs.blocks.parser_called.Given as goal

abbrev pub invariant-loop-decl : goal.invariant-loop-decl
invariant-loop-decl l = parser_called (drop l.decl-index l.decls) l.name ≡ parser_called l.decls l.name
