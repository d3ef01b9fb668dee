use Rattle.std.proofs.Common.{◌≡◌, drop}
use Rattle.std.specs.List.{list_any}
use Rattle.p414_syntax.specs.Payloads.{inputs}
use Rattle.p414_preserved_check.specs.internal.Early.{is_early_input}
use Rattle.p414_preserved_check.proofs.payload.some_early_input.Given as goal

abbrev pub invariant-loop-decl : goal.invariant-loop-decl
invariant-loop-decl l = list_any (is_early_input l.names l.pays l.fills) (inputs (drop l.decl-index l.decls)) ≡ list_any (is_early_input l.names l.pays l.fills) (inputs l.decls)
