use Rattle.std.proofs.Common.{◌≡◌, drop}
use Rattle.p414_decl_check.specs.internal.Judged.{first_broken}
use Rattle.p414_decl_check.proofs.flat.first_broken.Given as goal

abbrev pub invariant-loop-rule : goal.invariant-loop-rule
invariant-loop-rule l = first_broken l.names (drop l.rule-index l.rules) ≡ first_broken l.names l.rules
