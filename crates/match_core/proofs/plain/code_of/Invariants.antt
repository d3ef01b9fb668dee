use Rattle.std.proofs.Common.{◌≡◌, ◌++◌, drop}
use Rattle.match_core.specs.internal.Codes.{code_of}
use Rattle.match_core.proofs.plain.code_of.Given as goal

abbrev pub invariant-loop-i : goal.invariant-loop-i
invariant-loop-i l = l.code ++ code_of (drop l.i l.specs) (drop l.i l.ones) ≡ code_of l.specs l.ones
