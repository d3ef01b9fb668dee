use Rattle.std.proofs.Common.{take}
use Rattle.std.specs.List.{AllZip}
use Rattle.match_core.specs.Fits.{FitsKey}
use Rattle.base_examples.proofs.made.all_asked.Given as goal

abbrev pub invariant-loop-spec : goal.invariant-loop-spec
invariant-loop-spec l = AllZip FitsKey (take l.spec-index l.specs) l.keys
