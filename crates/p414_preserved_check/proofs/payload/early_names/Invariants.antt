use Rattle.std.proofs.Common.{◌≡◌, false, drop}
use Rattle.p414_preserved_check.specs.internal.Early.{early_names}
use Rattle.p414_preserved_check.proofs.payload.early_names.Given as goal

abbrev pub invariant-loop-name : goal.invariant-loop-name
invariant-loop-name l = early_names l.names l.pays l.fills l.paid (drop l.name-index l.input) ≡ early_names l.names l.pays l.fills false l.input
