use Rattle.std.proofs.Common.{ap, ◌∙◌, map}
use Rattle.p414_syntax.specs.References.{referred}
use Rattle.p414_preserved_check.specs.internal.Marks.{joins_marked}
use Rattle.p414_preserved_check.proofs.Preserving.{initialized_exact}
use Rattle.p414_preserved_check.proofs.preserved.are_initialized.Goals as goal

pub returns : goal.returns
returns c =
    initialized_exact c.args.names.now (map referred c.args.preserved.now) c.requires.preserved c.in_ok-marks.marks.items c.in_ok-marks.ensures c.joins_marked.result
    (c.joins_marked.ensures ∙ ap (λ marks. joins_marked c.args.names.now marks (map referred c.args.preserved.now)) c.deref.ensures.value)
