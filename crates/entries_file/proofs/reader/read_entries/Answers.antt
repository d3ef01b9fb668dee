use Rattle.std.proofs.Common.{◌∙◌, sym, ap, Result, Ok}
use Rattle.std.specs.Str.Lines.{lines}
use Rattle.match_core.specs.declared.entries.Entries.{Entries}
use Rattle.match_core.proofs.Building.{all_can_build}
use Rattle.p4x_fault.specs.declared.Fault.{Fault}
use Rattle.entries_file.specs.Reading.{read_lines}
use Rattle.entries_file.proofs.FitLines.{text_fits}
use Rattle.entries_file.proofs.reader.read_entries.Goals as goal

pub returns-clause-fits : goal.returns-clause-fits
returns-clause-fits c =
    let g = c.args.signature.now in
    text_fits g c.args.text.now c.into_entries.result
    (ap (λ (read : Entries). read_lines g read 1 (lines c.args.text.now)) (sym c.in-Ok-new.ensures.read_is) ∙ (c.in_ok-read_lines.ensures.1 ∙ ap (λ (e : Entries). let found : Result Entries Fault = Ok e in found) (sym c.into_entries.ensures)))

pub returns-clause-builds : goal.returns-clause-builds
returns-clause-builds c is = all_can_build c.args.signature.now c.into_entries.result is (returns-clause-fits c)
