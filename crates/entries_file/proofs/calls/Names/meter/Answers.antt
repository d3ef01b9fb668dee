use Rattle.entries_file.specs.Rules.{meter_name}
use Rattle.entries_file.proofs.NameLaws.{place_within}
use Rattle.entries_file.proofs.calls.Names.meter.Goals as goal

pub returns-clause-within : goal.returns-clause-within
returns-clause-within c = place_within meter_name c.args.signature.now.objects c.args.name.now c.find.result (c.find.ensures _ c.requires.meters)
