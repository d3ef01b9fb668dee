use Rattle.std.proofs.Common.{◌∙◌}
use Rattle.entries_file.proofs.name_index.NameIndex.find.Goals as goal

pub returns : goal.returns
returns c = λ names index. c.copied.ensures ∙ (c.get.ensures.value ∙ index c.args.name.now)
