use Rattle.entries_file.proofs.Digits.{some_kept, none_kept}
use Rattle.entries_file.proofs.numerals.kept.Goals as goal

pub returns-in-Some : goal.returns-in-Some
returns-in-Some c = some_kept c.args.base c.args.digits.now c.in-Some.value c.requires c.in-Some.ensures.is

pub returns-in-None : goal.returns-in-None
returns-in-None c = none_kept c.args.base c.args.digits.now c.requires c.in-None.ensures.is
