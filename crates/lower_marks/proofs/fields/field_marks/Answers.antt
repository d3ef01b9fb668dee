use Rattle.std.proofs.Common.{map}
use Rattle.lower_marks.specs.Marking.{marked_in}
use Rattle.lower_marks.proofs.Holding.{all_held}
use Rattle.lower_marks.proofs.fields.field_marks.Goals as goal

pub returns : goal.returns
returns c = all_held c.args.names.now c.args.lists.now (map marked_in c.args.marked.now) c.in_ok-found.found c.requires.ready c.requires.marked c.in_ok-found.ensures
