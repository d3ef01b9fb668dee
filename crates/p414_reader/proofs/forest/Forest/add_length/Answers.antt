use Rattle.p414_syntax.specs.Views.{length_is}
use Rattle.std.proofs.lemmas.Result.{on_ok_weaker}
use Rattle.p414_reader.proofs.Kept.{tail_over}
use Rattle.p414_reader.proofs.forest.Forest.add_length.Goals as goal

pub returns : goal.returns
returns c = on_ok_weaker c.add_tail.result (λ h. tail_over length_is c.in_ok-place.ensures h) c.add_tail.ensures
