use Rattle.std.proofs.Common.{refl}
use Rattle.std.proofs.lemmas.Result.{IfOk-weaker}
use Rattle.std.proofs.lemmas.Option.{get_or_from_slice_get}
use Rattle.base_examples.proofs.ItemReading.{tail_row}
use Rattle.base_examples.proofs.item_reader.Reading.choose_tail.Goals as goal

pub returns-clause-chooses : goal.returns-clause-chooses
returns-clause-chooses c =
    IfOk-weaker c.choose_first.result _ _
    (λ chosen f token s.
    tail_row c.args.least c.args.most c.power-power.result _ token c.args.more.now chosen c.args.stack.now c.choose_first.new.stack (get_or_from_slice_get c.args.self.now.tokens.now c.args.place token _ s) c.power-power.ensures.is (f token s))
    c.choose_first.ensures.chooses
