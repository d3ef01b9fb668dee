use Rattle.std.proofs.Common.{refl, get_or, []}
use Rattle.std.proofs.lemmas.List.{get_or_default}
use Rattle.name_numbers.proofs.Places.{index_more}
use Rattle.name_numbers.proofs.numbering.index_names.Goals as goal

pub loop-i-preserved : goal.loop-i-preserved
loop-i-preserved c =
    index_more (λ name. name.now) (λ name. record { ref_ptr = (0, 0); now = name }) (λ name. refl) c.loop-i.numbers c.put_first.new.map c.args.names.now c.loop-i.i (get_or c.args.names.now c.loop-i.i (record { ref_ptr = (0, 0); now = [] })) c.in_ok-number.number
    c.loop-i-test.true (get_or_default c.args.names.now c.loop-i.i _ _ c.loop-i-test.true) c.in_ok-number.ensures c.loop-i.invariant c.in_ok-put_first.ensures
