use Rattle.p414_act_run.proofs.Giving.{holds_gives}
use Rattle.p414_act_run.proofs.effects.effect_of.Goals as goal

pub returns-in-AddHeader : goal.returns-in-AddHeader
returns-in-AddHeader c = rw c.in-AddHeader.is (c.add_effect.ensures c.args.store.now.shapes)

pub returns-in-RemoveHeader : goal.returns-in-RemoveHeader
returns-in-RemoveHeader c =
    rw c.in-RemoveHeader.is (holds_gives _ _ _ _ (c.clear_effect.ensures c.args.store.now.shapes))

pub returns-in_ok-copy_effect-in-CopyHeader : goal.returns-in_ok-copy_effect-in-CopyHeader
returns-in_ok-copy_effect-in-CopyHeader c =
    rw c.in-CopyHeader.is (holds_gives _ _ _ _ (c.in_ok-copy_effect-in-CopyHeader.ensures c.args.store.now.shapes))

pub returns-in_ok-push_effect-in-Push : goal.returns-in_ok-push_effect-in-Push
returns-in_ok-push_effect-in-Push c =
    rw c.in-Push.is (holds_gives _ _ _ _ (c.in_ok-push_effect-in-Push.ensures c.args.store.now.shapes))

pub returns-in_ok-pop_effect-in-Pop : goal.returns-in_ok-pop_effect-in-Pop
returns-in_ok-pop_effect-in-Pop c =
    rw c.in-Pop.is (holds_gives _ _ _ _ (c.in_ok-pop_effect-in-Pop.ensures c.args.store.now.shapes))
