use Rattle.std.proofs.Common.{rules, ap, sym}
use Rattle.std.proofs.lemmas.List.{append-nil}
use Rattle.fabric.specs.Fabric.{queued_again, sent_by}
use Rattle.fabric.proofs.OwnJobs.{leaves_egress}
use Rattle.fabric.proofs.fates.make_egress.Goals as goal

pub returns-in-Drop-clause-leaves : goal.returns-in-Drop-clause-leaves
returns-in-Drop-clause-leaves g c =
    leaves_egress _ _ _ _ _ c.in_ok-ended.ended _ _ _ c.queue_egress_clone.new.queue _ _ c.in_ok-ended.ensures.gives c.requires.sessions c.requires.from c.in_ok-ended.ensures.own
    (rw c.clone_of.ensures at c.in_ok-queue_egress_clone.ensures) (ap (queued_again _) c.in-Drop.is) (sym (append-nil _)) (ap (sent_by _) c.in-Drop.is) (sym (append-nil _))

pub returns-in_ok-push-in-Recirculate-clause-leaves :
    goal.returns-in_ok-push-in-Recirculate-clause-leaves
returns-in_ok-push-in-Recirculate-clause-leaves g c =
    leaves_egress _ _ _ _ _ c.in_ok-ended.ended _ _ _ c.queue_egress_clone.new.queue _ _ c.in_ok-ended.ensures.gives c.requires.sessions c.requires.from c.in_ok-ended.ensures.own
    (rw c.clone_of.ensures at c.in_ok-queue_egress_clone.ensures) (ap (queued_again _) c.in-Recirculate.is) (search rules) (ap (sent_by _) c.in-Recirculate.is) (sym (append-nil _))

pub returns-in_ok-push-in-Send-clause-leaves : goal.returns-in_ok-push-in-Send-clause-leaves
returns-in_ok-push-in-Send-clause-leaves g c =
    leaves_egress _ _ _ _ _ c.in_ok-ended.ended _ _ _ c.queue_egress_clone.new.queue _ _ c.in_ok-ended.ensures.gives c.requires.sessions c.requires.from c.in_ok-ended.ensures.own
    (rw c.clone_of.ensures at c.in_ok-queue_egress_clone.ensures) (ap (queued_again _) c.in-Send.is) (sym (append-nil _)) (ap (sent_by _) c.in-Send.is) (search rules)
