use Rattle.p416_signature.specs.internal.Gathered.{sig_at}
use Rattle.p416_signature.proofs.Whole.{kept_now}
use Rattle.p416_signature.proofs.tables.sigs_at.Goals as goal

pub loop-name-preserved : goal.loop-name-preserved
loop-name-preserved c =
    kept_now (sig_at c.args.sigs.now c.args.names.now) c.args.ordered.now c.loop-name.name-index _ c.loop-name.tables c.add_again.new.found _
    c.loop-name-test.true c.in_ok-add_again.ensures c.loop-name.invariant
