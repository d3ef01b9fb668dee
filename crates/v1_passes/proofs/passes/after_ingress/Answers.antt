use Rattle.std.proofs.Common.{sym, ap, ◌∙◌}
use Rattle.v1_core.specs.Values.{Value}
use Rattle.v1_core.specs.Cells.{Cells}
use Rattle.v1_packets.specs.Packets.{packet_frame}
use Rattle.v1_passes.specs.Tags.{Tagged}
use Rattle.v1_passes.specs.internal.Steps.{kept_by}
use Rattle.v1_passes.proofs.Ends.{resubmitted_is}
use Rattle.v1_passes.proofs.passes.after_ingress.Goals as goal

pub returns-in-Some-clause-next : goal.returns-in-Some-clause-next
returns-in-Some-clause-next c =
    resubmitted_is c.args.packets.now (packet_frame c.args.packets.now c.args.frame.value) c.in-Some.field-0-0 c.in-Some.list c.args.port c.args.unparsed.now c.in_ok-kept.kept c.args.frame.value.resubmit
    (c.in-Some.ensures ∙ ap (λ (x : Cells). x.resubmit) c.deref.ensures)
    (λ n. c.in_ok-kept.ensures n ∙ ap (λ (x : Cells). kept_by c.args.packets.now (packet_frame c.args.packets.now x) (n, c.in-Some.list)) c.deref-in-Some.ensures)

pub returns-in-Some-clause-own : goal.returns-in-Some-clause-own
returns-in-Some-clause-own c = λ set same. ap (λ (k : Tagged Value). k.program) (c.in_ok-kept.ensures 0) ∙ sym same
