use Rattle.std.proofs.Common.{ℕ, List, ◌++◌, Option, sym, ap, ◌∙◌, subst, arith, append-nil}
use Rattle.command_examples.specs.internal.Passes.{IsPass14}
use Rattle.command_examples.proofs.Sending.{all_more, all_ends, leaving_from}
use Rattle.command_examples.proofs.plain.run14.Goals.{in-Some+in_ok-push, in_default}
use Rattle.command_examples.proofs.plain.run14.Goals as goal

pub loop-number-preserved : goal.loop-number-preserved
loop-number-preserved c =
    let widths = c.args.widths.now in
    let port = c.args.port in
    let packets = c.args.packets.now in
    let number = c.loop-number.number in
    let sent = c.loop-number.sent in
    let octets = c.index-packets-number.result in
    let leaving = c.in_ok-octets.field-0 in
    let passes : IsPass14 widths port octets leaving = subst (λ (l : List ℕ). IsPass14 widths port l leaving) c.as_slice.ensures c.in_ok-octets.ensures in
    elim c.match-branch-2.branch [
      | in-Some+in_ok-push w ↦ all_more widths port packets number sent _ octets leaving (omega arith) c.index-packets-number.is passes (w.sent-is ∙ w.in_ok-push.ensures.ok ∙ ap (λ (r : Option (List ℕ)). sent ++ leaving_from number port r) (sym w.in-Some.is)) c.loop-number.invariant
      | in_default w ↦ all_more widths port packets number sent _ octets leaving (omega arith) c.index-packets-number.is passes (w.sent-is ∙ sym (append-nil sent) ∙ ap (λ (r : Option (List ℕ)). sent ++ leaving_from number port r) (sym w.in_default.is)) c.loop-number.invariant
    ]

pub returns : goal.returns
returns c = all_ends c.args.widths.now c.args.port c.args.packets.now c.loop-number.number c.loop-number.sent (omega arith) c.loop-number.invariant
