use Rattle.std.proofs.Common.{option_map, sym, ap, ◌∙◌}
use Rattle.v1_core.specs.Cells.{Cells}
use Rattle.v1_passes.specs.Runs.{between_of}
use Rattle.v1_passes.specs.internal.Steps.{clone_kept}
use Rattle.v1_packets.specs.Packets.{packet_frame}
use Rattle.v1_passes.proofs.Ends.{fits_at, between_same, own_clone, ingress_gives}
use Rattle.v1_passes.proofs.passes.Passes16Passes.ingress.Goals as goal

pub begin_frame-requires-clause-kept : goal.begin_frame-requires-clause-kept
begin_frame-requires-clause-kept g c =
    fits_at c.packets-packets.result.now c.args.item.now.kept.program c.numbers-kept.result.now (c.requires.1 ∙ sym c.packets-packets.ensures) c.numbers-kept.ensures.fits

pub returns-clause-gives : goal.returns-clause-gives
returns-clause-gives g c =
    let old = c.args.self.now in
    let set = g.B.Blocks.setting old.blocks in
    ingress_gives set (g.B.Blocks.setting c.run_to_egress.new.blocks) c.packets-packets.result.now
    (between_of (g.B.Blocks.store old.blocks) old.work old.events) (between_of (g.B.Blocks.store c.note.new.self.blocks) c.note.new.self.work c.note.new.self.events)
    c.args.item.now c.deref_mut.result.now c.run_to_egress.new.frame (g.B.Blocks.store c.run_to_egress.new.blocks) c.in_ok-at.at c.as_slice-octets.result.now c.numbers-kept.result.now c.run_to_egress.new.work
    c.packets-packets.ensures c.requires.1 c.numbers-kept.ensures.value c.as_slice-octets.ensures (ap (packet_frame c.packets-packets.result.now) c.deref_mut.ensures.value ∙ c.in_ok-frame.ensures.begins) c.in_ok-at.ensures.setting
    (between_same _ _ _ _ _ _ (ap g.B.Blocks.store c.in_ok-note.ensures.blocks) c.in_ok-note.ensures.work (c.in_ok-note.ensures.events ∙ c.events.ensures ∙ ap (λ (x : Cells). x.events) c.deref.ensures))
    c.in_ok-clone.clone c.in_ok-next.next c.in_ok-at.ensures.runs (c.in_ok-clone.ensures ∙ ap (λ (x : Cells). option_map (clone_kept c.packets-packets.result.now (packet_frame c.packets-packets.result.now x)) x.clone_i2e) c.deref-2.ensures) c.in_ok-next.ensures.next

pub returns-clause-own : goal.returns-clause-own
returns-clause-own g c =
    let set = g.B.Blocks.setting c.args.self.now.blocks in (
      own_clone set c.packets-packets.result.now (packet_frame c.packets-packets.result.now c.run_to_egress.new.frame) c.run_to_egress.new.frame.clone_i2e c.in_ok-clone.clone c.packets-packets.ensures (c.in_ok-clone.ensures ∙ ap (λ (x : Cells). option_map (clone_kept c.packets-packets.result.now (packet_frame c.packets-packets.result.now x)) x.clone_i2e) c.deref-2.ensures),
      c.in_ok-next.ensures.own set (sym c.packets-packets.ensures),
    )
