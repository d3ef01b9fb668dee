use Rattle.std.proofs.Common.{sym, ap, ◌∙◌}
use Rattle.v1_core.specs.Cells.{Cells}
use Rattle.v1_packets.specs.Packets.{packet_frame}
use Rattle.v1_passes.specs.Runs.{between_of}
use Rattle.v1_passes.proofs.Ends.{fits_at, between_same, reparse_gives}
use Rattle.v1_passes.proofs.passes.Passes16Passes.reparse.Goals as goal

pub begin_frame-requires-clause-kept : goal.begin_frame-requires-clause-kept
begin_frame-requires-clause-kept g c =
    fits_at c.packets-packets.result.now c.args.item.now.kept.program c.numbers-kept.result.now (c.requires.1 ∙ sym c.packets-packets.ensures) c.numbers-kept.ensures.fits

pub returns-clause-gives : goal.returns-clause-gives
returns-clause-gives g c =
    let old = c.args.self.now in
    let set = g.B.Blocks.setting old.blocks in
    reparse_gives set (g.B.Blocks.setting c.parse.new.self) c.packets-packets.result.now
    (between_of (g.B.Blocks.store old.blocks) old.work old.events) (between_of (g.B.Blocks.store c.note.new.self.blocks) c.note.new.self.work c.note.new.self.events)
    c.args.item.now c.deref_mut.result.now c.parse.new.frame (g.B.Blocks.store c.parse.new.self) c.in_ok-end.end.at c.as_slice-octets.result.now c.numbers-kept.result.now c.parse.new.work
    c.packets-packets.ensures c.requires.1 c.numbers-kept.ensures.value c.as_slice-octets.ensures (ap (packet_frame c.packets-packets.result.now) c.deref_mut.ensures.value ∙ c.in_ok-frame.ensures.begins) c.in_ok-end.ensures.setting
    (between_same _ _ _ _ _ _ (ap g.B.Blocks.store c.in_ok-note.ensures.blocks) c.in_ok-note.ensures.work (c.in_ok-note.ensures.events ∙ c.events.ensures ∙ ap (λ (x : Cells). x.events) c.deref.ensures))
    c.in_ok-end.end.error c.in_ok-held.held c.in_ok-end.ensures.parses c.in_ok-held.ensures
