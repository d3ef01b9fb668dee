use Rattle.std.proofs.Common.{option_map, subst, ap, ◌∙◌}
use Rattle.v1_core.specs.Cells.{Cells}
use Rattle.v1_packets.specs.Packets.{packet_frame, egress_begun}
use Rattle.v1_passes.specs.Moments.{moment_at}
use Rattle.v1_passes.specs.Runs.{between_of}
use Rattle.v1_passes.specs.internal.Steps.{clone_held, finished, Finishes}
use Rattle.v1_passes.proofs.Ends.{between_same, egress_gives}
use Rattle.v1_passes.proofs.passes.Passes16Passes.egress.Goals as goal

pub returns-clause-gives : goal.returns-clause-gives
returns-clause-gives g c =
    let old = c.args.self.now in
    let held = c.into_parts-held.result in
    let s = c.packets-packets.result.now in
    let ran = g.B.Blocks.setting c.control.new.self in
    egress_gives (g.B.Blocks.setting old.blocks) ran (g.B.Blocks.setting c.finish.new.blocks) s
    (between_of (g.B.Blocks.store old.blocks) old.work old.events) (between_of (g.B.Blocks.store c.note.new.self.blocks) c.note.new.self.work c.note.new.self.events)
    c.args.held held.frame.value c.deref_mut-2.result.now c.control.new.frame c.finish.new.frame c.as_slice-unparsed.result.now held.unparsed held.port
    (g.B.Blocks.store c.control.new.self) (g.B.Blocks.store c.finish.new.blocks) c.emptied-emitted.result c.control.new.emitted c.control.new.work c.finish.new.work c.args.port c.args.instance c.in_ok-clone.clone c.in_ok-end.end
    c.packets-packets.ensures c.requires.own c.into_parts-held.ensures.value
    (ap (packet_frame s) c.deref_mut-2.ensures.value
    ∙ c.enter_egress.ensures.begins
    ∙ ap (λ (x : Cells). egress_begun c.args.port c.args.instance (packet_frame s x)) c.deref_mut.ensures.value)
    c.as_slice-unparsed.ensures c.emptied-emitted.ensures
    c.in_ok-control.ensures.setting c.in_ok-control.ensures.runs
    (c.in_ok-clone.ensures ∙ ap (λ (x : Cells). option_map (clone_held s held.port (packet_frame s x) c.as_slice-unparsed.result.now) x.clone_e2e) c.deref.ensures)
    c.in_ok-end.ensures.setting
    (subst (λ (x : Cells). Finishes (g.B.Blocks.setting c.finish.new.blocks).syntax c.finish.new.frame (g.B.Blocks.store c.finish.new.blocks) c.as_slice-unparsed.result.now c.finish.new.work c.in_ok-end.end (finished ran (moment_at ran.syntax x (g.B.Blocks.store c.control.new.self) c.as_slice-unparsed.result.now c.control.new.emitted c.control.new.work)))
    c.deref_mut-3.ensures.value c.in_ok-end.ensures.ends)
    (between_same _ _ _ _ _ _ (ap g.B.Blocks.store c.in_ok-note.ensures.blocks) c.in_ok-note.ensures.work (c.in_ok-note.ensures.events ∙ c.events.ensures ∙ ap (λ (x : Cells). x.events) c.deref-2.ensures))
