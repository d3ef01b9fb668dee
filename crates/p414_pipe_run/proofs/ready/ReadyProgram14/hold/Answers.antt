use Rattle.std.proofs.Common.{◌≡◌, ap}
use Rattle.p414_layout.specs.Shapes.{layout_of}
use Rattle.p414_sem.specs.Passes.{begins}
use Rattle.p414_state.specs.Packets.{Packet}
use Rattle.p414_pipe_run.proofs.Parsing.{item_parsed}
use Rattle.p414_pipe_run.proofs.Steps.{parser_fits, parts_now}
use Rattle.p414_pipe_run.proofs.ready.ReadyProgram14.hold.Goals as goal

pub parse_ready-requires : goal.parse_ready-requires
parse_ready-requires c =
    parser_fits (record { loaded = c.self.inside.pipelines; order = c.self.inside.order }) c.args.self.now c.self.inside.parser c.self.inside.layout c.self.inside.lists c.self.inside.fields c.self.inside.calculations c.self.view_is c.self.invariant
    c.in_ok-packet.packet
    (ap (λ (q : Packet). q.layout) c.in_ok-packet.ensures)

pub returns : goal.returns
returns c =
    let begun : c.in_ok-packet.packet ≡ record { layout = layout_of c.args.self.now.loaded.decls; state = begins c.args.self.now.loaded.decls c.args.item.now } = c.in_ok-packet.ensures in
    item_parsed c.args.self.now.loaded.decls c.in_ok-packet.packet c.parse_ready.new.state c.self.inside.parser c.in_ok-end.end c.is_accepted.result (begins c.args.self.now.loaded.decls c.args.item.now) begun
    (parts_now (record { loaded = c.self.inside.pipelines; order = c.self.inside.order }) c.args.self.now c.self.inside.parser c.self.inside.layout c.self.inside.lists c.self.inside.fields c.self.inside.calculations c.self.view_is c.self.invariant).means
    c.in_ok-end.ensures c.is_accepted.ensures
