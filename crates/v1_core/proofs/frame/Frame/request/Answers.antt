use Rattle.std.proofs.Common.{ap, ◌∙◌}
use Rattle.v1_core.specs.Cells.{Cells, request_of}
use Rattle.v1_core.proofs.Frames.{request_is}
use Rattle.v1_core.proofs.frame.Frame.request.Goals as goal

pub returns : goal.returns
returns c =
    c.get.ensures
    ∙ request_is c.self.inside.layout.now c.self.inside.numbers.items c.self.inside.valids.items c.self.inside.places.items c.self.inside.requests c.self.inside.events.items c.args.kind
    ∙ ap (λ (x : Cells). request_of x c.args.kind) c.self.view_is
