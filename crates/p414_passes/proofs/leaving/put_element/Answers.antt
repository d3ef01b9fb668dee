use Rattle.std.proofs.Common.{sym, ◌∙◌}
use Rattle.p414_layout.specs.Shapes.{shape_at}
use Rattle.p414_sem.specs.State.{header_at}
use Rattle.p414_passes.proofs.Deparsing.{valid_put}
use Rattle.p414_passes.proofs.leaving.put_element.Goals as goal

pub returns-then-valid : goal.returns-then-valid
returns-then-valid c =
    valid_put (shape_at c.args.state.now.layout c.args.instance).widths (header_at c.args.state.now.state c.args.instance c.args.element) c.octets.result.now c.args.out.now c.put_octets.new.out
    (sym c.valid.ensures ∙ c.if-valid.true) (c.octets.ensures c.requires) c.in_ok-put_octets.ensures.are c.in_ok-put_octets.ensures.put
