use Rattle.std.proofs.Common.{◌≡◌, ap, ◌∙◌}
use Rattle.p416_syntax.specs.Main.{positions_from}
use Rattle.v1_layout.proofs.Told.{declared_parser, declared_control}
use Rattle.v1_layout.proofs.kinds.add_declared.Goals as goal

-- src/kinds.rt:18:1
pub returns-in_ok-add_parser-in-Parser : goal.returns-in_ok-add_parser-in-Parser
returns-in_ok-add_parser-in-Parser c =
    let places : c.deref.result.now ≡ positions_from 0 c.args.syntax.now.main c.in-Parser.parser.name = c.deref.ensures.value ∙ (c.in_ok-places-in-Parser.ensures ∙ (ap (λ m. positions_from 0 m c.as_slice-in-Parser.result.now) c.as_slice.ensures ∙ ap (positions_from 0 c.args.syntax.now.main) c.as_slice-in-Parser.ensures)) in
    rw c.in-Parser.is (declared_parser c.args.syntax.now c.args.top.now c.deref.result.now c.in-Parser.parser _ _ c.requires places c.in_ok-add_parser-in-Parser.ensures)

-- src/kinds.rt:18:1
pub returns-in_ok-add_control-in-Control : goal.returns-in_ok-add_control-in-Control
returns-in_ok-add_control-in-Control c =
    let places : c.deref-in-Control.result.now ≡ positions_from 0 c.args.syntax.now.main c.in-Control.control.name = c.deref-in-Control.ensures.value ∙ (c.in_ok-places-in-Control.ensures ∙ (ap (λ m. positions_from 0 m c.as_slice-in-Control-2.result.now) c.as_slice-in-Control.ensures ∙ ap (positions_from 0 c.args.syntax.now.main) c.as_slice-in-Control-2.ensures)) in
    rw c.in-Control.is (declared_control c.args.syntax.now c.args.top.now c.deref-in-Control.result.now c.in-Control.control _ _ c.requires places c.in_ok-add_control-in-Control.ensures)
