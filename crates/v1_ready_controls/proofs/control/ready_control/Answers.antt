use Rattle.std.proofs.Common.{Some, option_map, sym, ap, subst, ◌∙◌}
use Rattle.std.specs.Prelude.{IfSome}
use Rattle.v1_ready_controls.specs.internal.Declared.{seen_parts, ArePartsIn}
use Rattle.v1_ready_controls.proofs.Standing.{ready_over}
use Rattle.v1_ready_controls.proofs.control.ready_control.Goals as goal

pub returns-in-Some-clause-block : goal.returns-in-Some-clause-block
returns-in-Some-clause-block c =
    ap Some c.ready_block.ensures.block ∙ (sym (ap (option_map (seen_parts c.parts_of.new.nodes)) c.in-Some.is) ∙ c.in_ok-found.ensures.parts)

pub returns-in-Some-clause-over : goal.returns-in-Some-clause-over
returns-in-Some-clause-over c =
    let l = c.args.layout.now in
    let new = c.parts_of.new.nodes in
    ready_over l c.args.shapes.now c.in_ok-nodes.nodes new c.in-Some.parts c.ready_block.result c.in_ok-nodes.ensures.is c.in_ok-found.ensures.grows (subst (λ v. IfSome v (ArePartsIn l new)) c.in-Some.is c.in_ok-found.ensures.within) c.ready_block.ensures.code c.ready_block.ensures.applies
