use Rattle.p416_syntax.specs.Declarations.{top_names, top_scope}
use Rattle.p416_scopes.specs.Seen.{seen_scope}
use Rattle.p416_uses.proofs.ControlUses.{control_named}
use Rattle.p416_uses.proofs.controls.see_head.Goals as goal

pub returns : goal.returns
returns c =
    control_named c.args.found.now c.see_names.new.found c.see_counters.new.found c.see_parameters.new.found _ (top_names c.args.top.now) c.args.control.now (top_scope c.args.top.now c.args.positions.now) (seen_scope c.new-outside.result)
    c.in_ok-see_names.ensures (rw c.deref.ensures.value c.in_ok-names.ensures) c.in_ok-see_counters.ensures c.new-outside.ensures.scope (rw c.as_slice.ensures at c.in_ok-see_parameters.ensures)
