use Rattle.std.proofs.Common.{◌∙◌, ◌++◌, sym, ap}
use Rattle.p414_syntax.specs.declared.calculations.Item.{Item}
use Rattle.p414_field_lists.specs.internal.Expanding.{own_rows}
use Rattle.p414_field_lists.proofs.Expanding.{instance_rows}
use Rattle.p414_field_lists.proofs.items.add_own.Goals as goal

pub returns-in_ok-add_instance-in-Instance : goal.returns-in_ok-add_instance-in-Instance
returns-in_ok-add_instance-in-Instance c =
    instance_rows c.args.slots.now c.in-Instance.instance c.args.rows.now c.add_instance.new.rows c.in_ok-add_instance-in-Instance.ensures
    ∙ ap (λ (i : Item). c.args.rows.now ++ own_rows c.args.slots.now i) (sym c.in-Instance.is)
