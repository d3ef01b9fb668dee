use Rattle.std.proofs.Common.{map, ap, ◌∙◌}
use Rattle.p416_uses.specs.Variables.{seen_variable}
use Rattle.p416_uses.proofs.BodyUses.{names_told}
use Rattle.p416_uses.proofs.variables.see_scope.Goals as goal

pub returns : goal.returns
returns c =
    names_told c.args.found.now c.see_names.new.found _ (map seen_variable c.deref.result.now) c.args.body.now c.in_ok-see_names.ensures
    (rw c.deref-2.ensures.value c.in_ok-names.ensures) (ap (map seen_variable) c.deref.ensures.value ∙ c.in_ok-variables.ensures)
