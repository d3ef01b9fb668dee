use Rattle.std.proofs.Common.{◌≡◌, ◌||◌, ◌∙◌, ◌∷◌, ◌+◌, List, drop, sym, ap}
use Rattle.p414_syntax.specs.Names.{Name, has_name}
use Rattle.p414_uses.proofs.Adding.{kept_on, next_name}
use Rattle.p414_uses.proofs.collect.actions.parameters_of.Goals as goal

pub loop-name-preserved : goal.loop-name-preserved
loop-name-preserved c = λ n.
    let names = c.args.names.now in
    let i = c.loop-name.name-index in
    let e : drop i names ≡ c.as_slice.result.now ∷ drop (i + 1) names = next_name names i c.name-item.result c.as_slice.result.now c.loop-name-test.true (c.as_slice.ensures ∙ c.name-item.is) in
    kept_on c.loop-name.set c.add.new.self (drop (i + 1) names) c.as_slice.result.now c.in_ok-_added._added c.in_ok-_added.ensures n
    ∙ (sym (ap (λ (l : List Name). has_name c.loop-name.set n || has_name l n) e) ∙ c.loop-name.invariant n)
