use Rattle.std.proofs.Common.{arith, ◌≡◌, map}
use Rattle.std.proofs.lemmas.Grind.{common_steps}
use Rattle.state_store.specs.Cells.{blank}
use Rattle.state_store.proofs.Stores.{new_is}
use Rattle.state_store.proofs.state.Store.new.Goals as goal

pub invariant_of-result : goal.invariant_of-result
invariant_of-result c =
    let made : c.loop-shape.cells.items ≡ map blank c.args.shapes.now = grind (arith, common_steps) in
    new_is c.args.shapes.now _ _ c.in_ok-from_slice.ensures.items made

pub returns-clause-store : goal.returns-clause-store
returns-clause-store c =
    let made : c.loop-shape.cells.items ≡ map blank c.args.shapes.now = grind (arith, common_steps) in
    new_is c.args.shapes.now _ _ c.in_ok-from_slice.ensures.items made
