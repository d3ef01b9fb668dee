use Rattle.std.proofs.Common.{rules, ◌+◌, ℕ, length, refl, ap}
use Rattle.p416_main_check.proofs.Standing.{begun, one_turn, all_placed}
use Rattle.p416_main_check.proofs.places.places_of.Goals as goal

pub loop-name-init : goal.loop-name-init
loop-name-init c = (refl, begun c.args.main.now (length c.args.main.now) c.in_ok-places.places.items refl c.in_ok-places.ensures)

pub loop-name-preserved : goal.loop-name-preserved
loop-name-preserved c = (
  ap (λ (n : ℕ). n + 1) c.loop-name.invariant.0,
  one_turn c.args.main.now c.args.names.now c.loop-name.name-index c.loop-name.place _ c.loop-name.places.items c.add_place.new.places.items c.requires c.loop-name.invariant.0 (search rules) c.name-item.is c.in_ok-add_place.ensures c.loop-name.invariant.1,
)

pub returns : goal.returns
returns c = all_placed c.args.main.now c.loop-name.name-index c.loop-name.places.items (search rules) c.loop-name.invariant.1
